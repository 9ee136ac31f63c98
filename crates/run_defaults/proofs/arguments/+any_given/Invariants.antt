use Rattle.std.proofs.Common.{length}
use Rattle.run_defaults.proofs.arguments.+any_given.Given as goal

abbrev pub decreases-any_given : goal.decreases-any_given
decreases-any_given l = length l.arguments.now
