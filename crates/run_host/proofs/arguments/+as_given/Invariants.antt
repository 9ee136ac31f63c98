use Rattle.std.proofs.Common.{length}
use Rattle.run_host.proofs.arguments.+as_given.Given as goal

abbrev pub decreases-as_given : goal.decreases-as_given
decreases-as_given l = length l.slots.now
