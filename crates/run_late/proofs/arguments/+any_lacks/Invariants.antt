use Rattle.std.proofs.Common.{length}
use Rattle.run_late.proofs.arguments.+any_lacks.Given as goal

abbrev pub decreases-any_lacks : goal.decreases-any_lacks
decreases-any_lacks l = length l.parameters.now
