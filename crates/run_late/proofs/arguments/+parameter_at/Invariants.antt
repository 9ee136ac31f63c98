use Rattle.std.proofs.Common.{length}
use Rattle.run_late.proofs.arguments.+parameter_at.Given as goal

abbrev pub decreases-parameter_at : goal.decreases-parameter_at
decreases-parameter_at l = length l.parameters.now
