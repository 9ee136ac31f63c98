use Rattle.std.proofs.Common.{length}
use Rattle.run_late.proofs.arguments.+numbered_by.Given as goal

abbrev pub decreases-numbered_by : goal.decreases-numbered_by
decreases-numbered_by l = length l.parameters.now
