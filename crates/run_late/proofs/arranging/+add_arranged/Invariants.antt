use Rattle.std.proofs.Common.{length}
use Rattle.run_late.proofs.arranging.+add_arranged.Given as goal

abbrev pub decreases-add_arranged : goal.decreases-add_arranged
decreases-add_arranged l = length l.parameters.now
