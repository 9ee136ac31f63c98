use Rattle.std.proofs.Common.{length}
use Rattle.bound_project.proofs.parameters.+last_type.Given as goal

abbrev pub decreases-last_type : goal.decreases-last_type
decreases-last_type l = length l.parameters.now
