use Rattle.std.proofs.Common.{length}
use Rattle.bound_project.proofs.parameters.+any_must.Given as goal

abbrev pub decreases-any_must : goal.decreases-any_must
decreases-any_must l = length l.parameters.now
