use Rattle.std.proofs.Common.{length}
use Rattle.bound_members.proofs.taking.+names_taken.Given as goal

abbrev pub decreases-names_taken : goal.decreases-names_taken
decreases-names_taken l = length l.shapes.now
