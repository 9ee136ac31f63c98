use Rattle.std.proofs.Common.{length}
use Rattle.bound_members.proofs.taking.+is_given.Given as goal

abbrev pub decreases-is_given : goal.decreases-is_given
decreases-is_given l = length l.shapes.now
