use Rattle.std.proofs.Common.{length}
use Rattle.arrays_udt.proofs.resize.+is_resize.Given as goal

abbrev pub decreases-is_resize : goal.decreases-is_resize
decreases-is_resize l = length l.old.now
