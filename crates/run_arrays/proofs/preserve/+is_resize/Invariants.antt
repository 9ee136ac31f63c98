use Rattle.std.proofs.Common.{length}
use Rattle.run_arrays.proofs.preserve.+is_resize.Given as goal

abbrev pub decreases-is_resize : goal.decreases-is_resize
decreases-is_resize l = length l.old.now
