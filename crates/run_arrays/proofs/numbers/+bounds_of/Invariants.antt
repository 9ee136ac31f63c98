use Rattle.std.proofs.Common.{length}
use Rattle.run_arrays.proofs.numbers.+bounds_of.Given as goal

abbrev pub decreases-bounds_of : goal.decreases-bounds_of
decreases-bounds_of l = length l.numbers.now
