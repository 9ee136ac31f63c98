use Rattle.std.proofs.Common.{length}
use Rattle.run_arrays.proofs.numbers.+numbers.Given as goal

abbrev pub decreases-numbers : goal.decreases-numbers
decreases-numbers l = length l.slots.now
