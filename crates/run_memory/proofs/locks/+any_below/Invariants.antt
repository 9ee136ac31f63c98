use Rattle.std.proofs.Common.{length}
use Rattle.run_memory.proofs.locks.+any_below.Given as goal

abbrev pub decreases-any_below : goal.decreases-any_below
decreases-any_below l = length l.paths.now
