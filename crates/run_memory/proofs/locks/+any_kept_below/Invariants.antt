use Rattle.std.proofs.Common.{length}
use Rattle.run_memory.proofs.locks.+any_kept_below.Given as goal

abbrev pub decreases-any_kept_below : goal.decreases-any_kept_below
decreases-any_kept_below l = length l.keeps.now
