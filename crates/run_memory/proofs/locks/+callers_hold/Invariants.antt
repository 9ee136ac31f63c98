use Rattle.std.proofs.Common.{length}
use Rattle.run_memory.proofs.locks.+callers_hold.Given as goal

abbrev pub decreases-callers_hold : goal.decreases-callers_hold
decreases-callers_hold l = length l.callers.now
