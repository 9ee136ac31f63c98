use Rattle.std.proofs.Common.{length}
use Rattle.run_memory.proofs.locks.+any_slot_below.Given as goal

abbrev pub decreases-any_slot_below : goal.decreases-any_slot_below
decreases-any_slot_below l = length l.slots.now
