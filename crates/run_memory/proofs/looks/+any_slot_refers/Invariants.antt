use Rattle.std.proofs.Common.{length}
use Rattle.run_memory.proofs.looks.+any_slot_refers.Given as goal

abbrev pub decreases-any_slot_refers : goal.decreases-any_slot_refers
decreases-any_slot_refers l = length l.slots.now
