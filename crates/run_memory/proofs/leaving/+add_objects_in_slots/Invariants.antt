use Rattle.std.proofs.Common.{length}
use Rattle.run_memory.proofs.leaving.+add_objects_in_slots.Given as goal

abbrev pub decreases-add_objects_in_slots : goal.decreases-add_objects_in_slots
decreases-add_objects_in_slots l = length l.slots.now
