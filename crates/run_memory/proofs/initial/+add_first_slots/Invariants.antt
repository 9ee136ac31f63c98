use Rattle.std.proofs.Common.{length}
use Rattle.run_memory.proofs.initial.+add_first_slots.Given as goal

abbrev pub decreases-add_first_slots : goal.decreases-add_first_slots
decreases-add_first_slots l = length l.variables.now
