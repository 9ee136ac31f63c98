use Rattle.std.proofs.Common.{◌-◌, length}
use Rattle.run_memory.proofs.leaving.+empty_slots.Given as goal

abbrev pub decreases-empty_slots : goal.decreases-empty_slots
decreases-empty_slots l = length l.slots.now.items - l.from
