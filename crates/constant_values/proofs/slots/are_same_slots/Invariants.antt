use Rattle.std.proofs.Common.{◌≡◌, length}
use Rattle.constant_values.specs.Slots.{are_same_slots}
use Rattle.constant_values.specs.View.{slots_view}
use Rattle.constant_values.proofs.slots.are_same_slots.Given as goal

abbrev pub invariant-loop-slots : goal.invariant-loop-slots
invariant-loop-slots l = are_same_slots (slots_view l.slots) (slots_view l.others) ≡ are_same_slots (slots_view l.fn.slots) (slots_view l.fn.others)

abbrev pub decreases-loop-slots : goal.decreases-loop-slots
decreases-loop-slots l = length l.slots
