-- Too many arguments.
use Rattle.std.proofs.Common.{◌≡◌, ℕ, ◌≤◌, List, [], ◌∷◌, length, map, refl, arith}
use Rattle.vba_meaning.specs.Memory.{Memory}
use Rattle.vba_meaning.specs.Effects.{Bad-at, slot_values}
use Rattle.vba_meaning.specs.Collections.{item_found, item_removed}
use Rattle.run_memory.specs.declared.frame.Slot.{Slot}
use Rattle.run_memory.specs.View.{slot_view}

pub found_by_many : (o : ℕ) (xs : List Slot) (m : Memory) → 2 ≤ length xs → item_found o (slot_values (map slot_view xs)) m ≡ Bad-at 450 m
found_by_many o [] m h = absurd (omega arith)
found_by_many o (x ∷ []) m h = absurd (omega arith)
found_by_many o (x ∷ y ∷ xs) m h = refl

pub removed_by_many : (o : ℕ) (xs : List Slot) (m : Memory) → 2 ≤ length xs → item_removed o (slot_values (map slot_view xs)) m ≡ Bad-at 450 m
removed_by_many o [] m h = absurd (omega arith)
removed_by_many o (x ∷ []) m h = absurd (omega arith)
removed_by_many o (x ∷ y ∷ xs) m h = refl
