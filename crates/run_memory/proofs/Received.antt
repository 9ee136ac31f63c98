-- What parameters have, from one on.
use Rattle.std.proofs.Common.{◌≡◌, ℕ, zero, suc, ◌+◌, ◌<◌, ◌≤◌, List, [], ◌∷◌, length, map, get_or, refl, ap, ◌∙◌, arith, add-one}
use Rattle.std.specs.Prelude.{slice_set}
use Rattle.run_memory.specs.declared.frame.Slot.{Slot}
use Rattle.run_memory.specs.View.{slot_view}
use Rattle.run_memory.specs.Calls.{received_from}
use Rattle.vba_meaning.specs.Memory as plain

pub received_all : (xs : List plain.Slot) → received_from 0 xs ≡ map plain.received xs
received_all [] = refl
received_all (x ∷ xs) = ap (λ ys. plain.received x ∷ ys) (received_all xs)

next : (xs : List Slot) (n : ℕ) (s d : Slot) → n < length xs → slot_view s ≡ plain.received (slot_view (get_or xs n d))
    → received_from (suc n) (map slot_view (slice_set xs n s)) ≡ received_from n (map slot_view xs)
next [] n s d h e = absurd (omega arith)
next (x ∷ xs) zero s d h e = ap (λ y. y ∷ received_from zero (map slot_view xs)) e
next (x ∷ xs) (suc n) s d h e = ap (λ ys. slot_view x ∷ ys) (next xs n s d (omega arith) e)

pub received_next : (xs : List Slot) (n : ℕ) (s d : Slot) → n < length xs → slot_view s ≡ plain.received (slot_view (get_or xs n d))
    → received_from (n + 1) (map slot_view (slice_set xs n s)) ≡ received_from n (map slot_view xs)
received_next xs n s d h e = ap (λ k. received_from k (map slot_view (slice_set xs n s))) (add-one n) ∙ next xs n s d h e

pub received_past : (xs : List Slot) (n : ℕ) → length xs ≤ n → received_from n (map slot_view xs) ≡ map slot_view xs
received_past [] n h = refl
received_past (x ∷ xs) zero h = absurd (omega arith)
received_past (x ∷ xs) (suc n) h = ap (λ ys. slot_view x ∷ ys) (received_past xs n (omega arith))
