-- Slots without their values.
use Rattle.std.proofs.Common.{◌≡◌, ℕ, zero, suc, ◌+◌, ◌<◌, ◌≤◌, List, [], ◌∷◌, length, map, get_or, refl, ap, ◌∙◌, arith, add-one}
use Rattle.std.specs.Prelude.{slice_set}
use Rattle.run_memory.specs.declared.frame.Slot.{Slot}
use Rattle.run_memory.specs.View.{slot_view}
use Rattle.run_memory.specs.Slots.{emptied_from, emptied_slot}
use Rattle.vba_values.specs.Val.{empty}
use Rattle.vba_meaning.specs.Memory as plain
use Rattle.vba_meaning.specs.References.{but_result, without_values}

pub emptied_all : (xs : List plain.Slot) → emptied_from 0 xs ≡ without_values xs
emptied_all [] = refl
emptied_all (plain.value v ∷ xs) = ap (λ ys. plain.value empty ∷ ys) (emptied_all xs)
emptied_all (plain.path p ∷ xs) = ap (λ ys. plain.path p ∷ ys) (emptied_all xs)

pub emptied_behind : (xs : List plain.Slot) → emptied_from 1 xs ≡ but_result xs
emptied_behind [] = refl
emptied_behind (x ∷ xs) = ap (λ ys. x ∷ ys) (emptied_all xs)

next : (xs : List Slot) (n : ℕ) (s d : Slot) → n < length xs → slot_view s ≡ emptied_slot (slot_view (get_or xs n d))
    → emptied_from (suc n) (map slot_view (slice_set xs n s)) ≡ emptied_from n (map slot_view xs)
next [] n s d h e = absurd (omega arith)
next (x ∷ xs) zero s d h e = ap (λ y. y ∷ emptied_from zero (map slot_view xs)) e
next (x ∷ xs) (suc n) s d h e = ap (λ ys. slot_view x ∷ ys) (next xs n s d (omega arith) e)

pub emptied_next : (xs : List Slot) (n : ℕ) (s d : Slot) → n < length xs → slot_view s ≡ emptied_slot (slot_view (get_or xs n d))
    → emptied_from (n + 1) (map slot_view (slice_set xs n s)) ≡ emptied_from n (map slot_view xs)
emptied_next xs n s d h e = ap (λ k. emptied_from k (map slot_view (slice_set xs n s))) (add-one n) ∙ next xs n s d h e

pub emptied_past : (xs : List Slot) (n : ℕ) → length xs ≤ n → emptied_from n (map slot_view xs) ≡ map slot_view xs
emptied_past [] n h = refl
emptied_past (x ∷ xs) zero h = absurd (omega arith)
emptied_past (x ∷ xs) (suc n) h = ap (λ ys. slot_view x ∷ ys) (emptied_past xs n (omega arith))
