-- What parameters have, by the numbers of their arguments.
use Rattle.std.proofs.Common.{◌≡◌, ℕ, zero, suc, ◌+◌, ◌-◌, ◌<◌, ◌≤◌, List, [], ◌∷◌, ◌++◌, length, get_or, map, take, drop, refl, sym, ap, ◌∙◌, arith}
use Rattle.std.specs.Prelude.{slice_index_or}
use Rattle.std.proofs.lemmas.List.{append_assoc, drop-map, map-append, take-map, take_all}
use Rattle.vba_values.specs.Val.{missing}
use Rattle.bound_project.specs.declared.declarations.Parameter.{Parameter}
use Rattle.bound_project.specs.Expressions.{ByName}
use Rattle.bound_project.specs.View.{parameter_view}
use Rattle.vba_meaning.specs.Memory as plain
use Rattle.vba_meaning.specs.Memory.{value}
use Rattle.vba_meaning.specs.LateBound.{arranged_from}
use Rattle.run_memory.specs.declared.frame.Slot.{Slot}
use Rattle.run_memory.specs.View.{slot_view}
use Rattle.run_late.specs.Slots.{slot_arranged}

pub slot_there : (xs : List Slot) (i : ℕ) (d : Slot) → i < length xs → slice_index_or (map slot_view xs) i (value missing) ≡ slot_view (get_or xs i d)
slot_there [] i d h = absurd (omega arith)
slot_there (x ∷ xs) zero d h = refl
slot_there (x ∷ xs) (suc i) d h = slot_there xs i d (omega arith)

pub slot_past : (xs : List Slot) (i : ℕ) → length xs ≤ i → slice_index_or (map slot_view xs) i (value missing) ≡ value missing
slot_past [] i h = refl
slot_past (x ∷ xs) zero h = absurd (omega arith)
slot_past (x ∷ xs) (suc i) h = slot_past xs i (omega arith)

-- a part of them
pub part_of_views : (xs : List Slot) (i n : ℕ) → map slot_view (drop i (take n xs)) ≡ drop i (take n (map slot_view xs))
part_of_views xs i n = sym (drop-map slot_view i (take n xs)) ∙ ap (drop i) (sym (take-map slot_view n xs))

-- what the first parameter has, and those behind it
pub arranged_first : (by : ByName) (j : ℕ) (qs : List Parameter) (q : Parameter) (xs : List plain.Slot) → 1 ≤ length qs → q ≡ slice_index_or qs 0 q
    → arranged_from by j (map parameter_view qs) xs ≡ slot_arranged by j (parameter_view q) xs ∷ arranged_from by (j + 1) (map parameter_view (take (length qs - 1) (drop 1 qs))) xs
arranged_first by j [] q xs h is = absurd (omega arith)
arranged_first by j (p ∷ qs) q xs h is =
    let first : p ≡ q = sym is in
    let next : suc j ≡ j + 1 = omega arith in
    let rest : qs ≡ take (length (p ∷ qs) - 1) qs = sym (take_all (length (p ∷ qs) - 1) qs (omega arith)) in
    ap (λ (k : Parameter). slot_arranged by j (parameter_view k) xs ∷ arranged_from by (suc j) (map parameter_view qs) xs) first
    ∙ ap (λ (k : ℕ). slot_arranged by j (parameter_view q) xs ∷ arranged_from by k (map parameter_view qs) xs) next
    ∙ ap (λ (l : List Parameter). slot_arranged by j (parameter_view q) xs ∷ arranged_from by (j + 1) (map parameter_view l) xs) rest

-- one more slot behind others
pub slot_added : (old : List Slot) (s : Slot) (x : plain.Slot) (rest all : List plain.Slot) → slot_view s ≡ x → all ≡ x ∷ rest → map slot_view (old ++ s ∷ []) ++ rest ≡ map slot_view old ++ all
slot_added old s x rest all is e =
    ap (λ (l : List plain.Slot). l ++ rest) (map-append slot_view old (s ∷ [])) ∙ append_assoc (map slot_view old) (slot_view s ∷ []) rest ∙ ap (λ (y : plain.Slot). map slot_view old ++ y ∷ rest) is
    ∙ ap (λ (l : List plain.Slot). map slot_view old ++ l) (sym e)
