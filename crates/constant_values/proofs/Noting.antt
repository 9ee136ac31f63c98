-- What is noted of S20, place by place.
use Rattle.std.proofs.Common.{◌≡◌, ◌≤◌, ◌-◌, ℕ, zero, suc, Bool, true, false, ◌&&◌, ◌||◌, List, [], ◌∷◌, ◌++◌, Option, Some, None, length, take, drop, get_or, refl, ap, sym, ◌∙◌, arith}
use Rattle.std.proofs.lemmas.List.{take_rest}
use Rattle.std.specs.Prelude.{◌==◌, is_none, ℤ, pos, negsuc, ◌+ℤ◌, if◌then◌else◌}
use Rattle.vba_base.specs.declared.place.Place.{Place}
use Rattle.vba_base.specs.declared.place.Refusal.{Refusal}
use Rattle.vba_values.specs.declared.types.WholeKind.TheVariants as kind
use Rattle.vba_values.specs.Whole.{fits}
use Rattle.vba_module.specs.Misplaced.{place_if}
use Rattle.vba_module.specs.Verdict.{broken}
use Rattle.refusal_order.specs.Least.{lesser, least_of, broken_if}
use Rattle.std.specs.Prelude.{nat_le, not, int_le}
use Rattle.std.specs.List.{list_all}
use Rattle.vba_values.specs.declared.value.Bound.{Bound}
use Rattle.arrays_udt.specs.Shapes.{is_ordered, elements}
use Rattle.vba_tree.specs.Tree.{Dim, upper}
use Rattle.declared_names.specs.binder.specs.Constants.{unless, stepped, turn_fault, order_fault, many_elements, place_of_expression}
use Rattle.constant_values.specs.Bounds.{first_expression}

pub noted_if : (found : Option Refusal) (b : Bool) (place : Place) → least_of found (broken_if b 20 place) ≡ least_of found (broken 20 (place_if b place))
noted_if found true place = refl
noted_if found false place = refl

pub noted_append : (found : Option Refusal) (places others : List Place)
    → least_of found (broken 20 (places ++ others)) ≡ least_of (least_of found (broken 20 places)) (broken 20 others)
noted_append found [] others = refl
noted_append found (place ∷ places) others = noted_append (Some (lesser found (record { rule = 20; place = place }))) places others

-- some places were noted, and those behind them are left
pub noted_next : (found now : Option Refusal) (places others : List Place) (all : Option Refusal) → now ≡ least_of found (broken 20 places)
    → least_of found (broken 20 (places ++ others)) ≡ all → least_of now (broken 20 others) ≡ all
noted_next found now places others all e h =
    ap (λ (t : Option Refusal). least_of t (broken 20 others)) e ∙ (sym (noted_append found places others) ∙ h)

-- the first of some, and those behind it
pub first_of : {A : Type 0} (xs : List A) (x : A) → 1 ≤ length xs → x ≡ get_or xs 0 x → xs ≡ x ∷ take (length xs - 1) (drop 1 xs)
first_of [] x some first = absurd (omega arith)
first_of (y ∷ ys) x some first = ap (λ z. z ∷ ys) (sym first) ∙ ap (λ zs. x ∷ zs) (sym (take_rest (y ∷ ys) 1))

pub unless_place : {A : Type 0} (value : Option A) (place : Place) → unless value place ≡ place_if (is_none value) place
unless_place None place = refl
unless_place (Some value) place = refl

turn_if : (b : Bool) (place : Place) → (if b then place ∷ [] else []) ≡ place_if b place
turn_if true place = refl
turn_if false place = refl

pub turn_place : (place : Place) (steps : ℕ) (z : ℤ)
    → turn_fault place steps (Some z) ≡ place_if (is_none (stepped steps (Some z)) && (steps == 0 || fits kind.Long (z +ℤ negsuc 0 +ℤ pos steps))) place
turn_place place steps z = turn_if (is_none (stepped steps (Some z)) && (steps == 0 || fits kind.Long (z +ℤ negsuc 0 +ℤ pos steps))) place

order_if : (b : Bool) (place : Place) → (if b then [] else place ∷ []) ≡ place_if (not b) place
order_if true place = refl
order_if false place = refl

pub order_place : (bound : Bound) (place : Place) → order_fault (Some bound) place ≡ place_if (not (is_ordered bound)) place
order_place bound place = order_if (is_ordered bound) place

pub many_place : (d : Dim) (ds : List Dim) (bounds : List Bound)
    → many_elements (d ∷ ds) (Some bounds) ≡ place_if (list_all is_ordered bounds && not (nat_le (elements bounds) 1048576)) (place_of_expression (first_expression d))
many_place (upper e) ds bounds = turn_if (list_all is_ordered bounds && not (nat_le (elements bounds) 1048576)) (place_of_expression e)
many_place (Dim.range low to_word high) ds bounds = turn_if (list_all is_ordered bounds && not (nat_le (elements bounds) 1048576)) (place_of_expression low)
