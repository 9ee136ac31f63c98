-- The least refusal, by place and then by rule.
use Rattle.std.specs.Prelude.{ℕ, Bool, true, false, List, [], ◌∷◌, Option, Some, None, if◌then◌else◌}
use Rattle.vba_base.specs.declared.place.Place.{Place}
use Rattle.vba_base.specs.declared.place.Refusal.{Refusal}
use Rattle.vba_lexer.specs.Order.{not_later}

-- the lesser of what was found and one more
abbrev pub lesser : Option Refusal → Refusal → Refusal
lesser None refusal = refusal
lesser (Some found) refusal = if not_later found refusal then found else refusal

-- the least of what was found and more
abbrev pub least_of : Option Refusal → List Refusal → Option Refusal
least_of found [] = found
least_of found (refusal ∷ refusals) = least_of (Some (lesser found refusal)) refusals

-- the lesser of two, of which each may be missing
abbrev pub least_of_both : Option Refusal → Option Refusal → Option Refusal
least_of_both found None = found
least_of_both found (Some refusal) = Some (lesser found refusal)

-- a rule that is broken at a place, or isn't
abbrev pub broken_if : Bool → ℕ → Place → List Refusal
broken_if true rule place = record { rule = rule; place = place } ∷ []
broken_if false rule place = []

-- the fault of a line, where it has one
abbrev pub fault_list : Option Refusal → List Refusal
fault_list None = []
fault_list (Some fault) = fault ∷ []
