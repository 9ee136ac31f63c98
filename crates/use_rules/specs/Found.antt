-- Serves the code: what is found of rules, one place after another.
use Rattle.std.specs.Prelude.{ℕ, List, [], ◌∷◌, Option, Some}
use Rattle.vba_base.specs.declared.place.Place.{Place}
use Rattle.vba_base.specs.declared.place.Refusal.{Refusal}
use Rattle.refusal_order.specs.Least.{lesser}

-- the least refusal, where a rule is broken at more places behind what was found
abbrev pub noted : ℕ → Option Refusal → List Place → Option Refusal
noted rule found [] = found
noted rule found (place ∷ places) = noted rule (Some (lesser found (record { rule = rule; place = place }))) places
