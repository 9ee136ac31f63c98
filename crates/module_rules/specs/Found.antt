-- Serves the code: what is found of rules, one place after another.
use Rattle.std.specs.Prelude.{ℕ, Bool, true, false, List, [], ◌∷◌, Option, Some, None}
use Rattle.vba_base.specs.declared.place.Place.{Place}
use Rattle.vba_base.specs.declared.place.Refusal.{Refusal}
use Rattle.refusal_order.specs.Least.{lesser}
use Rattle.vba_module.specs.Blocks.{Open, Nearest, places_of}

-- the least refusal, where a rule is broken at more places behind what was found
abbrev pub noted : ℕ → Option Refusal → List Place → Option Refusal
noted rule found [] = found
noted rule found (place ∷ places) = noted rule (Some (lesser found (record { rule = rule; place = place }))) places

-- the places of those that are open inside the nearest of a kind
abbrev pub inside_nearest : Option Nearest → List Place
inside_nearest None = []
inside_nearest (Some near) = places_of near.inside

-- those that are open outside of it
abbrev pub outside_nearest : Option Nearest → List Open
outside_nearest None = []
outside_nearest (Some near) = near.outside

-- a list isn't empty
abbrev pub has_some : {A : Type 0} → List A → Bool
has_some [] = false
has_some (item ∷ items) = true
