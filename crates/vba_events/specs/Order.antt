-- Serves the code: links put in order.
use Rattle.std.specs.Prelude.{ℕ, ◌<◌, nat_lt, List, [], ◌∷◌, cond}
use Rattle.vba_events.specs.declared.linked.Linked.{Linked}

-- puts a link before the first one with a greater number
abbrev pub insert_link : Linked → List Linked → List Linked
insert_link link [] = link ∷ []
insert_link link (first ∷ rest) = cond (nat_lt link.number first.number) (link ∷ first ∷ rest) (first ∷ insert_link link rest)

-- the links by rising number
abbrev pub in_order : List Linked → List Linked
in_order [] = []
in_order (link ∷ links) = insert_link link (in_order links)

-- each number is below n
abbrev pub AllBelow : ℕ → List Linked → Type 0
AllBelow n [] = Unit {0}
AllBelow n (link ∷ links) = (link.number < n) × AllBelow n links
