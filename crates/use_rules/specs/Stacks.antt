-- Serves the code: stacks, the last item first.
use Rattle.std.specs.Prelude.{List, [], ◌∷◌}

-- the last item, or what stands for one where there is none
abbrev pub top : {A : Type 0} → A → List A → A
top none [] = none
top none (item ∷ items) = item

-- the items without the last one
abbrev pub below : {A : Type 0} → List A → List A
below [] = []
below (item ∷ items) = items
