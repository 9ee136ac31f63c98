-- Serves the code: which Types lead to one of them through so many fields, told for all Types at once.
use Rattle.std.specs.Prelude.{ℕ, zero, suc, ◌==◌, Bool, false, ◌||◌, List, [], ◌∷◌, map, get_or}
use Rattle.std.specs.List.{list_any}

-- the answer for a Type, and none for a number that no Type has
abbrev pub told : List Bool → ℕ → Bool
told bs n = get_or bs n false

-- through one field more
abbrev pub next_row : List (List ℕ) → ℕ → List Bool → List Bool
next_row types to row = map (λ held. list_any (λ n. (n == to) || told row n) held) types

abbrev pub row_of : ℕ → List (List ℕ) → ℕ → List Bool
row_of zero types to = map (λ held. false) types
row_of (suc k) types to = next_row types to (row_of k types to)
