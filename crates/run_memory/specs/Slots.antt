-- Serves the code: what a slot contains.
use Rattle.std.specs.Prelude.{ℕ, zero, suc, List, [], ◌∷◌, Option, Some, None}
use Rattle.vba_values.specs.Val.{empty}
use Rattle.vba_meaning.specs.Paths.{Path}
use Rattle.vba_meaning.specs.Memory.{Slot, value, path}

abbrev pub path_in : Slot → Option Path
path_in (value v) = None
path_in (path p) = Some p

-- a path stays
abbrev pub emptied_slot : Slot → Slot
emptied_slot (value v) = value empty
emptied_slot (path p) = path p

-- slots from a number on
abbrev pub emptied_from : ℕ → List Slot → List Slot
emptied_from n [] = []
emptied_from zero (x ∷ xs) = emptied_slot x ∷ emptied_from zero xs
emptied_from (suc n) (x ∷ xs) = x ∷ emptied_from n xs
