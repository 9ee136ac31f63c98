-- Serves the code: that a call stands.
use Rattle.std.specs.Prelude.{ℕ, zero, suc, List, [], ◌∷◌, ◌++◌, map, Bool}
use Rattle.vba_values.specs.Val.{Val}
use Rattle.vba_meaning.specs.Memory.{Memory, Slot, no_frame, calling, received}

-- what parameters from a number on have
abbrev pub received_from : ℕ → List Slot → List Slot
received_from n [] = []
received_from zero (x ∷ xs) = received x ∷ received_from zero xs
received_from (suc n) (x ∷ xs) = x ∷ received_from n xs

-- with the procedure's own variables before its arguments
abbrev pub stands_with : Bool → ℕ → Val → (own arguments : List Slot) → Memory → Memory
stands_with called p me own xs m = record m { frames = record no_frame { called = called; procedure = p; me = me; slots = own ++ map received xs } ∷ calling xs m.frames }
