-- Arguments, one by one.
use Rattle.std.proofs.Common.{◌≡◌, ℕ, ◌+◌, ◌<◌, List, [], ◌∷◌, ◌++◌, length, refl, ap, take, get_or}
use Rattle.std.proofs.lemmas.List.{take_more}
use Rattle.std.specs.Prelude.{slice_index_or}
use Rattle.vba_values.specs.Val.{missing}
use Rattle.vba_meaning.specs.Memory.{Slot, value}
use Rattle.vba_meaning.specs.Effects.{reordered}

pub reordered_append : (is : List ℕ) (i : ℕ) (xs : List Slot) → reordered (is ++ i ∷ []) xs ≡ reordered is xs ++ slice_index_or xs i (value missing) ∷ []
reordered_append [] i xs = refl
reordered_append (j ∷ js) i xs = ap (λ l. slice_index_or xs j (value missing) ∷ l) (reordered_append js i xs)

-- one number of an order more
pub reordered_more : (is : List ℕ) (k : ℕ) (xs : List Slot) → k < length is
    → reordered (take (k + 1) is) xs ≡ reordered (take k is) xs ++ slice_index_or xs (get_or is k 0) (value missing) ∷ []
reordered_more is k xs h = rw (take_more is k 0 h) (reordered_append (take k is) (get_or is k 0) xs)
