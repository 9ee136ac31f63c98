-- Objects by their numbers.
use Rattle.std.proofs.Common.{◌≡◌, ℕ, zero, suc, ◌<◌, ◌≤◌, List, [], ◌∷◌, length, map, get_or, refl, ap, arith}
use Rattle.std.specs.Prelude.{Option, None, option_map, slice_set, slice_index_or}
use Rattle.vba_values.specs.declared.value.Value.{Value}
use Rattle.vba_values.specs.View.{view}
use Rattle.vba_values.specs.Val.{Val, empty}
use Rattle.run_memory.specs.declared.memory.Object.{Object}
use Rattle.run_memory.specs.View.{object_view}
use Rattle.vba_meaning.specs.Memory as plain

pub object_set : (xs : List (Option Object)) (i : ℕ) (b : Option Object) → map (option_map object_view) (slice_set xs i b) ≡ slice_set (map (option_map object_view) xs) i (option_map object_view b)
object_set [] i b = refl
object_set (x ∷ xs) zero b = refl
object_set (x ∷ xs) (suc i) b = ap (λ ys. option_map object_view x ∷ ys) (object_set xs i b)

pub object_read : (xs : List (Option Object)) (i : ℕ) (d : Option Object) → i < length xs → slice_index_or (map (option_map object_view) xs) i None ≡ option_map object_view (get_or xs i d)
object_read [] i d h = absurd (omega arith)
object_read (x ∷ xs) zero d h = refl
object_read (x ∷ xs) (suc i) d h = object_read xs i d (omega arith)

pub object_past : (xs : List (Option Object)) (i : ℕ) (b : Option plain.Object) → length xs ≤ i → slice_set (map (option_map object_view) xs) i b ≡ map (option_map object_view) xs
object_past [] i b h = refl
object_past (x ∷ xs) zero b h = absurd (omega arith)
object_past (x ∷ xs) (suc i) b h = ap (λ ys. option_map object_view x ∷ ys) (object_past xs i b (omega arith))

pub object_none : (xs : List (Option Object)) (i : ℕ) → length xs ≤ i → slice_index_or (map (option_map object_view) xs) i None ≡ None
object_none [] i h = refl
object_none (x ∷ xs) zero h = absurd (omega arith)
object_none (x ∷ xs) (suc i) h = object_none xs i (omega arith)

pub value_there : (xs : List Value) (i : ℕ) (d : Value) → i < length xs → slice_index_or (map view xs) i empty ≡ view (get_or xs i d)
value_there [] i d h = absurd (omega arith)
value_there (x ∷ xs) zero d h = refl
value_there (x ∷ xs) (suc i) d h = value_there xs i d (omega arith)

pub value_none : (xs : List Value) (i : ℕ) → length xs ≤ i → slice_index_or (map view xs) i empty ≡ empty
value_none [] i h = refl
value_none (x ∷ xs) zero h = absurd (omega arith)
value_none (x ∷ xs) (suc i) h = value_none xs i (omega arith)

pub value_past : (xs : List Value) (i : ℕ) (v : Val) → length xs ≤ i → slice_set (map view xs) i v ≡ map view xs
value_past [] i v h = refl
value_past (x ∷ xs) zero v h = absurd (omega arith)
value_past (x ∷ xs) (suc i) v h = ap (λ ys. view x ∷ ys) (value_past xs i v (omega arith))
