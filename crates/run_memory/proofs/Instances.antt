-- A value that takes the place of that of a variable of a counted object.
use Rattle.std.proofs.Common.{◌≡◌, ℕ, zero, suc, ◌<◌, ◌≤◌, List, [], ◌∷◌, length, map, get_or, refl, ap, ◌∙◌, arith}
use Rattle.std.specs.Prelude.{Option, Some, None, option_map, slice_get, slice_index_or, slice_set}
use Rattle.vba_values.specs.Val.{Val}
use Rattle.run_memory.specs.declared.memory.Object.{Object}
use Rattle.run_memory.specs.View.{object_view}
use Rattle.run_memory.specs.Exchanges.{object_exchanged, objects_exchanged, root_exchanged}
use Rattle.run_memory.proofs.Numbered.{object_none}
use Rattle.vba_meaning.specs.Paths.{in_fields}
use Rattle.vba_meaning.specs.Memory as plain

objects_more : (x : Option plain.Object) (xs : List (Option plain.Object)) (o i : ℕ) (old : Option Val) (w : Val)
    → x ∷ objects_exchanged xs o i old w ≡ objects_exchanged (x ∷ xs) (suc o) i old w
objects_more x xs o i None w = refl
objects_more x xs o i (Some v) w = refl

-- the first object
object_first : (x b : Option Object) (xs : List (Option plain.Object)) (i : ℕ) (old : Option Val) (w : Val)
    → old ≡ slice_get (plain.object_or (option_map object_view x)).fields i → option_map object_view b ≡ object_exchanged (option_map object_view x) i old w
    → option_map object_view b ∷ xs ≡ objects_exchanged (option_map object_view x ∷ xs) zero i old w
object_first None b xs i old w was e = rw was (ap (λ t. t ∷ xs) e)
object_first (Some x) b xs i None w was e = ap (λ t. t ∷ xs) e
object_first (Some x) b xs i (Some v) w was e = ap (λ t. t ∷ xs) e

pub field_set : (xs : List (Option Object)) (o i : ℕ) (b d : Option Object) (old : Option Val) (w : Val) → o < length xs
    → old ≡ slice_get (plain.object_or (option_map object_view (get_or xs o d))).fields i
    → option_map object_view b ≡ object_exchanged (option_map object_view (get_or xs o d)) i old w
    → map (option_map object_view) (slice_set xs o b) ≡ objects_exchanged (map (option_map object_view) xs) o i old w
field_set [] o i b d old w h was e = absurd (omega arith)
field_set (x ∷ xs) zero i b d old w h was e = object_first x b (map (option_map object_view) xs) i old w was e
field_set (x ∷ xs) (suc o) i b d old w h was e =
    ap (λ ys. option_map object_view x ∷ ys) (field_set xs o i b d old w (omega arith) was e)
    ∙ objects_more (option_map object_view x) (map (option_map object_view) xs) o i old w

pub field_past : (xs : List (Option Object)) (o i : ℕ) → length xs ≤ o → slice_get (plain.object_or (slice_index_or (map (option_map object_view) xs) o None)).fields i ≡ None
field_past xs o i h = ap (λ b. slice_get (plain.object_or b).fields i) (object_none xs o h)

pub instance_exchanged : (m : plain.Memory) (o i : ℕ) (old : Option Val) (w : Val) → record m { objects = objects_exchanged m.objects o i old w } ≡ root_exchanged m (in_fields o i) old w
instance_exchanged m o i None w = refl
instance_exchanged m o i (Some v) w = refl
