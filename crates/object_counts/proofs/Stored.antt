-- One place among many is written: what stands there gives way to the new value, and all else counts as before.
use Rattle.std.proofs.Common.{◌≡◌, ℕ, zero, suc, ◌+◌, List, [], ◌∷◌, Option, Some, None, ap, arith}
use Rattle.std.specs.Prelude.{slice_get, slice_index_or, slice_set}
use Rattle.vba_values.specs.Val.{Val, Vals, array, udt, no_vals, val}
use Rattle.arrays_udt.specs.declared.paths.PathStep.{PathStep}
use Rattle.arrays_udt.specs.declared.paths.PathStep.TheVariants.{Field, Element}
use Rattle.arrays_udt.specs.Paths.{path_value, inner_value, with_path, with_inner}
use Rattle.vba_meaning.specs.Memory.{Slot, value, path, Object, value_in, object_or, with_field}
use Rattle.vba_meaning.specs.References.{objects_in, objects_in_vals, objects_in_values, objects_in_slot, objects_in_slots, times, times_in_objects}
use Rattle.object_counts.proofs.Indexed.{times-append}

-- how often an object stands in a value
abbrev pub in_value : ℕ → Val → ℕ
in_value o v = times o (objects_in v)

pub same_value : {a b : Val} (o : ℕ) → Some a ≡ Some b → in_value o a ≡ in_value o b
same_value {a = a} o e = ap (λ x. in_value o (elim x as (λ y. Val) [ Some v ↦ v | None ↦ a ])) e

-- ---- inside of values

mutual
  pub path_set : (o : ℕ) (v : Val) (steps : List PathStep) (old w : Val) → path_value v steps ≡ Some old → in_value o (with_path v steps w) + in_value o old ≡ in_value o v + in_value o w
  path_set o v [] old w e = omega (arith, same_value o e)
  path_set o (array bounds of items) (Element k ∷ steps) old w e = inner_set o items k steps old w e
  path_set o (udt number fields) (Field i ∷ steps) old w e = inner_set o fields i steps old w e
  path_set o v (s ∷ steps) old w e = absurd cc

  pub inner_set : (o : ℕ) (vs : Vals) (k : ℕ) (steps : List PathStep) (old w : Val) → inner_value vs k steps ≡ Some old
      → times o (objects_in_vals (with_inner vs k steps w)) + in_value o old ≡ times o (objects_in_vals vs) + in_value o w
  inner_set o no_vals k steps old w e = absurd cc
  inner_set o (val v vs) zero steps old w e =
      omega (arith, path_set o v steps old w e, times-append o (objects_in (with_path v steps w)) (objects_in_vals vs), times-append o (objects_in v) (objects_in_vals vs))
  inner_set o (val v vs) (suc k) steps old w e =
      omega (arith, inner_set o vs k steps old w e, times-append o (objects_in v) (objects_in_vals (with_inner vs k steps w)), times-append o (objects_in v) (objects_in_vals vs))

-- ---- one of a list

pub values_set : (o : ℕ) (vs : List Val) (g : ℕ) (old w : Val) → slice_get vs g ≡ Some old
    → times o (objects_in_values (slice_set vs g w)) + in_value o old ≡ times o (objects_in_values vs) + in_value o w
values_set o [] g old w e = absurd cc
values_set o (v ∷ vs) zero old w e = omega (arith, same_value o e, times-append o (objects_in w) (objects_in_values vs), times-append o (objects_in v) (objects_in_values vs))
values_set o (v ∷ vs) (suc g) old w e =
    omega (arith, values_set o vs g old w e, times-append o (objects_in v) (objects_in_values (slice_set vs g w)), times-append o (objects_in v) (objects_in_values vs))

slot_of : (o : ℕ) (x : Slot) (old : Val) → value_in (Some x) ≡ Some old → times o (objects_in_slot x) ≡ in_value o old
slot_of o (value v) old e = same_value o e
slot_of o (path p) old e = absurd cc

pub slots_set : (o : ℕ) (xs : List Slot) (i : ℕ) (old w : Val) → value_in (slice_get xs i) ≡ Some old
    → times o (objects_in_slots (slice_set xs i (value w))) + in_value o old ≡ times o (objects_in_slots xs) + in_value o w
slots_set o [] i old w e = absurd cc
slots_set o (x ∷ xs) zero old w e = omega (arith, slot_of o x old e, times-append o (objects_in w) (objects_in_slots xs), times-append o (objects_in_slot x) (objects_in_slots xs))
slots_set o (x ∷ xs) (suc i) old w e =
    omega (arith, slots_set o xs i old w e, times-append o (objects_in_slot x) (objects_in_slots (slice_set xs i (value w))), times-append o (objects_in_slot x) (objects_in_slots xs))

-- ---- objects

abbrev pub object_in : List (Option Object) → ℕ → Object
object_in bs r = object_or (slice_index_or bs r None)

pub fields_set : (o : ℕ) (bs : List (Option Object)) (r i : ℕ) (old w : Val) → slice_get (object_in bs r).fields i ≡ Some old
    → times_in_objects o (slice_set bs r (Some (with_field (object_in bs r) i w))) + in_value o old ≡ times_in_objects o bs + in_value o w
fields_set o [] zero i old w e = absurd cc
fields_set o [] (suc r) i old w e = absurd cc
fields_set o (None ∷ bs) zero i old w e = absurd cc
fields_set o (Some b ∷ bs) zero i old w e = omega (arith, values_set o b.fields i old w e)
fields_set o (None ∷ bs) (suc r) i old w e = fields_set o bs r i old w e
fields_set o (Some b ∷ bs) (suc r) i old w e = omega (arith, fields_set o bs r i old w e)
