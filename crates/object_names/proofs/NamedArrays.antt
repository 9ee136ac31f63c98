-- Effects on arrays, blocks and For Each under other names.
use Rattle.std.proofs.Common.{◌≡◌, ℕ, suc, ◌+◌, Bool, true, false, List, [], ◌∷◌, length, map, Option, Some, None, refl, sym, ap, ◌∙◌, subst}
use Rattle.std.specs.Prelude.{nat_lt, ◌*◌, ◌/◌, ◌%◌, if◌then◌else◌, option_map, slice_get}
use Rattle.std.proofs.lemmas.List.{length-map}
use Rattle.std.proofs.lemmas.Option.{slice_get-map}
use Rattle.vba_values.specs.declared.object.ObjRef.{ObjRef}
use Rattle.vba_values.specs.declared.object.ObjRef.TheVariants.{Nothing, Heap, Host}
use Rattle.vba_values.specs.declared.object.HostRef.TheVariants as host
use Rattle.vba_values.specs.declared.value.Bound.{Bound}
use Rattle.vba_values.specs.Types.{Declared}
use Rattle.vba_values.specs.Types as type
use Rattle.vba_values.specs.Val.{Val, Vals, object, array}
use Rattle.vba_values.specs.Coerce.{is_same_type}
use Rattle.arrays_udt.specs.declared.paths.PathStep.TheVariants.{Field, Element}
use Rattle.arrays_udt.specs.Shapes.{offset_of, shape_of}
use Rattle.arrays_udt.specs.Resize.{item_at, can_resize}
use Rattle.arrays_udt.specs.Fresh.{initial}
use Rattle.arrays_udt.specs.Paths.{path_value}
use Rattle.bound_project.specs.Expressions.{Variable}
use Rattle.bound_project.specs.Project.{Declarations, types_of}
use Rattle.vba_meaning.specs.Paths.{Root, in_frame, in_project, in_fields, in_block, in_object, in_item, Step, Path}
use Rattle.vba_meaning.specs.Memory.{Kept, only, at_path, walk, Memory, rest, top, with_top, put, found, object_at, path_of, value_at}
use Rattle.vba_meaning.specs.References.{objects_in, waits}
use Rattle.vba_meaning.specs.Effects.{Fine, fitted, stored, is_collection, kept_at, area_in, range_value}
use Rattle.vba_meaning.specs.Arrays.{number_in, numbers, offset_at, indexed_object, element_in, element_at, indexed, part_of, bounds_of, element_type, new_array, resized_array, preserved, redim_value, exchanged, redimmed, erased_value, erased, keep_path, kept_of, block_over, place_kept, dot_at, walking, not_walking, each_off, walkable, each_begun, item_stored, next_item, item_of, each_by, each_next}
use Rattle.object_lives.proofs.Values.{filled_in, initial_in}
use Rattle.object_names.specs.Names.{reference_named, value_named, values_named, items_named, path_named, kept_named}
use Rattle.object_names.specs.Renamed.{Same}
use Rattle.object_names.proofs.NamedValues.{path_value_named, item_at_named, resized_named, can_resize_blind, objects_named, free_named, nil_of}
use Rattle.object_names.proofs.NamedMemory.{found_kept_named, item_value_named, depth_named, waits_named, same_by}
use Rattle.object_names.proofs.Named.{plainly, Names, fine, bad, then_named, both, both_by, answered_same}
use Rattle.object_names.proofs.NamedVariables.{path_of_same, value_at_same, object_at_same, collection_same, with_value_same, fitted_names, coerced_names, read_value_names, replaceable_names, assignable_names, stored_names}
use Rattle.object_names.proofs.NamedEffects.{displaced_to, kept_at_same, keeps_same, drops_same}

module _ (r : ℕ → ℕ) where
  abbrev nv : Val → Val
  nv v = value_named r v

  abbrev np : Path → Path
  np p = path_named r p

  -- ---- elements and fields

  pub number_blind : (v : Val) → number_in (nv v) ≡ number_in v
  number_blind (object o) = refl
  number_blind v = refl

  pub numbers_names : {m n : Memory} (vs : List Val) → Same r m n → Names r plainly (numbers vs m) (numbers (values_named r vs) n)
  numbers_names [] k = fine r refl k
  numbers_names (v ∷ vs) k =
      then_named r _ (coerced_names r type.long v k) (λ w m1 n1 k1. then_named r _ (numbers_names vs k1) (λ zs m2 n2 k2. fine r (ap (λ z. z ∷ zs) (number_blind w)) k2))

  pub offset_names : {m n : Memory} (bounds : List Bound) (vs : List Val) → Same r m n → Names r plainly (offset_at bounds vs m) (offset_at bounds (values_named r vs) n)
  offset_names bounds vs k = then_named r _ (numbers_names vs k) (λ zs m1 n1 k1. answered_same r (offset_of bounds zs) (offset_of bounds zs) refl k1)

  pub indexed_object_names : {A : Type 0} {f : A → A} {m n : Memory} (o : ObjRef) → Same r m n → Names r {A = A} f (indexed_object o m) (indexed_object (reference_named r o) n)
  indexed_object_names Nothing k = bad r 91 k
  indexed_object_names (Heap id) k = bad r 438 k
  indexed_object_names (Host host.ErrObject) k = bad r 450 k
  indexed_object_names (Host h) k = bad r 438 k

  element_by : {m n : Memory} (p : Path) (x : Option Val) (vs : List Val) → Same r m n → Names r np (element_in p x vs m) (element_in (np p) (option_map (λ v. value_named r v) x) (values_named r vs) n)
  element_by p None vs k = then_named r _ (numbers_names vs k) (λ zs m1 n1 k1. bad r 9 k1)
  element_by p (Some (array bounds of items)) vs k = then_named r _ (offset_names bounds vs k) (λ j m1 n1 k1. fine r refl k1)
  element_by p (Some (object o)) vs k = indexed_object_names o k
  element_by p (Some v) vs k = bad r 450 k

  pub element_at_names : {m n : Memory} (p : Path) (vs : List Val) → Same r m n → Names r np (element_at p vs m) (element_at (np p) (values_named r vs) n)
  element_at_names {m = m} {n = n} p vs k =
      subst (λ x. Names r np (element_at p vs m) (element_in (np p) x (values_named r vs) n)) (sym (value_at_same r p k)) (element_by p (value_at m p) vs k)

  pub indexed_names : {m n : Memory} (v : Val) (vs : List Val) → Same r m n → Names r nv (indexed v vs m) (indexed (nv v) (values_named r vs) n)
  indexed_names (array bounds of items) vs k =
      then_named r _ (offset_names bounds vs k) (λ j m1 n1 k1. read_value_names r (Some (item_at items j)) (Some (item_at (items_named r items) j)) (ap (λ w. Some w) (item_at_named r items j)) k1)
  indexed_names (object o) vs k = indexed_object_names o k
  indexed_names v vs k = bad r 450 k

  pub part_of_names : {m n : Memory} (i : ℕ) (v : Val) → Same r m n → Names r nv (part_of i v m) (part_of i (nv v) n)
  part_of_names i v k = read_value_names r (path_value v (Field i ∷ [])) (path_value (nv v) (Field i ∷ [])) (path_value_named r v (Field i ∷ [])) k

  -- ---- ReDim and Erase

  element_type_names : {m n : Memory} (of : Declared) (t : Option Declared) → Same r m n → Names r plainly (element_type of t m) (element_type of t n)
  element_type_names (type.array_of of) None k = fine r refl k
  element_type_names (type.array_of of) (Some t) k = both r (is_same_type of t) (fine r refl k) (bad r 13 k)
  element_type_names type.variant None k = fine r refl k
  element_type_names type.variant (Some t) k = fine r refl k
  element_type_names other t k = bad r 13 k

  -- what a new array begins with refers to nothing
  new_plain : (d : Declarations) (shape : List Bound) (of : Declared) → nv (new_array d shape of) ≡ new_array d shape of
  new_plain d shape of = free_named r (new_array d shape of) (nil_of (objects_in (new_array d shape of)) (filled_in shape of (initial (types_of d) of) (initial_in [] (types_of d) of)))

  first_plain : (d : Declarations) (of : Declared) → nv (initial (types_of d) of) ≡ initial (types_of d) of
  first_plain d of = free_named r (initial (types_of d) of) (nil_of (objects_in (initial (types_of d) of)) (initial_in [] (types_of d) of))

  resized_names : {m n : Memory} (d : Declarations) (shape bounds : List Bound) (of : Declared) (items : Vals) → Same r m n → Names r nv (resized_array d shape bounds of items m) (resized_array d shape bounds of (items_named r items) n)
  resized_names d shape [] of items k = fine r (sym (new_plain d shape of)) k
  resized_names d shape (b ∷ bs) of items k =
      both_by r (can_resize shape (array (b ∷ bs) of items)) (can_resize shape (array (b ∷ bs) of (items_named r items))) (can_resize_blind r shape (array (b ∷ bs) of items))
      (fine r (resized_named r shape (initial (types_of d) of) (array (b ∷ bs) of items) (first_plain d of)) k) (bad r 9 k)

  preserved_names : {m n : Memory} (d : Declarations) (t : Option Declared) (shape : List Bound) (v : Val) → Same r m n → Names r nv (preserved d t shape v m) (preserved d t shape (nv v) n)
  preserved_names d t shape (array bounds of items) k = then_named r _ (element_type_names (type.array_of of) t k) (λ u m1 n1 k1. resized_names d shape bounds of items k1)
  preserved_names d t shape (object o) k = bad r 13 k
  preserved_names d t shape v k = bad r 13 k

  redim_value_names : {m n : Memory} (d : Declarations) (preserve : Bool) (t : Option Declared) (shape : List Bound) (p : Path) (old : Val) → Same r m n
      → Names r nv (redim_value d preserve t shape p old m) (redim_value d preserve t shape (np p) (nv old) n)
  redim_value_names d preserve t shape p old k =
      both r preserve (preserved_names d t shape old k) (then_named r _ (element_type_names p.of t k) (λ of m1 n1 k1. fine r (sym (new_plain d shape of)) k1))

  pub waits_to : {m n : Memory} (os ps : List ℕ) → ps ≡ map r os → Same r m n → Same r (waits os m) (waits ps n)
  waits_to {m = m} {n = n} os ps e k = subst (λ qs. Same r (waits os m) (waits qs n)) (sym e) (same_by r (waits os) (waits (map r os)) (waits_named r os m) refl refl k)

  pub how_many : (v : Val) → length (objects_in (nv v)) ≡ length (objects_in v)
  how_many v = ap (λ os. length os) (objects_named r v) ∙ length-map (objects_in v) r

  exchanged_names : {m n : Memory} (p : Path) (old v : Val) → Same r m n → Names r plainly (exchanged p old v m) (exchanged (np p) (nv old) (nv v) n)
  exchanged_names p old v k = fine r (how_many old) (waits_to (objects_in old) (objects_in (nv old)) (objects_named r old) (with_value_same r p v k))

  pub redimmed_names : {m n : Memory} (d : Declarations) (preserve : Bool) (t : Option Declared) (p : Path) (vs : List Val) → Same r m n
      → Names r plainly (redimmed d preserve t p vs m) (redimmed d preserve t (np p) (values_named r vs) n)
  redimmed_names d preserve t p vs k =
      then_named r _ (numbers_names vs k) (λ zs m1 n1 k1.
      then_named r _ (assignable_names r p k1) (λ old m2 n2 k2.
      then_named r _ (answered_same r (shape_of (bounds_of zs)) (shape_of (bounds_of zs)) refl k2) (λ shape m3 n3 k3.
      then_named r _ (redim_value_names d preserve t shape p old k3) (λ v m4 n4 k4. exchanged_names p old v k4))))

  erased_by : {m n : Memory} (d : Declarations) (bounded : Bool) (x : Option Val) → Same r m n → Names r nv (erased_value d bounded x m) (erased_value d bounded (option_map (λ v. value_named r v) x) n)
  erased_by d bounded None k = bad r 9 k
  erased_by d true (Some (array bounds of items)) k = fine r (sym (new_plain d bounds of)) k
  erased_by d false (Some (array bounds of items)) k = fine r refl k
  erased_by d bounded (Some (object o)) k = bad r 13 k
  erased_by d bounded (Some v) k = bad r 13 k

  pub erased_names : {m n : Memory} (d : Declarations) (p : Path) → Same r m n → Names r plainly (erased d p m) (erased d (np p) n)
  erased_names {m = m} {n = n} d p k =
      then_named r _ (subst (λ x. Names r nv (erased_value d p.bounded (value_at m p) m) (erased_value d p.bounded x n)) (sym (value_at_same r p k)) (erased_by d p.bounded (value_at m p) k)) (λ v m1 n1 k1.
      then_named r _ (replaceable_names r p k1) (λ old m2 n2 k2. exchanged_names p old v k2))

  -- ---- With

  kept_from : (root : Root) (steps : List Step) (of : Declared) (bounded : Bool) (makes : Option ℕ)
      → let p : Path = record { root = root; steps = steps; of = of; bounded = bounded; makes = makes } in kept_of (np p) ≡ kept_named r (kept_of p)
  kept_from (in_item v) steps of bounded makes = ap (λ w. only w) (item_value_named r v steps)
  kept_from (in_object o) steps of bounded makes = refl
  kept_from (in_frame j x) steps of bounded makes = refl
  kept_from (in_project x) steps of bounded makes = refl
  kept_from (in_fields o i) steps of bounded makes = refl
  kept_from (in_block j i) steps of bounded makes = refl

  keeps_to : {m n : Memory} (i : ℕ) (x y : Kept) → y ≡ kept_named r x → Same r m n
      → Same r (with_top m (record (top m) { keeps = put i x (top m).keeps })) (with_top n (record (top n) { keeps = put i y (top n).keeps }))
  keeps_to {m = m} {n = n} i x y e k =
      subst (λ z. Same r (with_top m (record (top m) { keeps = put i x (top m).keeps })) (with_top n (record (top n) { keeps = put i z (top n).keeps }))) (sym e) (keeps_same r i x k)

  pub keep_path_names : {m n : Memory} (i : ℕ) (p : Path) → Same r m n → Names r plainly (keep_path i p m) (keep_path i (np p) n)
  keep_path_names {m = m} {n = n} i p k =
      fine r refl (displaced_to r (kept_at i m) (kept_at i n) (kept_at_same r i k) (keeps_to i (kept_of p) (kept_of (np p)) (kept_from p.root p.steps p.of p.bounded p.makes) k))

  pub block_over_names : {m n : Memory} (i : ℕ) → Same r m n → Names r plainly (block_over i m) (block_over i n)
  block_over_names {m = m} {n = n} i k = fine r refl (displaced_to r (kept_at i m) (kept_at i n) (kept_at_same r i k) (drops_same r i k))

  place_by : {m n : Memory} (i : ℕ) (x : Option Kept) → Same r m n → Names r np (place_kept i x m) (place_kept i (option_map (λ y. kept_named r y) x) n)
  place_by i None k = bad r 91 k
  place_by {m = m} i (Some (only v)) k =
      fine r (ap (λ j. record { root = in_block j i; steps = []; of = type.variant; bounded = false; makes = None }) (ap (λ x. length (rest x.frames)) k.is ∙ depth_named r m k.objects k.fit.matches)) k
  place_by i (Some (at_path p)) k = fine r refl k
  place_by i (Some (walk begun v j)) k = bad r 91 k

  found_same : {m n : Memory} (i : ℕ) → Same r m n → found (top n).keeps i ≡ option_map (λ y. kept_named r y) (found (top m).keeps i)
  found_same {m = m} i k = ap (λ x. found (top x).keeps i) k.is ∙ found_kept_named r m k.objects i

  pub dot_at_names : {m n : Memory} (i : ℕ) → Same r m n → Names r np (dot_at i m) (dot_at i n)
  dot_at_names {m = m} {n = n} i k = subst (λ x. Names r np (dot_at i m) (place_kept i x n)) (sym (found_same i k)) (place_by i (found (top m).keeps i) k)

  -- ---- For Each

  pub walking_same : {m n : Memory} (i : ℕ) (begun : Bool) (v : Val) (j : ℕ) → Same r m n → Same r (walking i begun v j m) (walking i begun (nv v) j n)
  walking_same i begun v j k = keeps_same r i (walk begun v j) k

  not_walking_by : {m n : Memory} (i : ℕ) (x : Option Kept) → Same r m n → Same r (not_walking i x m) (not_walking i (option_map (λ y. kept_named r y) x) n)
  not_walking_by i None k = k
  not_walking_by i (Some (only v)) k = k
  not_walking_by i (Some (at_path p)) k = k
  not_walking_by i (Some (walk begun v j)) k = walking_same i false v j k

  pub each_off_names : {m n : Memory} (i : ℕ) → Same r m n → Names r plainly (each_off i m) (each_off i n)
  each_off_names {m = m} {n = n} i k =
      fine r refl (subst (λ x. Same r (not_walking i (found (top m).keeps i) m) (not_walking i x n)) (sym (found_same i k)) (not_walking_by i (found (top m).keeps i) k))

  walkable_names : {m n : Memory} (v : Val) → Same r m n → Names r plainly (walkable v m) (walkable (nv v) n)
  walkable_names (array bounds of items) k = fine r refl k
  walkable_names (object Nothing) k = bad r 91 k
  walkable_names (object (Host host.Sheets)) k = fine r refl k
  walkable_names (object (Host (host.Area s t l rows c))) k = fine r refl k
  walkable_names {m = m} (object (Heap id)) k = both_by r (is_collection (Heap id) m) _ (collection_same r (Heap id) k) (fine r refl k) (bad r 438 k)
  walkable_names (object (Host h)) k = bad r 438 k
  walkable_names v k = bad r 13 k

  kept_many : {m n : Memory} (i : ℕ) → Same r m n → objects_in (kept_at i n) ≡ map r (objects_in (kept_at i m))
  kept_many {m = m} i k = ap (λ v. objects_in v) (kept_at_same r i k) ∙ objects_named r (kept_at i m)

  pub each_begun_names : {m n : Memory} (i : ℕ) (v : Val) → Same r m n → Names r plainly (each_begun i v m) (each_begun i (nv v) n)
  each_begun_names i v k =
      then_named r _ (walkable_names v k) (λ u m1 n1 k1.
      fine r (ap (λ w. length (objects_in w)) (kept_at_same r i k1) ∙ how_many (kept_at i m1)) (waits_to (objects_in (kept_at i m1)) (objects_in (kept_at i n1)) (kept_many i k1) (walking_same i true v 0 k1)))

  item_stored_names : {m n : Memory} (x : Variable) (w : Val) → Same r m n → Names r plainly (item_stored x w m) (item_stored x (nv w) n)
  item_stored_names {m = m} {n = n} x w k =
      then_named r _ (fitted_to (path_of m x) (path_of n x) (path_of_same r x k) k) (λ u m1 n1 k1. stored_to (path_of m1 x) (path_of n1 x) u (path_of_same r x k1) k1)
    where
      fitted_to : (p q : Path) → q ≡ np p → Same r m n → Names r nv (fitted p.of w m) (fitted q.of (nv w) n)
      fitted_to p q e s = subst (λ z. Names r nv (fitted p.of w m) (fitted z.of (nv w) n)) (sym e) (fitted_names r p.of w s)

      stored_to : {a b : Memory} (p q : Path) (u : Val) → q ≡ np p → Same r a b → Names r plainly (stored p u a) (stored q (nv u) b)
      stored_to {a = a} {b = b} p q u e s = subst (λ z. Names r plainly (stored p u a) (stored z (nv u) b)) (sym e) (stored_names r p u s)

  item_of_named : {m n : Memory} (v : Val) (j : ℕ) → Same r m n → item_of (nv v) j n ≡ option_map (λ w. value_named r w) (item_of v j m)
  item_of_named {m = m} {n = n} (object (Host host.Sheets)) j k =
      ap (λ b. if nat_lt j (length b) then Some (object (Host (host.Sheet (suc j)))) else None) (ap (λ x. x.book) k.is) ∙ by_test (nat_lt j (length m.book))
    where
      by_test : (t : Bool) → (if t then Some (object (Host (host.Sheet (suc j)))) else None) ≡ option_map (λ w. value_named r w) (if t then Some (object (Host (host.Sheet (suc j)))) else None)
      by_test true = refl
      by_test false = refl
  item_of_named (object (Host (host.Area s t l rows c))) j k = by_test (nat_lt j (rows * c))
    where
      by_test : (b : Bool) → (if b then Some (range_value (area_in s (t + j / c) (l + j % c) 1 1)) else None) ≡ option_map (λ w. value_named r w) (if b then Some (range_value (area_in s (t + j / c) (l + j % c) 1 1)) else None)
      by_test true = refl
      by_test false = refl
  item_of_named {m = m} (object (Heap id)) j k = ap (λ b. slice_get b.fields j) (object_at_same r id.0 k) ∙ slice_get-map (λ v. value_named r v) (object_at m id.0).fields j
  item_of_named (object Nothing) j k = refl
  item_of_named v j k = path_value_named r v (Element j ∷ [])

  next_by : {m n : Memory} (x : Variable) (i : ℕ) (v : Val) (j : ℕ) (y : Option Val) → Same r m n → Names r plainly (next_item x i v j y m) (next_item x i (nv v) j (option_map (λ w. value_named r w) y) n)
  next_by x i v j None k = then_named r {x = λ u m1. Fine false m1} (λ u m1. Fine false m1) (block_over_names i k) (λ u m1 n1 k1. fine r {v = false} refl k1)
  next_by x i v j (Some w) k = then_named r _ (item_stored_names x w (walking_same i true v (suc j) k)) (λ u m1 n1 k1. fine r refl k1)

  each_by_names : {m n : Memory} (x : Variable) (i : ℕ) (y : Option Kept) → Same r m n → Names r plainly (each_by x i y m) (each_by x i (option_map (λ z. kept_named r z) y) n)
  each_by_names {m = m} {n = n} x i (Some (walk true v j)) k =
      subst (λ z. Names r plainly (next_item x i v j (item_of v j m) m) (next_item x i (nv v) j z n)) (sym (item_of_named v j k)) (next_by x i v j (item_of v j m) k)
  each_by_names x i None k = bad r 92 k
  each_by_names x i (Some (only v)) k = bad r 92 k
  each_by_names x i (Some (at_path p)) k = bad r 92 k
  each_by_names x i (Some (walk false v j)) k = bad r 92 k

  pub each_next_names : {m n : Memory} (x : Variable) (i : ℕ) → Same r m n → Names r plainly (each_next x i m) (each_next x i n)
  each_next_names {m = m} {n = n} x i k = subst (λ y. Names r plainly (each_next x i m) (each_by x i y n)) (sym (found_same i k)) (each_by_names x i (found (top m).keeps i) k)
