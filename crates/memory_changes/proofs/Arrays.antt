-- Effects on arrays, blocks and For Each.
use Rattle.std.proofs.Common.{ℕ, suc, Bool, true, false, List, [], ◌∷◌, Option, Some, None, refl}
use Rattle.vba_values.specs.declared.object.ObjRef.{ObjRef}
use Rattle.vba_values.specs.declared.object.ObjRef.TheVariants.{Nothing, Heap, Host}
use Rattle.vba_values.specs.declared.object.HostRef.TheVariants as host
use Rattle.vba_values.specs.declared.value.Bound.{Bound}
use Rattle.vba_values.specs.Types.{Declared}
use Rattle.vba_values.specs.Types as type
use Rattle.vba_values.specs.Val.{Val, Vals, object, array}
use Rattle.vba_values.specs.Coerce.{coerce_of, is_same_type}
use Rattle.arrays_udt.specs.declared.paths.PathStep.TheVariants.{Field}
use Rattle.arrays_udt.specs.Shapes.{offset_of, shape_of}
use Rattle.arrays_udt.specs.Resize.{item_at, can_resize}
use Rattle.arrays_udt.specs.Paths.{path_value}
use Rattle.bound_project.specs.Expressions.{Variable}
use Rattle.bound_project.specs.Project.{Declarations}
use Rattle.vba_meaning.specs.Paths.{Path}
use Rattle.vba_meaning.specs.Memory.{Kept, only, at_path, walk, Memory, top, found, path_of, value_at, with_value}
use Rattle.vba_meaning.specs.References.{objects_in, waits}
use Rattle.vba_meaning.specs.Effects.{Fine, is_collection, kept_at}
use Rattle.vba_meaning.specs.Arrays.{numbers, offset_at, indexed_object, element_in, element_at, indexed, part_of, bounds_of, element_type, resized_array, preserved, redim_value, exchanged, redimmed, erased_value, erased, keep_path, kept_of, block_over, place_kept, dot_at, walking, not_walking, each_off, walkable, each_begun, item_stored, next_item, item_of, each_by, each_next}
use Rattle.memory_changes.specs.Changes.{Row, none, keeps, drops}
use Rattle.memory_changes.proofs.Rows.{Still, still, still_bad, still_then, still_if, still_answered, row_then, one, away, Rows, fine, fine_in, bad, behind, then_rows, of_still, then_same}
use Rattle.memory_changes.proofs.Stores.{beside, displaced_row, value_row}
use Rattle.memory_changes.proofs.Values.{fitted_still, replaceable_still, assignable_still, read_value_rows, stored_rows}

pub numbers_still : (vs : List Val) (m : Memory) → Still m (numbers vs m)
numbers_still [] m = still
numbers_still (v ∷ vs) m = still_then _ (still_answered (coerce_of v type.long) m) (λ w. still_then _ (numbers_still vs m) (λ zs. still))

pub offset_still : (bounds : List Bound) (vs : List Val) (m : Memory) → Still m (offset_at bounds vs m)
offset_still bounds vs m = still_then _ (numbers_still vs m) (λ zs. still_answered (offset_of bounds zs) m)

pub indexed_object_still : {A : Type 0} (o : ObjRef) (m : Memory) → Still {A = A} m (indexed_object o m)
indexed_object_still Nothing m = still_bad 91 m
indexed_object_still (Host host.ErrObject) m = still_bad 450 m
indexed_object_still o m = still_bad 438 m

element_in_still : (p : Path) (x : Option Val) (vs : List Val) (m : Memory) → Still m (element_in p x vs m)
element_in_still p None vs m = still_then _ (numbers_still vs m) (λ zs. still_bad 9 m)
element_in_still p (Some (array bounds of items)) vs m = still_then _ (offset_still bounds vs m) (λ k. still)
element_in_still p (Some (object o)) vs m = indexed_object_still o m
element_in_still p (Some v) vs m = still_bad 450 m

pub element_at_still : (p : Path) (vs : List Val) (m : Memory) → Still m (element_at p vs m)
element_at_still p vs m = element_in_still p (value_at m p) vs m

element_type_still : (of : Declared) (t : Option Declared) (m : Memory) → Still m (element_type of t m)
element_type_still (type.array_of of) None m = still
element_type_still (type.array_of of) (Some t) m = still_if (is_same_type of t) still (still_bad 13 m)
element_type_still type.variant None m = still
element_type_still type.variant (Some t) m = still
element_type_still other t m = still_bad 13 m

resized_still : (d : Declarations) (shape bounds : List Bound) (of : Declared) (items : Vals) (m : Memory) → Still m (resized_array d shape bounds of items m)
resized_still d shape [] of items m = still
resized_still d shape (b ∷ bs) of items m = still_if (can_resize shape (array (b ∷ bs) of items)) still (still_bad 9 m)

preserved_still : (d : Declarations) (t : Option Declared) (shape : List Bound) (v : Val) (m : Memory) → Still m (preserved d t shape v m)
preserved_still d t shape (array bounds of items) m = still_then _ (element_type_still (type.array_of of) t m) (λ u. resized_still d shape bounds of items m)
preserved_still d t shape v m = still_bad 13 m

redim_value_still : (d : Declarations) (preserve : Bool) (t : Option Declared) (shape : List Bound) (p : Path) (old : Val) (m : Memory) → Still m (redim_value d preserve t shape p old m)
redim_value_still d preserve t shape p old m = still_if preserve (preserved_still d t shape old m) (still_then _ (element_type_still p.of t m) (λ of. still))

erased_value_still : (d : Declarations) (bounded : Bool) (x : Option Val) (m : Memory) → Still m (erased_value d bounded x m)
erased_value_still d bounded None m = still_bad 9 m
erased_value_still d bounded (Some (array bounds of items)) m = still
erased_value_still d bounded (Some v) m = still_bad 13 m

place_kept_still : (i : ℕ) (x : Option Kept) (m : Memory) → Still m (place_kept i x m)
place_kept_still i None m = still_bad 91 m
place_kept_still i (Some (only v)) m = still
place_kept_still i (Some (at_path p)) m = still
place_kept_still i (Some (walk begun v k)) m = still_bad 91 m

pub dot_at_still : (i : ℕ) (m : Memory) → Still m (dot_at i m)
dot_at_still i m = place_kept_still i (found (top m).keeps i) m

walkable_still : (v : Val) (m : Memory) → Still m (walkable v m)
walkable_still (array bounds of items) m = still
walkable_still (object Nothing) m = still_bad 91 m
walkable_still (object (Host host.Sheets)) m = still
walkable_still (object (Host (host.Area s t l r c))) m = still
walkable_still (object (Heap id)) m = still_if (is_collection (Heap id) m) still (still_bad 438 m)
walkable_still (object o) m = still_bad 438 m
walkable_still v m = still_bad 13 m

module _ (d : Declarations) where
  pub waits_row : (os : List ℕ) (m : Memory) → Row d m (waits os m)
  waits_row os m = away d (beside refl refl refl)

  pub indexed_rows : (v : Val) (vs : List Val) (m : Memory) → Rows d m (indexed v vs m)
  indexed_rows (array bounds of items) vs m = then_same d _ (offset_still bounds vs m) (λ k. read_value_rows d (Some (item_at items k)) m)
  indexed_rows (object o) vs m = of_still d (indexed_object_still o m)
  indexed_rows v vs m = bad d 450 m

  pub part_of_rows : (i : ℕ) (v : Val) (m : Memory) → Rows d m (part_of i v m)
  part_of_rows i v m = read_value_rows d (path_value v (Field i ∷ [])) m

  -- ---- ReDim and Erase

  exchanged_rows : (p : Path) (old v : Val) (m : Memory) → Rows d m (exchanged p old v m)
  exchanged_rows p old v m = fine_in d (row_then d (value_row d m p v) (waits_row (objects_in old) (with_value m p v)))

  pub redimmed_rows : (preserve : Bool) (t : Option Declared) (p : Path) (vs : List Val) (m : Memory) → Rows d m (redimmed d preserve t p vs m)
  redimmed_rows preserve t p vs m =
      then_same d _ (numbers_still vs m) (λ zs.
      then_same d _ (assignable_still p m) (λ old.
      then_same d _ (still_answered (shape_of (bounds_of zs)) m) (λ shape.
      then_same d _ (redim_value_still d preserve t shape p old m) (λ v. exchanged_rows p old v m))))

  pub erased_rows : (p : Path) (m : Memory) → Rows d m (erased d p m)
  erased_rows p m = then_same d _ (erased_value_still d p.bounded (value_at m p) m) (λ v. then_same d _ (replaceable_still p m) (λ old. exchanged_rows p old v m))

  -- ---- With

  pub keep_path_rows : (i : ℕ) (p : Path) (m : Memory) → Rows d m (keep_path i p m)
  keep_path_rows i p m = fine_in d (row_then d (one d (keeps i (kept_of p))) (displaced_row d (kept_at i m) _))

  pub block_over_rows : (i : ℕ) (m : Memory) → Rows d m (block_over i m)
  block_over_rows i m = fine_in d (row_then d (one d (drops i)) (displaced_row d (kept_at i m) _))

  -- ---- For Each

  walking_row : (i : ℕ) (begun : Bool) (v : Val) (k : ℕ) (m : Memory) → Row d m (walking i begun v k m)
  walking_row i begun v k m = one d (keeps i (walk begun v k))

  not_walking_row : (i : ℕ) (x : Option Kept) (m : Memory) → Row d m (not_walking i x m)
  not_walking_row i None m = none m
  not_walking_row i (Some (only v)) m = none m
  not_walking_row i (Some (at_path p)) m = none m
  not_walking_row i (Some (walk begun v k)) m = walking_row i false v k m

  pub each_off_rows : (i : ℕ) (m : Memory) → Rows d m (each_off i m)
  each_off_rows i m = fine_in d (not_walking_row i (found (top m).keeps i) m)

  pub each_begun_rows : (i : ℕ) (v : Val) (m : Memory) → Rows d m (each_begun i v m)
  each_begun_rows i v m = then_same d _ (walkable_still v m) (λ u. fine_in d (row_then d (walking_row i true v 0 m) (waits_row (objects_in (kept_at i m)) (walking i true v 0 m))))

  item_stored_rows : (x : Variable) (w : Val) (m : Memory) → Rows d m (item_stored x w m)
  item_stored_rows x w m = then_same d _ (fitted_still (path_of m x).of w m) (λ u. stored_rows d (path_of m x) u m)

  next_item_rows : (x : Variable) (i : ℕ) (v : Val) (k : ℕ) (y : Option Val) (m : Memory) → Rows d m (next_item x i v k y m)
  next_item_rows x i v k None m = then_rows d {f = λ u m1. Fine false m1} (block_over_rows i m) (λ u m1. fine d {v = false})
  next_item_rows x i v k (Some w) m = behind d (walking_row i true v (suc k) m) (then_rows d (item_stored_rows x w (walking i true v (suc k) m)) (λ u m2. fine d))

  each_by_rows : (x : Variable) (i : ℕ) (y : Option Kept) (m : Memory) → Rows d m (each_by x i y m)
  each_by_rows x i (Some (walk true v k)) m = next_item_rows x i v k (item_of v k m) m
  each_by_rows x i other m = bad d 92 m

  pub each_next_rows : (x : Variable) (i : ℕ) (m : Memory) → Rows d m (each_next x i m)
  each_next_rows x i m = each_by_rows x i (found (top m).keeps i) m
