-- What effects on arrays, blocks and For Each raise.
use Rattle.std.proofs.Common.{◌≡◌, ℕ, suc, Bool, true, false, List, [], ◌∷◌, Option, Some, None, refl, sym, subst}
use Rattle.std.specs.Prelude.{if◌then◌else◌}
use Rattle.vba_values.specs.declared.object.ObjRef.{ObjRef}
use Rattle.vba_values.specs.declared.object.ObjRef.TheVariants.{Nothing, Heap, Host}
use Rattle.vba_values.specs.declared.object.HostRef.TheVariants as host
use Rattle.vba_values.specs.declared.value.Bound.{Bound}
use Rattle.vba_values.specs.Types.{Declared}
use Rattle.vba_values.specs.Types as type
use Rattle.vba_values.specs.Val.{Val, Vals, object, array}
use Rattle.vba_values.specs.Coerce.{coerce_of, is_same_type}
use Rattle.arrays_udt.specs.declared.paths.PathStep.TheVariants.{Field}
use Rattle.arrays_udt.specs.Shapes.{offset_of, shape_of}
use Rattle.arrays_udt.specs.Resize.{item_at, can_resize, resized}
use Rattle.arrays_udt.specs.Fresh.{initial}
use Rattle.arrays_udt.specs.Paths.{path_value}
use Rattle.bound_project.specs.Expressions.{Variable}
use Rattle.bound_project.specs.Project.{Declarations, types_of}
use Rattle.vba_meaning.specs.Paths.{Path, element_path}
use Rattle.vba_meaning.specs.Memory.{Kept, only, at_path, walk, Memory, top, found, value_at, path_of}
use Rattle.vba_meaning.specs.References.{objects_in, kept_value}
use Rattle.vba_meaning.specs.Effects.{Effect, Fine, Bad-at, is_collection}
use Rattle.vba_meaning.specs.Arrays.{number_in, numbers, offset_at, indexed_object, element_in, indexed, part_of, bounds_of, element_type, new_array, resized_array, preserved, redim_value, redimmed, erased_value, erased, kept_of, keep_path, block_over, place_kept, dot_at, walking, not_walking, each_off, walkable, each_begun, item_stored, next_item, item_of, each_by, each_next}
use Rattle.object_counts.specs.Gains.{given_gains, each_begun_gains, item_stored_gains, next_item_gains, each_by_gains, each_next_gains, redimmed_gains, erased_gains}
use Rattle.object_counts.proofs.Looks.{Grows, same, keeping_grows, over_grows, still_walking, walking_grows, IsThere, exchanged_grows}
use Rattle.object_counts.proofs.Chains.{Law, fine, bad, moved, then_still, after_still, answered_law, both, Holds, held_law, then_holds, Bare, bare_holds, then_found, Stays, then_stays, both_stay, answered_stays}
use Rattle.object_counts.proofs.Variables.{fitted_law, read_value_holds, replaceable_finds, assignable_finds, stored_law}

-- ---- elements and fields

pub numbers_law : (vs : List Val) (m : Memory) → Law m [] (numbers vs m)
numbers_law [] m = fine [] (same m)
numbers_law (v ∷ vs) m = then_still (answered_law (coerce_of v type.long) m) (λ w m1. then_still (numbers_law vs m1) (λ zs m2. fine (number_in w ∷ zs) (same m2)))

pub offset_law : (bounds : List Bound) (vs : List Val) (m : Memory) → Law m [] (offset_at bounds vs m)
offset_law bounds vs m = then_still (numbers_law vs m) (λ zs m1. answered_law (offset_of bounds zs) m1)

pub indexed_object_law : {A : Type 0} (o : ObjRef) (m : Memory) → Law {A = A} m [] (indexed_object o m)
indexed_object_law Nothing m = bad 91 (same m)
indexed_object_law (Host host.ErrObject) m = bad 450 (same m)
indexed_object_law o m = bad 438 (same m)

pub element_in_law : (p : Path) (x : Option Val) (vs : List Val) (m : Memory) → Law m [] (element_in p x vs m)
element_in_law p None vs m = then_still (numbers_law vs m) (λ zs m1. bad 9 (same m1))
element_in_law p (Some (array bounds of items)) vs m = then_still (offset_law bounds vs m) (λ k m1. fine (element_path p k of) (same m1))
element_in_law p (Some (object o)) vs m = indexed_object_law o m
element_in_law p (Some v) vs m = bad 450 (same m)

pub indexed_object_bare : (o : ObjRef) (m : Memory) → Bare m (indexed_object o m)
indexed_object_bare Nothing m = record { law = same m }
indexed_object_bare (Host host.ErrObject) m = record { law = same m }
indexed_object_bare o m = record { law = same m }

pub indexed_holds : (v : Val) (vs : List Val) (m : Memory) → Holds m (indexed v vs m)
indexed_holds (array bounds of items) vs m = then_holds (offset_law bounds vs m) (λ k m1. read_value_holds (Some (item_at items k)) m1)
indexed_holds (object o) vs m = bare_holds (indexed_object_bare o m)
indexed_holds v vs m = record { law = same m }

pub part_of_law : (i : ℕ) (v : Val) (m : Memory) → Law m (given_gains (part_of i v m)) (part_of i v m)
part_of_law i v m = held_law (read_value_holds (path_value v (Field i ∷ [])) m)

-- ---- ReDim and Erase

if_stays : {A : Type 0} {m : Memory} {e f : Effect A} (b : Bool) → Stays m e → Stays m f → Stays m (if b then e else f)
if_stays true a c = a
if_stays false a c = c

fine_stays : {A : Type 0} (v : A) (m : Memory) → Stays m (Fine v m)
fine_stays v m = record { law = refl }

bad_stays : {A : Type 0} (n : ℕ) (m : Memory) → Stays {A = A} m (Bad-at n m)
bad_stays n m = record { law = refl }

element_type_stays : (of : Declared) (t : Option Declared) (m : Memory) → Stays m (element_type of t m)
element_type_stays (type.array_of of) None m = fine_stays of m
element_type_stays (type.array_of of) (Some t) m = if_stays (is_same_type of t) (fine_stays of m) (bad_stays 13 m)
element_type_stays type.variant None m = fine_stays type.variant m
element_type_stays type.variant (Some t) m = fine_stays t m
element_type_stays other t m = bad_stays 13 m

resized_stays : (d : Declarations) (shape bounds : List Bound) (of : Declared) (items : Vals) (m : Memory) → Stays m (resized_array d shape bounds of items m)
resized_stays d shape [] of items m = fine_stays _ m
resized_stays d shape (b ∷ bs) of items m =
    if_stays (can_resize shape (array (b ∷ bs) of items)) (fine_stays (resized shape (initial (types_of d) of) (array (b ∷ bs) of items)) m) (bad_stays 9 m)

preserved_stays : (d : Declarations) (t : Option Declared) (shape : List Bound) (v : Val) (m : Memory) → Stays m (preserved d t shape v m)
preserved_stays d t shape (array bounds of items) m = both_stay (element_type_stays (type.array_of of) t m) (λ u m1. resized_stays d shape bounds of items m1)
preserved_stays d t shape v m = bad_stays 13 m

redim_value_stays : (d : Declarations) (preserve : Bool) (t : Option Declared) (shape : List Bound) (p : Path) (old : Val) (m : Memory) → Stays m (redim_value d preserve t shape p old m)
redim_value_stays d preserve t shape p old m =
    if_stays preserve (preserved_stays d t shape old m) (both_stay (element_type_stays p.of t m) (λ of m1. fine_stays (new_array d shape of) m1))

-- what stands at the place still does
still_there : {m m1 : Memory} {p : Path} {old : Val} → m1 ≡ m → IsThere m p old → IsThere m1 p old
still_there {p = p} {old = old} e there = subst (λ n. IsThere n p old) (sym e) there

pub redimmed_law : (d : Declarations) (preserve : Bool) (t : Option Declared) (p : Path) (vs : List Val) (m : Memory) → Law m (redimmed_gains d preserve t p vs m) (redimmed d preserve t p vs m)
redimmed_law d preserve t p vs m =
    after_still (numbers_law vs m) (λ zs m1.
    then_found (assignable_finds p m1) (λ old m2 there.
    then_stays (answered_stays (shape_of (bounds_of zs)) m2) (λ shape m3 e3.
    then_stays (redim_value_stays d preserve t shape p old m3) (λ v m4 e4. fine _ (exchanged_grows m4 p old v (still_there e4 (still_there e3 there)))))))

erased_value_law : (d : Declarations) (bounded : Bool) (x : Option Val) (m : Memory) → Law m [] (erased_value d bounded x m)
erased_value_law d bounded None m = bad 9 (same m)
erased_value_law d bounded (Some (array bounds of items)) m = fine _ (same m)
erased_value_law d bounded (Some v) m = bad 13 (same m)

pub erased_law : (d : Declarations) (p : Path) (m : Memory) → Law m (erased_gains d p m) (erased d p m)
erased_law d p m =
    after_still (erased_value_law d p.bounded (value_at m p) m) (λ v m1.
    then_found (replaceable_finds p m1) (λ old m2 there. fine _ (exchanged_grows m2 p old v there)))

-- ---- With

pub keep_path_law : (i : ℕ) (p : Path) (m : Memory) → Law m (objects_in (kept_value (kept_of p))) (keep_path i p m)
keep_path_law i p m = fine tt (keeping_grows i (kept_of p) m)

pub block_over_law : (i : ℕ) (m : Memory) → Law m [] (block_over i m)
block_over_law i m = fine tt (over_grows i m)

place_kept_law : (i : ℕ) (x : Option Kept) (m : Memory) → Law m [] (place_kept i x m)
place_kept_law i None m = bad 91 (same m)
place_kept_law i (Some (only v)) m = fine _ (same m)
place_kept_law i (Some (at_path p)) m = fine p (same m)
place_kept_law i (Some (walk begun v k)) m = bad 91 (same m)

pub dot_at_law : (i : ℕ) (m : Memory) → Law m [] (dot_at i m)
dot_at_law i m = place_kept_law i (found (top m).keeps i) m

-- ---- For Each

not_walking_grows : (i : ℕ) (x : Option Kept) (m : Memory) → found (top m).keeps i ≡ x → Grows m [] (not_walking i x m)
not_walking_grows i None m e = same m
not_walking_grows i (Some (only v)) m e = same m
not_walking_grows i (Some (at_path p)) m e = same m
not_walking_grows i (Some (walk begun v k)) m e = still_walking i false begun v k k m e

pub each_off_law : (i : ℕ) (m : Memory) → Law m [] (each_off i m)
each_off_law i m = fine tt (not_walking_grows i (found (top m).keeps i) m refl)

walkable_law : (v : Val) (m : Memory) → Law m [] (walkable v m)
walkable_law (array bounds of items) m = fine tt (same m)
walkable_law (object Nothing) m = bad 91 (same m)
walkable_law (object (Host host.Sheets)) m = fine tt (same m)
walkable_law (object (Host (host.Area s t l r c))) m = fine tt (same m)
walkable_law (object (Heap id)) m = both (is_collection (Heap id) m) (fine tt (same m)) (bad 438 (same m))
walkable_law (object o) m = bad 438 (same m)
walkable_law v m = bad 13 (same m)

pub each_begun_law : (i : ℕ) (v : Val) (m : Memory) → Law m (each_begun_gains v m) (each_begun i v m)
each_begun_law i v m = after_still (walkable_law v m) (λ u m1. fine _ (walking_grows i v m1))

item_stored_law : (x : Variable) (v : Val) (m : Memory) → Law m (item_stored_gains x v m) (item_stored x v m)
item_stored_law x v m = after_still (fitted_law (path_of m x).of v m) (λ w m1. stored_law (path_of m1 x) w m1)

next_item_law : (x : Variable) (i : ℕ) (v : Val) (k : ℕ) (y : Option Val) (m : Memory) → found (top m).keeps i ≡ Some (walk true v k) → Law m (next_item_gains x i v k y m) (next_item x i v k y m)
next_item_law x i v k None m e = then_still (block_over_law i m) (λ u m1. fine false (same m1))
next_item_law x i v k (Some w) m e =
    then_still (moved (still_walking i true true v k (suc k) m e) (item_stored_law x w (walking i true v (suc k) m))) (λ u m1. fine true (same m1))

each_by_law : (x : Variable) (i : ℕ) (y : Option Kept) (m : Memory) → found (top m).keeps i ≡ y → Law m (each_by_gains x i y m) (each_by x i y m)
each_by_law x i (Some (walk true v k)) m e = next_item_law x i v k (item_of v k m) m e
each_by_law x i other m e = bad 92 (same m)

pub each_next_law : (x : Variable) (i : ℕ) (m : Memory) → Law m (each_next_gains x i m) (each_next x i m)
each_next_law x i m = each_by_law x i (found (top m).keeps i) m refl
