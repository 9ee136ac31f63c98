-- What is done in one go with arrays, Types and With blocks.
use Rattle.std.specs.Prelude.{ℕ, suc, ◌+◌, ◌*◌, ◌/◌, ◌%◌, nat_lt, ℤ, pos, List, [], ◌∷◌, length, Bool, true, false, if◌then◌else◌, Option, Some, None, slice_get}
use Rattle.vba_values.specs.declared.object.ObjRef.{ObjRef}
use Rattle.vba_values.specs.declared.object.ObjRef.TheVariants.{Nothing, Heap, Host}
use Rattle.vba_values.specs.declared.object.HostRef.TheVariants.{ErrObject, Sheet, Sheets, Area}
use Rattle.vba_values.specs.declared.value.Bound.{Bound}
use Rattle.vba_values.specs.Types.{Declared}
use Rattle.vba_values.specs.Types as type
use Rattle.vba_values.specs.Val.{Val, Vals, no_vals, whole, object, array}
use Rattle.vba_values.specs.Coerce.{coerce_of, is_same_type}
use Rattle.arrays_udt.specs.declared.paths.PathStep.TheVariants.{Field, Element}
use Rattle.arrays_udt.specs.Shapes.{offset_of, shape_of}
use Rattle.arrays_udt.specs.Resize.{item_at, can_resize, resized}
use Rattle.arrays_udt.specs.Fresh.{filled, initial}
use Rattle.arrays_udt.specs.Paths.{path_value}
use Rattle.bound_project.specs.Expressions.{Variable}
use Rattle.bound_project.specs.Project.{Declarations, types_of}
use Rattle.vba_meaning.specs.Paths.{Root, in_block, in_item, Path, element_path}
use Rattle.vba_meaning.specs.Memory.{Kept, only, at_path, walk, Memory, top, with_top, rest, found, without, put, value_at, with_value, path_of, object_at, value_in_item}
use Rattle.vba_meaning.specs.References.{objects_in, displaced, waits}
use Rattle.vba_meaning.specs.Effects.{Effect, Fine, Bad-at, on_fine, done, answered, fitted, read_value, replaceable, assignable, stored, kept_at, area_in, range_value, is_collection}

-- ---- elements and fields ([MS-VBAL] 5.6.12, 5.6.13)

abbrev pub number_in : Val → ℤ
number_in (whole k z) = z
number_in v = pos 0

-- the numbers of a place: each value becomes a Long
abbrev pub numbers : List Val → Memory → Effect (List ℤ)
numbers [] m = Fine [] m
numbers (v ∷ vs) m = on_fine (answered (coerce_of v type.long) m) (λ w m1. on_fine (numbers vs m1) (λ zs m2. Fine (number_in w ∷ zs) m2))

abbrev pub offset_at : List Bound → List Val → Memory → Effect ℕ
offset_at bounds vs m = on_fine (numbers vs m) (λ zs m1. answered (offset_of bounds zs) m1)

-- an object is indexed by its default member: Nothing has none, Number of Err takes no arguments
abbrev pub indexed_object : {A : Type 0} → ObjRef → Memory → Effect A
indexed_object Nothing m = Bad-at 91 m
indexed_object (Host ErrObject) m = Bad-at 450 m
indexed_object o m = Bad-at 438 m

-- the path of the element with these numbers, of the array that is now at a path: 9 where there is no such place any
-- more, 450 where there is neither an array nor an object, so that the numbers are arguments too many
abbrev pub element_in : Path → Option Val → List Val → Memory → Effect Path
element_in p None vs m = on_fine (numbers vs m) (λ zs m1. Bad-at 9 m1)
element_in p (Some (array bounds of items)) vs m = on_fine (offset_at bounds vs m) (λ k m1. Fine (element_path p k of) m1)
element_in p (Some (object o)) vs m = indexed_object o m
element_in p (Some v) vs m = Bad-at 450 m

abbrev pub element_at : Path → List Val → Memory → Effect Path
element_at p vs m = element_in p (value_at m p) vs m

-- the same of a value
abbrev pub indexed : Val → List Val → Memory → Effect Val
indexed (array bounds of items) vs m = on_fine (offset_at bounds vs m) (λ k m1. read_value (Some (item_at items k)) m1)
indexed (object o) vs m = indexed_object o m
indexed v vs m = Bad-at 450 m

abbrev pub part_of : (field : ℕ) → Val → Memory → Effect Val
part_of i v m = read_value (path_value v (Field i ∷ [])) m

-- ---- ReDim and Erase ([MS-VBAL] 5.4.3.3, 5.4.3.4)

-- the bounds of dimensions, from the low and the high one of each
abbrev pub bounds_of : List ℤ → List Bound
bounds_of [] = []
bounds_of (low ∷ []) = []
bounds_of (low ∷ high ∷ zs) = record { low = low; high = high } ∷ bounds_of zs

-- the type of the elements: that of the array, which another one that is written doesn't change; a Variant takes an
-- array of any
abbrev pub element_type : Declared → (written : Option Declared) → Memory → Effect Declared
element_type (type.array_of of) None m = Fine of m
element_type (type.array_of of) (Some t) m = if is_same_type of t then Fine of m else Bad-at 13 m
element_type type.variant None m = Fine type.variant m
element_type type.variant (Some t) m = Fine t m
element_type other t m = Bad-at 13 m

-- a new array, each element with its first value
abbrev pub new_array : Declarations → List Bound → Declared → Val
new_array d bounds of = filled bounds of (initial (types_of d) of)

-- an array with new bounds: 9 where more than the last upper bound would differ; one without storage gets new elements
abbrev pub resized_array : Declarations → (shape bounds : List Bound) → Declared → Vals → Memory → Effect Val
resized_array d shape [] of items m = Fine (new_array d shape of) m
resized_array d shape bounds of items m =
    let old = array bounds of items in
    if can_resize shape old then Fine (resized shape (initial (types_of d) of) old) m else Bad-at 9 m

-- Preserve: the array that is there keeps its elements
abbrev pub preserved : Declarations → (written : Option Declared) → (shape : List Bound) → Val → Memory → Effect Val
preserved d t shape (array bounds of items) m = on_fine (element_type (type.array_of of) t m) (λ u m1. resized_array d shape bounds of items m1)
preserved d t shape v m = Bad-at 13 m

abbrev pub redim_value : Declarations → (preserve : Bool) → (written : Option Declared) → (shape : List Bound) → Path → Val → Memory → Effect Val
redim_value d preserve t shape p old m =
    if preserve then preserved d t shape old m
    else on_fine (element_type p.of t m) (λ of m1. Fine (new_array d shape of) m1)

-- a value is stored, and what was there waits to be let go: so many references
abbrev pub exchanged : Path → (old new : Val) → Memory → Effect ℕ
exchanged p old v m = Fine (length (objects_in old)) (waits (objects_in old) (with_value m p v))

-- ReDim of one array: 10 first, then the new bounds, then what Preserve refuses
abbrev pub redimmed : Declarations → (preserve : Bool) → (written : Option Declared) → Path → List Val → Memory → Effect ℕ
redimmed d preserve t p vs m =
    on_fine (numbers vs m) (λ zs m1.
    on_fine (assignable p m1) (λ old m2.
    on_fine (answered (shape_of (bounds_of zs)) m2) (λ shape m3.
    on_fine (redim_value d preserve t shape p old m3) (λ v m4. exchanged p old v m4))))

-- an array that is declared with bounds gets new elements, any other is without storage then
abbrev pub erased_value : Declarations → (bounded : Bool) → Option Val → Memory → Effect Val
erased_value d bounded None m = Bad-at 9 m
erased_value d bounded (Some (array bounds of items)) m = Fine (if bounded then new_array d bounds of else array [] of no_vals) m
erased_value d bounded (Some v) m = Bad-at 13 m

abbrev pub erased : Declarations → Path → Memory → Effect ℕ
erased d p m =
    on_fine (erased_value d p.bounded (value_at m p) m) (λ v m1.
    on_fine (replaceable p m1) (λ old m2. exchanged p old v m2))

-- ---- With ([MS-VBAL] 5.4.2.21)

abbrev pub keeping : ℕ → Kept → Memory → Memory
keeping i k m = displaced (kept_at i m) (with_top m (record (top m) { keeps = put i k (top m).keeps }))

-- the block keeps a place; of an item of a Collection, which has none, the value
abbrev pub kept_of : Path → Kept
kept_of p = at p.root
  where
    at : Root → Kept
    at (in_item v) = only (value_in_item v p.steps)
    at root = at_path p

abbrev pub keep_path : ℕ → Path → Memory → Effect (Unit {0})
keep_path i p m = done (keeping i (kept_of p) m)

-- a block is over: it keeps nothing any more
abbrev pub block_over : ℕ → Memory → Effect (Unit {0})
block_over i m = done (displaced (kept_at i m) (with_top m (record (top m) { keeps = without (top m).keeps i })))

-- where a With block's dot leads: to its place, or to the value that the block keeps
abbrev pub place_kept : ℕ → Option Kept → Memory → Effect Path
place_kept i None m = Bad-at 91 m
place_kept i (Some (only v)) m = Fine (record { root = in_block (length (rest m.frames)) i; steps = []; of = type.variant; bounded = false; makes = None }) m
place_kept i (Some (at_path p)) m = Fine p m
place_kept i (Some (walk begun v k)) m = Bad-at 91 m

abbrev pub dot_at : ℕ → Memory → Effect Path
dot_at i m = place_kept i (found (top m).keeps i) m

-- ---- For Each ([MS-VBAL] 5.4.2.4)

abbrev pub walking : ℕ → (begun : Bool) → Val → (next : ℕ) → Memory → Memory
walking i begun v k m = with_top m (record (top m) { keeps = put i (walk begun v k) (top m).keeps })

-- a header begins: the loop counts as not begun, but what it walked stays
abbrev pub not_walking : ℕ → Option Kept → Memory → Memory
not_walking i (Some (walk begun v k)) m = walking i false v k m
not_walking i other m = m

abbrev pub each_off : ℕ → Memory → Effect (Unit {0})
each_off i m = done (not_walking i (found (top m).keeps i) m)

-- what can be walked: an array, the sheets, the cells of a range by rows, a Collection
abbrev pub walkable : Val → Memory → Effect (Unit {0})
walkable (array bounds of items) m = done m
walkable (object Nothing) m = Bad-at 91 m
walkable (object (Host Sheets)) m = done m
walkable (object (Host (Area s t l r c))) m = done m
walkable (object (Heap id)) m = if is_collection (Heap id) m then done m else Bad-at 438 m
walkable (object o) m = Bad-at 438 m
walkable v m = Bad-at 13 m

-- the loop is begun, and what it walked before waits to be let go: so many references
abbrev pub each_begun : ℕ → Val → Memory → Effect ℕ
each_begun i v m = on_fine (walkable v m) (λ u m1. Fine (length (objects_in (kept_at i m1))) (waits (objects_in (kept_at i m1)) (walking i true v 0 m1)))

-- a control variable takes an item, one of an object type by the test of Set
abbrev pub item_stored : Variable → Val → Memory → Effect (Unit {0})
item_stored x v m = on_fine (fitted (path_of m x).of v m) (λ w m1. stored (path_of m1 x) w m1)

-- an item that can't be stored counts as walked; behind the last one the loop is over
abbrev pub next_item : Variable → ℕ → Val → (next : ℕ) → Option Val → Memory → Effect Bool
next_item x i v k None m = on_fine (block_over i m) (λ u m1. Fine false m1)
next_item x i v k (Some w) m = on_fine (item_stored x w (walking i true v (suc k) m)) (λ u m1. Fine true m1)

-- the k-th item of what is walked, where there is one: of a Collection as it is now
abbrev pub item_of : Val → ℕ → Memory → Option Val
item_of (object (Host Sheets)) k m = if nat_lt k (length m.book) then Some (object (Host (Sheet (suc k)))) else None
item_of (object (Host (Area s t l r c))) k m = if nat_lt k (r * c) then Some (range_value (area_in s (t + k / c) (l + k % c) 1 1)) else None
item_of (object (Heap id)) k m = slice_get (object_at m id.0).fields k
item_of v k m = path_value v (Element k ∷ [])

abbrev pub each_by : Variable → ℕ → Option Kept → Memory → Effect Bool
each_by x i (Some (walk true v k)) m = next_item x i v k (item_of v k m) m
each_by x i other m = Bad-at 92 m

-- whether there was a further item
abbrev pub each_next : Variable → ℕ → Memory → Effect Bool
each_next x i m = each_by x i (found (top m).keeps i) m
