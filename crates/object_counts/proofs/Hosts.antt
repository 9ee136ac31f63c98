-- What effects on host objects raise, and stores at places that numbers lead to.
use Rattle.std.proofs.Common.{◌≡◌, ℕ, zero, suc, ◌*◌, Bool, true, false, List, [], ◌∷◌, length, Option, Some, None, Result, ℤ, pos, negsuc, ◌-ℤ◌, refl}
use Rattle.std.specs.Prelude.{nat_lt, ◌==◌, ◌&&◌, slice_index_or, if◌then◌else◌}
use Rattle.std.specs.List.{list_any}
use Rattle.vba_base.specs.Fold.{folded}
use Rattle.vba_values.specs.declared.fault.Bad.{Bad}
use Rattle.vba_values.specs.declared.fault.OutKind.TheVariants as limit
use Rattle.vba_values.specs.declared.object.ObjRef.{ObjRef}
use Rattle.vba_values.specs.declared.object.ObjRef.TheVariants.{Nothing, Heap, Host}
use Rattle.vba_values.specs.declared.object.HostRef.{HostRef}
use Rattle.vba_values.specs.declared.object.HostRef.TheVariants as host
use Rattle.vba_values.specs.declared.types.WholeKind.TheVariants as kind
use Rattle.vba_values.specs.Types.{Declared}
use Rattle.vba_values.specs.Types as type
use Rattle.vba_values.specs.Val.{Val, empty, missing, boolean, text, object, array}
use Rattle.vba_values.specs.Coerce.{coerce_of}
use Rattle.vba_values.specs.Whole.{ranged}
use Rattle.sheet_host.specs.declared.area.Area.{Area}
use Rattle.sheet_host.specs.declared.cell.CellValue.{CellValue}
use Rattle.sheet_host.specs.declared.cell.CellValue.TheVariants as cell
use Rattle.sheet_host.specs.declared.members.HostMember.{HostMember}
use Rattle.sheet_host.specs.declared.members.HostMember.TheVariants.{Write, Call}
use Rattle.sheet_host.specs.Address.{address_of}
use Rattle.sheet_host.specs.AddressText.{area_of_text}
use Rattle.sheet_host.specs.Area.{offset_of, resized}
use Rattle.sheet_host.specs.Books.{sheet_at, content_at, sheet_named, written_count, cell_limit, with_area}
use Rattle.sheet_host.specs.Field.{is_empty}
use Rattle.sheet_host.specs.Members.{member_of, number_of}
use Rattle.sheet_host.specs.Reading.{area_value}
use Rattle.sheet_host.specs.Sheets.{Position, value_at as cell_at, used_area, nth_cell}
use Rattle.sheet_host.specs.Writing.{cells_of}
use Rattle.bound_project.specs.Expressions.{ByName, err_number, err_source, err_description}
use Rattle.bound_project.specs.Project.{Declarations}
use Rattle.vba_meaning.specs.Paths.{Root, in_frame, in_project, in_fields, in_block, in_object, in_item, Step, Path}
use Rattle.vba_meaning.specs.Memory.{Memory, value, outside, value_at}
use Rattle.vba_meaning.specs.Effects.{Effect, Fine, Bad-at, on_fine, done, plain, err_of, is_true, range_value, area_in, raised_by, assigned, is_collection}
use Rattle.vba_meaning.specs.Events.{is_heard, noted}
use Rattle.vba_meaning.specs.Arrays.{number_in, indexed}
use Rattle.vba_meaning.specs.Host.{sheet_value, long_value, area_found, whole_sheet, long_of, units_in, text_of, area_by, cell_found, cells_found, spanned, area_of, range_between, range_found, sheet_numbered, sheet_by, sheet_found, first_sheet, cell_events, cells_put, area_written, one_cleared, cleared, member_value, two, takes, fits_in, are_places, can_index, plains, item_by, member_begun, member_there, as_given, member_by, member_called, number_given, text_given, error_given, written_default, object_member, path_to, place_at, item_written, assigned_at, item_assigned, with_mark, mark_set, assigned_through, member_set, through_item, member_assigned, member_not_set}
use Rattle.vba_meaning.specs.Collections.{CollectionMember, is_item, takes_in_collection, names_in_collection}
use Rattle.vba_meaning.specs.ByName.{parameter_names, parameters_given, first_given, named_begun, named_there}
use Rattle.object_counts.specs.Gains.{gains_behind, given_gains, assigned_gains, assigned_at_gains, member_by_gains, member_gains, object_member_gains, through_gains, member_assigned_gains, place_at_gains}
use Rattle.object_counts.proofs.Looks.{Grows, same}
use Rattle.object_counts.proofs.Chains.{Law, fine, bad, out, told, then_still, after_still, answered_law, either, both, AllOf, one_of, Holds, held_law, then_holds, both_hold, Bare, bare_holds, bare_law, then_bare}
use Rattle.object_counts.proofs.Variables.{plain_law, err_off_law, assigned_law, alike}
use Rattle.object_counts.proofs.Loops.{indexed_holds, indexed_object_bare, element_in_law}
use Rattle.object_counts.proofs.Items.{collection_member_law, item_found_holds, collection_used_law}

-- ---- sheets and areas that are found

area_found_bare : (r : Result Area Bad) (m : Memory) → Bare m (area_found r m)
area_found_bare r m = then_bare (answered_law r m) (λ a m1. record { law = (refl, same m1) })

long_law : (v : Val) (m : Memory) → Law m [] (long_of v m)
long_law v m = then_still (plain_law v m) (λ w m1. then_still (answered_law (coerce_of w type.long) m1) (λ x m2. fine (number_in x) (same m2)))

text_law : (v : Val) (m : Memory) → Law m [] (text_of v m)
text_law v m = then_still (plain_law v m) (λ w m1. then_still (answered_law (coerce_of w type.text) m1) (λ x m2. fine (units_in x) (same m2)))

bad_bare : (n : ℕ) (m : Memory) → Bare m (Bad-at n m)
bad_bare n m = record { law = same m }

area_by_bare : (f : ℤ → ℤ → Result Area Bad) (vs : List Val) (m : Memory) → Bare m (area_by f vs m)
area_by_bare f [] m = bad_bare 449 m
area_by_bare f (v ∷ []) m = bad_bare 449 m
area_by_bare f (r ∷ c ∷ []) m = then_bare (long_law r m) (λ y m1. then_bare (long_law c m1) (λ x m2. area_found_bare (f y x) m2))
area_by_bare f (r ∷ c ∷ v ∷ vs) m = bad_bare 450 m

cell_found_bare : (a : Area) (vs : List Val) (m : Memory) → Bare m (cell_found a vs m)
cell_found_bare a vs m = area_by_bare (λ y x. offset_of (record a { rows = 1; columns = 1 }) (y -ℤ pos 1) (x -ℤ pos 1)) vs m

cells_found_bare : (a : Area) (vs : List Val) (m : Memory) → Bare m (cells_found a vs m)
cells_found_bare a [] m = record { law = (refl, same m) }
cells_found_bare a (v ∷ vs) m = cell_found_bare a (v ∷ vs) m

area_of_law : (v : Val) (m : Memory) → Law m [] (area_of v m)
area_of_law (object (Host (host.Area s t l r c))) m = fine _ (same m)
area_of_law (object Nothing) m = bad 91 (same m)
area_of_law v m = bad 13 (same m)

range_between_law : (s : ℕ) (v w : Val) (m : Memory) → Law m [] (range_between s v w m)
range_between_law s v w m =
    then_still (area_of_law v m) (λ a m1. then_still (area_of_law w m1) (λ b m2.
    both (a.sheet.0 == s && b.sheet.0 == s) (fine (range_value (spanned a b)) (same m2)) (bad 1004 (same m2))))

one_text_law : (s : ℕ) (v : Val) (m : Memory) → Law m [] (on_fine (text_of v m) (λ address m1. area_found (area_of_text (record { 0 = s }) address) m1))
one_text_law s v m = then_still (text_law v m) (λ address m1. bare_law (area_found_bare (area_of_text (record { 0 = s }) address) m1))

range_found_law : (s : ℕ) (vs : List Val) (m : Memory) → Law m [] (range_found s vs m)
range_found_law s [] m = bad 449 (same m)
range_found_law s (missing ∷ vs) m = bad 449 (same m)
range_found_law s (v ∷ []) m = one_text_law s v m
range_found_law s (v ∷ w ∷ []) m = range_between_law s v w m
range_found_law s vs m = bad 450 (same m)

sheet_numbered_bare : (z : ℤ) (m : Memory) → Bare m (sheet_numbered z m)
sheet_numbered_bare (pos zero) m = bad_bare 9 m
sheet_numbered_bare (pos (suc i)) m = by_test (nat_lt i (length m.book)) where
  by_test : (b : Bool) → Bare m (if b then Fine (sheet_value (suc i)) m else Bad-at 9 m)
  by_test true = record { law = (refl, same m) }
  by_test false = bad_bare 9 m
sheet_numbered_bare (negsuc n) m = bad_bare 9 m

sheet_of_number : (v : Val) (m : Memory) → Bare m (on_fine (long_of v m) (λ z m1. sheet_numbered z m1))
sheet_of_number v m = then_bare (long_law v m) (λ z m1. sheet_numbered_bare z m1)

sheet_by_bare : (v : Val) (m : Memory) → Bare m (sheet_by v m)
sheet_by_bare (text units) m = then_bare (answered_law (sheet_named m.book (folded units)) m) (λ s m1. record { law = (refl, same m1) })
sheet_by_bare v m = sheet_of_number v m

sheet_found_bare : (vs : List Val) (m : Memory) → Bare m (sheet_found vs m)
sheet_found_bare [] m = bad_bare 449 m
sheet_found_bare (v ∷ []) m = then_bare (plain_law v m) (λ w m1. sheet_by_bare w m1)
sheet_found_bare (v ∷ w ∷ vs) m = bad_bare 450 m

pub first_sheet_law : (m : Memory) → Law m [] (first_sheet m)
first_sheet_law m = both (length m.book == 0) (bad 91 (same m)) (fine (sheet_value 1) (same m))

-- ---- cells that are written

cells_put_law : (a : Area) (cs : List CellValue) (m : Memory) → Law m [] (cells_put a cs m)
cells_put_law a cs m =
    both (nat_lt cell_limit (written_count (with_area m.book a cs))) (out (outside limit.Cells) (same m))
    (told (cell_events a 0 cs) (fine tt (alike (λ h. h) (λ o. refl))))

noted_grows : (a : Area) (m : Memory) → Grows m [] (noted a m)
noted_grows a m = by_test (is_heard a m) where
  by_test : (b : Bool) → Grows m [] (if b then record m { changed = Some a } else m)
  by_test true = alike (λ h. h) (λ o. refl)
  by_test false = same m

area_written_law : (a : Area) (v : Val) (m : Memory) → Law m [] (area_written a v m)
area_written_law a v m =
    both (nat_lt cell_limit (a.rows * a.columns)) (out (outside limit.Cells) (same m))
    (then_still (plain_law v m) (λ w m1. then_still (then_still (answered_law (cells_of w a.rows a.columns) m1) (λ cs m2. cells_put_law a cs m2)) (λ u m2. fine tt (noted_grows a m2))))

one_cleared_law : (a : Area) (p : Position) (m : Memory) → Law m [] (one_cleared a p m)
one_cleared_law a p m = both (is_empty (cell_at (content_at m.book a.sheet) p)) (fine tt (same m)) (cells_put_law (area_in a.sheet.0 p.0 p.1 1 1) (cell.Empty ∷ []) m)

cleared_law : (a : Area) (n : ℕ) (m : Memory) → Law m [] (cleared a n m)
cleared_law a zero m = fine tt (same m)
cleared_law a (suc n) m = then_still (cleared_law a n m) (λ u m1. one_cleared_law a (nth_cell a n) m1)

pub written_default_law : (target v : Val) (m : Memory) → Law m [] (written_default target v m)
written_default_law (object Nothing) v m = bad 91 (same m)
written_default_law (object (Host (host.Area s t l r c))) v m = area_written_law (area_in s t l r c) v m
written_default_law (object (Host host.Sheets)) v m = bad 449 (same m)
written_default_law (object (Heap id)) v m = both (is_collection (Heap id) m) (bad 449 (same m)) (bad 438 (same m))
written_default_law (object o) v m = bad 438 (same m)
written_default_law w v m = bad 424 (same m)

-- ---- members

-- a member by its number
module _ (m : Memory) where
  record Members (xs : List (Effect Val)) : Type 0 where
    laws : AllOf (Law m []) xs

  no_more : Members []
  no_more = record { laws = tt }

  and_then : {e : Effect Val} {xs : List (Effect Val)} → Law m [] e → Members xs → Members (e ∷ xs)
  and_then a more = record { laws = (a, more.laws) }

  given : (v : Val) {xs : List (Effect Val)} → Members xs → Members (Fine v m ∷ xs)
  given v more = and_then (fine v (same m)) more

  by_number : {xs : List (Effect Val)} (n : ℕ) → Members xs → Law m [] (slice_index_or xs n (Bad-at 438 m))
  by_number {xs = xs} n all = one_of (Law m []) xs n (Bad-at 438 m) all.laws (bad 438 (same m))

empty_behind : {A : Type 0} {m : Memory} {e : Effect A} → Law m [] e → Law m [] (on_fine e (λ u m1. Fine empty m1))
empty_behind a = then_still a (λ u m1. fine empty (same m1))

member_value_law : (d : Declarations) (r : HostRef) (n : ℕ) (vs : List Val) (m : Memory) → Law m [] (member_value d r n vs m)
member_value_law d host.Application n vs m = by_number m n (given m (boolean m.events_on) (given m (boolean m.updates_screen) (given m (boolean m.shows_alerts) (no_more m))))
member_value_law d host.Workbook n vs m = fine (object (Host host.Sheets)) (same m)
member_value_law d host.Sheets n vs m = by_number m n (given m (long_value (length m.book)) (and_then m (bare_law (sheet_found_bare vs m)) (no_more m)))
member_value_law d host.ErrObject n vs m =
    by_number m n (given m (err_of d err_number m.err) (given m (err_of d err_source m.err) (given m (err_of d err_description m.err) (and_then m (empty_behind (err_off_law m)) (no_more m)))))
member_value_law d (host.Sheet s) n vs m =
    by_number m n (given m (text (sheet_at m.book (record { 0 = s })).name) (given m (long_value s) (and_then m (bare_law (cells_found_bare (whole_sheet s) vs m))
    (and_then m (range_found_law s vs m) (given m (range_value (used_area (record { 0 = s }) (content_at m.book (record { 0 = s })))) (no_more m))))))
member_value_law d (host.Area s t l r c) n vs m =
    let a : Area = area_in s t l r c in
    by_number m n (and_then m (answered_law (area_value m.book a) m) (given m (text (address_of a)) (given m (long_value t) (given m (long_value l)
    (and_then m (answered_law (ranged kind.Long (pos (r * c))) m) (given m (object (Host (host.RowsOf r))) (given m (object (Host (host.ColumnsOf c)))
    (and_then m (bare_law (cells_found_bare a vs m)) (and_then m (bare_law (cell_found_bare a vs m)) (and_then m (bare_law (area_by_bare (offset_of a) vs m))
    (and_then m (bare_law (area_by_bare (resized a) vs m)) (and_then m (then_still (cleared_law a (r * c) m) (λ u m1. fine empty (noted_grows a m1))) (given m (sheet_value s) (given m (sheet_value s) (no_more m)))))))))))))))
member_value_law d (host.RowsOf count) n vs m = fine (long_value count) (same m)
member_value_law d (host.ColumnsOf count) n vs m = fine (long_value count) (same m)

fits_in_law : (ns : List ℕ) (k : ℕ) (m : Memory) → Law m [] (fits_in ns k m)
fits_in_law [] k m = bad 450 (same m)
fits_in_law (n ∷ ns) k m = both (n == k) (fine tt (same m)) (both (nat_lt k n) (bad 449 (same m)) (fits_in_law ns k m))

can_index_law : (v : Val) (k : ℕ) (m : Memory) → Law m [] (can_index v k m)
can_index_law (array bounds of items) k m = fine _ (same m)
can_index_law (object (Host host.Sheets)) k m = then_still (fits_in_law (1 ∷ []) k m) (λ u m1. fine (object (Host host.Sheets)) (same m1))
can_index_law (object (Host (host.Area s t l r c))) k m = then_still (fits_in_law two k m) (λ u m1. fine (object (Host (host.Area s t l r c))) (same m1))
can_index_law (object o) k m = bad 438 (same m)
can_index_law v k m = bad 450 (same m)

pub plains_law : (vs : List Val) (m : Memory) → Law m [] (plains vs m)
plains_law [] m = fine [] (same m)
plains_law (v ∷ vs) m = then_still (plain_law v m) (λ w m1. then_still (plains_law vs m1) (λ ws m2. fine (w ∷ ws) (same m2)))

unindexed : (o : ObjRef) (vs : List Val) (m : Memory) → Bare m (on_fine (plains vs m) (λ ws m1. indexed (object o) ws m1))
unindexed o vs m = then_bare (plains_law vs m) (λ ws m1. indexed_object_bare o m1)

item_of_object : (o : ObjRef) (vs : List Val) (m : Memory) → Holds m (item_by (object o) vs m)
item_of_object (Host host.Sheets) vs m = bare_holds (sheet_found_bare vs m)
item_of_object (Host (host.Area s t l r c)) vs m = bare_holds (cell_found_bare (area_in s t l r c) vs m)
item_of_object (Heap id) vs m = both_hold (is_collection (Heap id) m) (item_found_holds id.0 vs m) (bare_holds (unindexed (Heap id) vs m))
item_of_object o vs m = bare_holds (unindexed o vs m)

item_of_value : (v : Val) (vs : List Val) (m : Memory) → Holds m (on_fine (plains vs m) (λ ws m1. indexed v ws m1))
item_of_value v vs m = then_holds (plains_law vs m) (λ ws m1. indexed_holds v ws m1)

item_holds : (v : Val) (vs : List Val) (m : Memory) → Holds m (item_by v vs m)
item_holds (object o) vs m = item_of_object o vs m
item_holds v vs m = item_of_value v vs m

pub item_law : (v : Val) (vs : List Val) (m : Memory) → Law m (given_gains (item_by v vs m)) (item_by v vs m)
item_law v vs m = held_law (item_holds v vs m)

member_begun_law : (d : Declarations) (r : HostRef) (how : HostMember) (k : ℕ) (m : Memory) → Law m [] (member_begun d r how k m)
member_begun_law d r how k m =
    both (are_places r how k) (then_still (member_value_law d r (number_of how) [] m) (λ v m1. can_index_law v k m1)) (empty_behind (fits_in_law (takes r (number_of how)) k m))

pub member_there_law : (d : Declarations) (name : List ℕ) (k : ℕ) (v : Val) (m : Memory) → Law m [] (member_there d name k v m)
member_there_law d name k (object Nothing) m = bad 91 (same m)
member_there_law d name k (object (Heap id)) m = then_still (collection_member_law id.0 name m) (λ how m1. empty_behind (fits_in_law (takes_in_collection how) k m1))
member_there_law d name k (object (Host r)) m = then_still (answered_law (member_of r name) m) (λ how m1. member_begun_law d r how k m1)
member_there_law d name k v m = bad 424 (same m)

first_given_law : (before : ℕ) (ps : List ℕ) (m : Memory) → Law m [] (first_given before ps m)
first_given_law zero ps m = both (list_any (λ p. p == 0) ps) (fine empty (same m)) (bad 449 (same m))
first_given_law (suc before) ps m = fine empty (same m)

begun_by : (xs : List (List ℕ)) (ns : List ℕ) (by : ByName) (k : ℕ) (m : Memory) (x : Option (List ℕ)) → parameters_given xs by.before by.names ≡ x → Law m [] (named_begun xs ns by k m)
begun_by xs ns by k m None e = rw e (bad 450 (same m))
begun_by xs ns by k m (Some ps) e = rw e (then_still (fits_in_law ns k m) (λ u m1. first_given_law by.before ps m1))

named_begun_law : (xs : List (List ℕ)) (ns : List ℕ) (by : ByName) (k : ℕ) (m : Memory) → Law m [] (named_begun xs ns by k m)
named_begun_law xs ns by k m = begun_by xs ns by k m (parameters_given xs by.before by.names) refl

pub named_there_law : (name : List ℕ) (by : ByName) (k : ℕ) (v : Val) (m : Memory) → Law m [] (named_there name by k v m)
named_there_law name by k (object Nothing) m = bad 91 (same m)
named_there_law name by k (object (Heap id)) m = then_still (collection_member_law id.0 name m) (λ how m1. named_begun_law (names_in_collection how) (takes_in_collection how) by k m1)
named_there_law name by k (object (Host r)) m =
    then_still (answered_law (member_of r name) m) (λ how m1. named_begun_law (parameter_names r (number_of how)) (takes r (number_of how)) by k m1)
named_there_law name by k v m = bad 424 (same m)

member_by_law : (d : Declarations) (r : HostRef) (how : HostMember) (vs : List Val) (begun : Val) (m : Memory) → Law m (member_by_gains r how vs begun m) (member_by d r how vs begun m)
member_by_law d r how vs begun m = either (are_places r how (length vs)) (item_law begun vs m) (member_value_law d r (number_of how) vs m)

pub member_called_law : (d : Declarations) (name : List ℕ) (vs : List Val) (base begun : Val) (m : Memory) → Law m (member_gains name vs base begun m) (member_called d name vs base begun m)
member_called_law d name vs (object (Host r)) begun m = after_still (answered_law (member_of r name) m) (λ how m1. member_by_law d r how (as_given vs) begun m1)
member_called_law d name vs v begun m = bad 424 (same m)

-- of a counted object
pub object_member_law : (name : List ℕ) (vs : List Val) (base : Val) (m : Memory) → Law m (object_member_gains name vs base m) (object_member name vs base m)
object_member_law name vs (object (Heap id)) m = after_still (collection_member_law id.0 name m) (λ how m1. collection_used_law id.0 how (as_given vs) m1)
object_member_law name vs v m = bad 424 (same m)

-- ---- Err.Raise

number_given_law : (v : Val) (m : Memory) → Law m [] (number_given v m)
number_given_law missing m = bad 449 (same m)
number_given_law v m = then_still (plain_law v m) (λ w m1. answered_law (coerce_of w type.long) m1)

text_given_law : (v : Val) (m : Memory) → Law m [] (text_given v m)
text_given_law missing m = fine missing (same m)
text_given_law v m = then_still (plain_law v m) (λ w m1. answered_law (coerce_of w type.text) m1)

pub error_given_law : (vs : List Val) (m : Memory) → Law m [] (error_given vs m)
error_given_law vs m =
    then_still (number_given_law (slice_index_or vs 0 missing) m) (λ number m1.
    then_still (text_given_law (slice_index_or vs 1 missing) m1) (λ source m2.
    then_still (text_given_law (slice_index_or vs 2 missing) m2) (λ description m3.
    fine (raised_by (value number ∷ value source ∷ value description ∷ []) m3) (same m3))))

-- ---- places that numbers lead to

place_by : (p : Path) (vs : List Val) (m : Memory) (x : Option Val) → value_at m p ≡ x → Law m (place_at_gains p vs m) (place_at p vs m)
place_by p vs m (Some (object o)) e = rw e (then_still (item_law (object o) vs m) (λ w m1. fine (path_to w) (same m1)))
place_by p vs m x e = rw e (element_in_law p (value_at m p) vs m)

pub place_at_law : (p : Path) (vs : List Val) (m : Memory) → Law m (place_at_gains p vs m) (place_at p vs m)
place_at_law p vs m = place_by p vs m (value_at m p) refl

assigned_here : (r : Root) (steps : List Step) (of : Declared) (bounded : Bool) (makes : Option ℕ) (v : Val) (m : Memory)
    → let p : Path = record { root = r; steps = steps; of = of; bounded = bounded; makes = makes } in
    Law m (gains_behind (plain v m) (λ w m1. assigned_gains p w m1)) (on_fine (plain v m) (λ w m1. assigned p w m1))
assigned_here r steps of bounded makes v m =
    let p : Path = record { root = r; steps = steps; of = of; bounded = bounded; makes = makes } in after_still (plain_law v m) (λ w m1. assigned_law p w m1)

item_written_law : (w : Val) (steps : List Step) (v : Val) (m : Memory) → Law m [] (item_written w steps v m)
item_written_law w [] v m = written_default_law w v m
item_written_law w (s ∷ steps) v m = then_still (plain_law v m) (λ x m1. fine tt (same m1))

assigned_from : (r : Root) (steps : List Step) (of : Declared) (bounded : Bool) (makes : Option ℕ) (v : Val) (m : Memory)
    → let p : Path = record { root = r; steps = steps; of = of; bounded = bounded; makes = makes } in Law m (assigned_at_gains p v m) (assigned_at p v m)
assigned_from (in_object o) steps of bounded makes v m = written_default_law (object o) v m
assigned_from (in_item w) steps of bounded makes v m = item_written_law w steps v m
assigned_from (in_frame k x) steps of bounded makes v m = assigned_here (in_frame k x) steps of bounded makes v m
assigned_from (in_project x) steps of bounded makes v m = assigned_here (in_project x) steps of bounded makes v m
assigned_from (in_fields n i) steps of bounded makes v m = assigned_here (in_fields n i) steps of bounded makes v m
assigned_from (in_block k i) steps of bounded makes v m = assigned_here (in_block k i) steps of bounded makes v m

pub assigned_at_law : (p : Path) (v : Val) (m : Memory) → Law m (assigned_at_gains p v m) (assigned_at p v m)
assigned_at_law p v m = assigned_from p.root p.steps p.of p.bounded p.makes v m

item_given : (base : Val) (vs : List Val) (v : Val) (m : Memory) → Law m (given_gains (item_by base vs m)) (on_fine (item_by base vs m) (λ w m1. on_fine (plain v m1) (λ x m2. done m2)))
item_given base vs v m = then_still (item_law base vs m) (λ w m1. then_still (plain_law v m1) (λ x m2. fine tt (same m2)))

pub item_assigned_law : (base : Val) (vs : List Val) (v : Val) (m : Memory) → Law m (given_gains (item_by base vs m)) (item_assigned base vs v m)
item_assigned_law (object o) vs v m = then_still (item_law (object o) vs m) (λ w m1. written_default_law w v m1)
item_assigned_law base vs v m = item_given base vs v m

-- ---- members that are assigned to

mark_law : (n : ℕ) (v : Val) (m : Memory) → Law m [] (mark_set n v m)
mark_law n v m = then_still (plain_law v m) (λ w m1. then_still (answered_law (coerce_of w type.boolean) m1) (λ b m2. fine tt (marked n (is_true b) m2))) where
  marked : (n : ℕ) (b : Bool) (m : Memory) → Grows m [] (with_mark n b m)
  marked zero b m = alike (λ h. h) (λ o. refl)
  marked (suc zero) b m = alike (λ h. h) (λ o. refl)
  marked (suc (suc n)) b m = alike (λ h. h) (λ o. refl)

through_law : (places : Bool) (w v : Val) (m : Memory) → Law m [] (assigned_through places w v m)
through_law places (object o) v m = written_default_law (object o) v m
through_law places w v m = both places (fine tt (same m)) (bad 438 (same m))

set_through : (d : Declarations) (r : HostRef) (how : HostMember) (vs : List Val) (begun v : Val) (m : Memory)
    → Law m (member_by_gains r how vs begun m) (on_fine (member_by d r how vs begun m) (λ w m1. assigned_through (are_places r how (length vs)) w v m1))
set_through d r how vs begun v m = then_still (member_by_law d r how vs begun m) (λ w m1. through_law (are_places r how (length vs)) w v m1)

-- a call indexes nothing
no_places : (r : HostRef) (n k : ℕ) → are_places r (Call n) k ≡ false
no_places r n zero = refl
no_places r n (suc k) = refl

member_set_law : (d : Declarations) (r : HostRef) (how : HostMember) (vs : List Val) (begun v : Val) (m : Memory) → Law m (member_by_gains r how vs begun m) (member_set d r how vs begun v m)
member_set_law d r (Call n) vs begun v m = rw (no_places r n (length vs)) (bad 438 (same m))
member_set_law d host.Application (Write n) [] begun v m = mark_law n v m
member_set_law d (host.Area s t l r c) (Write n) [] begun v m = area_written_law (area_in s t l r c) v m
member_set_law d r how vs begun v m = set_through d r how vs begun v m

through_item_law : (o : ℕ) (how : CollectionMember) (vs : List Val) (v : Val) (m : Memory) → Law m (through_gains o how vs m) (through_item o how vs v m)
through_item_law o is_item vs v m = then_still (held_law (item_found_holds o vs m)) (λ w m1. written_default_law w v m1)
through_item_law o member vs v m = bad 438 (same m)

pub member_assigned_law : (d : Declarations) (name : List ℕ) (vs : List Val) (base begun v : Val) (m : Memory) → Law m (member_assigned_gains name vs base begun m) (member_assigned d name vs base begun v m)
member_assigned_law d name vs (object (Heap id)) begun v m = after_still (collection_member_law id.0 name m) (λ how m1. through_item_law id.0 how (as_given vs) v m1)
member_assigned_law d name vs (object (Host r)) begun v m = after_still (answered_law (member_of r name) m) (λ how m1. member_set_law d r how (as_given vs) begun v m1)
member_assigned_law d name vs base begun v m = bad 424 (same m)

pub member_not_set_law : (base : Val) (m : Memory) → Law m [] (member_not_set base m)
member_not_set_law (object Nothing) m = bad 91 (same m)
member_not_set_law (object o) m = bad 438 (same m)
member_not_set_law base m = bad 424 (same m)
