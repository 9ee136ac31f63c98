-- Effects on host objects, and stores at places that numbers lead to.
use Rattle.std.proofs.Common.{◌≡◌, ℕ, zero, suc, Bool, true, false, List, [], ◌∷◌, length, Option, Some, None, Result, ℤ, pos, negsuc, refl}
use Rattle.std.specs.Prelude.{◌==◌, nat_lt, ◌&&◌, ◌*◌, ◌-ℤ◌, if◌then◌else◌, slice_index_or}
use Rattle.std.specs.List.{list_any}
use Rattle.vba_base.specs.Fold.{folded}
use Rattle.vba_values.specs.declared.fault.Bad.{Bad}
use Rattle.vba_values.specs.declared.fault.OutKind.TheVariants as limit
use Rattle.vba_values.specs.declared.object.HostRef.{HostRef}
use Rattle.vba_values.specs.declared.object.HostRef.TheVariants as host
use Rattle.vba_values.specs.declared.object.ObjRef.{ObjRef}
use Rattle.vba_values.specs.declared.object.ObjRef.TheVariants.{Nothing, Heap, Host}
use Rattle.vba_values.specs.declared.types.WholeKind.TheVariants as kind
use Rattle.vba_values.specs.Types.{Declared}
use Rattle.vba_values.specs.Types as type
use Rattle.vba_values.specs.Val.{Val, empty, missing, boolean, text, object, array}
use Rattle.vba_values.specs.Coerce.{coerce_of}
use Rattle.vba_values.specs.Whole.{ranged}
use Rattle.sheet_host.specs.declared.area.Area.{Area}
use Rattle.sheet_host.specs.declared.cell.CellValue.{CellValue}
use Rattle.sheet_host.specs.declared.cell.CellValue.TheVariants as cell
use Rattle.sheet_host.specs.declared.members.HostMember.{HostMember}
use Rattle.sheet_host.specs.declared.members.HostMember.TheVariants.{Write, Call}
use Rattle.sheet_host.specs.Address.{address_of}
use Rattle.sheet_host.specs.AddressText.{area_of_text}
use Rattle.sheet_host.specs.Area.{offset_of, resized}
use Rattle.sheet_host.specs.Books.{sheet_at, content_at, sheet_named, written_count, cell_limit, with_area}
use Rattle.sheet_host.specs.Field.{is_empty}
use Rattle.sheet_host.specs.Members.{member_of, number_of}
use Rattle.sheet_host.specs.Reading.{area_value}
use Rattle.sheet_host.specs.Sheets.{Position, value_at as cell_at, used_area, nth_cell}
use Rattle.sheet_host.specs.Writing.{cells_of}
use Rattle.bound_project.specs.Expressions.{ByName, err_number, err_source, err_description}
use Rattle.bound_project.specs.Project.{Declarations}
use Rattle.vba_meaning.specs.Paths.{Root, in_frame, in_project, in_fields, in_block, in_object, in_item, Step, Path}
use Rattle.vba_meaning.specs.Memory.{Memory, outside, value_at}
use Rattle.vba_meaning.specs.Effects.{Effect, Fine, Bad-at, on_fine, done, plain, err_of, is_true, range_value, area_in, assigned, is_collection}
use Rattle.vba_meaning.specs.Events.{is_heard, noted}
use Rattle.vba_meaning.specs.Arrays.{indexed}
use Rattle.vba_meaning.specs.Collections.{CollectionMember, is_item, takes_in_collection, names_in_collection}
use Rattle.vba_meaning.specs.Host.{sheet_value, long_value, area_found, whole_sheet, long_of, text_of, area_by, cell_found, cells_found, spanned, area_of, range_between, range_found, sheet_numbered, sheet_by, sheet_found, first_sheet, cell_events, cells_put, value_put, area_written, one_cleared, cleared, member_value, two, takes, fits_in, are_places, can_index, plains, item_by, member_begun, member_there, as_given, member_by, member_called, object_member, number_given, text_given, error_given, written_default, place_at, item_written, assigned_at, item_assigned, with_mark, mark_set, assigned_through, member_set, through_item, member_assigned, member_not_set}
use Rattle.vba_meaning.specs.ByName.{parameter_names, parameters_given, first_given, named_begun, named_there}
use Rattle.memory_changes.specs.Changes.{Row, none}
use Rattle.memory_changes.proofs.Rows.{Still, still, still_bad, still_then, still_next, still_if, still_answered, away, Rows, fine, fine_in, bad, out, telling, then_rows, of_still, then_same, both}
use Rattle.memory_changes.proofs.Stores.{beside}
use Rattle.memory_changes.proofs.Values.{plain_still, err_off_rows, assigned_rows}
use Rattle.memory_changes.proofs.Arrays.{indexed_object_still, element_at_still, indexed_rows}
use Rattle.memory_changes.proofs.Items.{collection_member_still, item_found_rows, used_rows}

-- ---- sheets and areas that are found

area_found_still : (r : Result Area Bad) (m : Memory) → Still m (area_found r m)
area_found_still r m = still_then _ (still_answered r m) (λ a. still)

long_still : (v : Val) (m : Memory) → Still m (long_of v m)
long_still v m = still_then _ (plain_still v m) (λ w. still_then _ (still_answered (coerce_of w type.long) m) (λ x. still))

text_still : (v : Val) (m : Memory) → Still m (text_of v m)
text_still v m = still_then _ (plain_still v m) (λ w. still_then _ (still_answered (coerce_of w type.text) m) (λ x. still))

area_by_still : (f : ℤ → ℤ → Result Area Bad) (vs : List Val) (m : Memory) → Still m (area_by f vs m)
area_by_still f [] m = still_bad 449 m
area_by_still f (v ∷ []) m = still_bad 449 m
area_by_still f (r ∷ c ∷ []) m = still_then _ (long_still r m) (λ y. still_then _ (long_still c m) (λ x. area_found_still (f y x) m))
area_by_still f (r ∷ c ∷ v ∷ vs) m = still_bad 450 m

cell_found_still : (a : Area) (vs : List Val) (m : Memory) → Still m (cell_found a vs m)
cell_found_still a vs m = area_by_still (λ y x. offset_of (record a { rows = 1; columns = 1 }) (y -ℤ pos 1) (x -ℤ pos 1)) vs m

cells_found_still : (a : Area) (vs : List Val) (m : Memory) → Still m (cells_found a vs m)
cells_found_still a [] m = still
cells_found_still a (v ∷ vs) m = cell_found_still a (v ∷ vs) m

area_of_still : (v : Val) (m : Memory) → Still m (area_of v m)
area_of_still (object (Host (host.Area s t l r c))) m = still
area_of_still (object Nothing) m = still_bad 91 m
area_of_still v m = still_bad 13 m

range_between_still : (s : ℕ) (v w : Val) (m : Memory) → Still m (range_between s v w m)
range_between_still s v w m =
    still_then _ (area_of_still v m) (λ a. still_then _ (area_of_still w m) (λ b. still_if (a.sheet.0 == s && b.sheet.0 == s) (still {v = range_value (spanned a b)}) (still_bad 1004 m)))

one_text_still : (s : ℕ) (v : Val) (m : Memory) → Still m (on_fine (text_of v m) (λ address m1. area_found (area_of_text (record { 0 = s }) address) m1))
one_text_still s v m = still_then _ (text_still v m) (λ address. area_found_still (area_of_text (record { 0 = s }) address) m)

range_found_still : (s : ℕ) (vs : List Val) (m : Memory) → Still m (range_found s vs m)
range_found_still s [] m = still_bad 449 m
range_found_still s (missing ∷ vs) m = still_bad 449 m
range_found_still s (v ∷ []) m = one_text_still s v m
range_found_still s (v ∷ w ∷ []) m = range_between_still s v w m
range_found_still s vs m = still_bad 450 m

sheet_numbered_still : (z : ℤ) (m : Memory) → Still m (sheet_numbered z m)
sheet_numbered_still (pos zero) m = still_bad 9 m
sheet_numbered_still (pos (suc i)) m = still_if (nat_lt i (length m.book)) (still {v = sheet_value (suc i)}) (still_bad 9 m)
sheet_numbered_still (negsuc n) m = still_bad 9 m

sheet_of_number : (v : Val) (m : Memory) → Still m (on_fine (long_of v m) (λ z m1. sheet_numbered z m1))
sheet_of_number v m = still_then _ (long_still v m) (λ z. sheet_numbered_still z m)

sheet_by_still : (v : Val) (m : Memory) → Still m (sheet_by v m)
sheet_by_still (text units) m = still_then _ (still_answered (sheet_named m.book (folded units)) m) (λ s. still)
sheet_by_still v m = sheet_of_number v m

sheet_found_still : (vs : List Val) (m : Memory) → Still m (sheet_found vs m)
sheet_found_still [] m = still_bad 449 m
sheet_found_still (v ∷ []) m = still_then _ (plain_still v m) (λ w. sheet_by_still w m)
sheet_found_still (v ∷ w ∷ vs) m = still_bad 450 m

pub first_sheet_still : (m : Memory) → Still m (first_sheet m)
first_sheet_still m = still_if (length m.book == 0) (still_bad 91 m) (still {v = sheet_value 1})

fits_in_still : (ns : List ℕ) (k : ℕ) (m : Memory) → Still m (fits_in ns k m)
fits_in_still [] k m = still_bad 450 m
fits_in_still (n ∷ ns) k m = still_if (n == k) still (still_if (nat_lt k n) (still_bad 449 m) (fits_in_still ns k m))

can_index_still : (v : Val) (k : ℕ) (m : Memory) → Still m (can_index v k m)
can_index_still (array bounds of items) k m = still
can_index_still (object (Host host.Sheets)) k m = still_then _ (fits_in_still (1 ∷ []) k m) (λ u. still)
can_index_still (object (Host (host.Area s t l r c))) k m = still_then _ (fits_in_still two k m) (λ u. still)
can_index_still (object o) k m = still_bad 438 m
can_index_still v k m = still_bad 450 m

pub plains_still : (vs : List Val) (m : Memory) → Still m (plains vs m)
plains_still [] m = still
plains_still (v ∷ vs) m = still_then _ (plain_still v m) (λ w. still_then _ (plains_still vs m) (λ ws. still))

first_given_still : (before : ℕ) (ps : List ℕ) (m : Memory) → Still m (first_given before ps m)
first_given_still zero ps m = still_if (list_any (λ p. p == 0) ps) (still {v = empty}) (still_bad 449 m)
first_given_still (suc before) ps m = still

begun_by : (xs : List (List ℕ)) (ns : List ℕ) (by : ByName) (k : ℕ) (m : Memory) (x : Option (List ℕ)) → parameters_given xs by.before by.names ≡ x → Still m (named_begun xs ns by k m)
begun_by xs ns by k m None e = rw e (still_bad 450 m)
begun_by xs ns by k m (Some ps) e = rw e (still_then _ (fits_in_still ns k m) (λ u. first_given_still by.before ps m))

named_begun_still : (xs : List (List ℕ)) (ns : List ℕ) (by : ByName) (k : ℕ) (m : Memory) → Still m (named_begun xs ns by k m)
named_begun_still xs ns by k m = begun_by xs ns by k m (parameters_given xs by.before by.names) refl

pub named_there_still : (name : List ℕ) (by : ByName) (k : ℕ) (v : Val) (m : Memory) → Still m (named_there name by k v m)
named_there_still name by k (object Nothing) m = still_bad 91 m
named_there_still name by k (object (Heap id)) m = still_then _ (collection_member_still id.0 name m) (λ how. named_begun_still (names_in_collection how) (takes_in_collection how) by k m)
named_there_still name by k (object (Host r)) m = still_then _ (still_answered (member_of r name) m) (λ how. named_begun_still (parameter_names r (number_of how)) (takes r (number_of how)) by k m)
named_there_still name by k v m = still_bad 424 m

number_given_still : (v : Val) (m : Memory) → Still m (number_given v m)
number_given_still missing m = still_bad 449 m
number_given_still v m = still_next (plain_still v m) (λ w m1. still_answered (coerce_of w type.long) m1)

text_given_still : (v : Val) (m : Memory) → Still m (text_given v m)
text_given_still missing m = still
text_given_still v m = still_next (plain_still v m) (λ w m1. still_answered (coerce_of w type.text) m1)

pub error_given_still : (vs : List Val) (m : Memory) → Still m (error_given vs m)
error_given_still vs m =
    still_then _ (number_given_still (slice_index_or vs 0 missing) m) (λ number.
    still_then _ (text_given_still (slice_index_or vs 1 missing) m) (λ source.
    still_then _ (text_given_still (slice_index_or vs 2 missing) m) (λ description. still)))

pub member_not_set_still : (base : Val) (m : Memory) → Still m (member_not_set base m)
member_not_set_still (object Nothing) m = still_bad 91 m
member_not_set_still (object o) m = still_bad 438 m
member_not_set_still base m = still_bad 424 m

module _ (d : Declarations) where
  -- ---- cells that are written

  cells_put_rows : (a : Area) (cs : List CellValue) (m : Memory) → Rows d m (cells_put a cs m)
  cells_put_rows a cs m = both d (nat_lt cell_limit (written_count (with_area m.book a cs))) (out d (outside limit.Cells) m) (telling d (cell_events a 0 cs) (fine_in d (away d (beside refl refl refl))))

  noted_row : (a : Area) (m : Memory) → Row d m (noted a m)
  noted_row a m = by_test (is_heard a m) where
    by_test : (b : Bool) → Row d m (if b then record m { changed = Some a } else m)
    by_test true = away d (beside refl refl refl)
    by_test false = none m

  value_put_rows : (a : Area) (w : Val) (m : Memory) → Rows d m (value_put a w m)
  value_put_rows a w m = then_same d _ (still_answered (cells_of w a.rows a.columns) m) (λ cs. cells_put_rows a cs m)

  area_written_rows : (a : Area) (v : Val) (m : Memory) → Rows d m (area_written a v m)
  area_written_rows a v m =
      both d (nat_lt cell_limit (a.rows * a.columns)) (out d (outside limit.Cells) m)
      (then_same d _ (plain_still v m) (λ w. then_rows d (value_put_rows a w m) (λ u m2. fine_in d (noted_row a m2))))

  one_cleared_rows : (a : Area) (p : Position) (m : Memory) → Rows d m (one_cleared a p m)
  one_cleared_rows a p m = both d (is_empty (cell_at (content_at m.book a.sheet) p)) (fine d) (cells_put_rows (area_in a.sheet.0 p.0 p.1 1 1) (cell.Empty ∷ []) m)

  cleared_rows : (a : Area) (n : ℕ) (m : Memory) → Rows d m (cleared a n m)
  cleared_rows a zero m = fine d
  cleared_rows a (suc n) m = then_rows d (cleared_rows a n m) (λ u m1. one_cleared_rows a (nth_cell a n) m1)

  pub written_default_rows : (target v : Val) (m : Memory) → Rows d m (written_default target v m)
  written_default_rows (object Nothing) v m = bad d 91 m
  written_default_rows (object (Host (host.Area s t l r c))) v m = area_written_rows (area_in s t l r c) v m
  written_default_rows (object (Host host.Sheets)) v m = bad d 449 m
  written_default_rows (object (Heap id)) v m = both d (is_collection (Heap id) m) (bad d 449 m) (bad d 438 m)
  written_default_rows (object o) v m = bad d 438 m
  written_default_rows w v m = bad d 424 m

  -- ---- members

  -- a member by its number
  abbrev AllRows : Memory → List (Effect Val) → Type 0
  AllRows m [] = Unit {0}
  AllRows m (e ∷ es) = Rows d m e × AllRows m es

  record Members (m : Memory) (xs : List (Effect Val)) : Type 0 where
    laws : AllRows m xs

  no_more : {m : Memory} → Members m []
  no_more = record { laws = tt }

  and_then : {m : Memory} {e : Effect Val} {xs : List (Effect Val)} → Rows d m e → Members m xs → Members m (e ∷ xs)
  and_then a more = record { laws = (a, more.laws) }

  given : {m : Memory} (v : Val) {xs : List (Effect Val)} → Members m xs → Members m (Fine v m ∷ xs)
  given v more = record { laws = (fine d, more.laws) }

  nth_rows : (m : Memory) (n : ℕ) (xs : List (Effect Val)) → AllRows m xs → Rows d m (slice_index_or xs n (Bad-at 438 m))
  nth_rows m zero [] h = bad d 438 m
  nth_rows m (suc n) [] h = bad d 438 m
  nth_rows m zero (e ∷ es) h = h.0
  nth_rows m (suc n) (e ∷ es) h = nth_rows m n es h.1

  by_number : {m : Memory} {xs : List (Effect Val)} (n : ℕ) → Members m xs → Rows d m (slice_index_or xs n (Bad-at 438 m))
  by_number {m = m} {xs = xs} n all = nth_rows m n xs all.laws

  empty_behind : {A : Type 0} {m : Memory} {e : Effect A} → Rows d m e → Rows d m (on_fine e (λ u m1. Fine empty m1))
  empty_behind a = then_rows d a (λ u m1. fine d)

  member_value_rows : (r : HostRef) (n : ℕ) (vs : List Val) (m : Memory) → Rows d m (member_value d r n vs m)
  member_value_rows host.Application n vs m = by_number n (given (boolean m.events_on) (given (boolean m.updates_screen) (given (boolean m.shows_alerts) no_more)))
  member_value_rows host.Workbook n vs m = fine d
  member_value_rows host.Sheets n vs m = by_number n (given (long_value (length m.book)) (and_then (of_still d (sheet_found_still vs m)) no_more))
  member_value_rows host.ErrObject n vs m =
      by_number n (given (err_of d err_number m.err) (given (err_of d err_source m.err) (given (err_of d err_description m.err) (and_then (empty_behind (err_off_rows d m)) no_more))))
  member_value_rows (host.Sheet s) n vs m =
      by_number n (given (text (sheet_at m.book (record { 0 = s })).name) (given (long_value s) (and_then (of_still d (cells_found_still (whole_sheet s) vs m))
      (and_then (of_still d (range_found_still s vs m)) (given (range_value (used_area (record { 0 = s }) (content_at m.book (record { 0 = s })))) no_more)))))
  member_value_rows (host.Area s t l r c) n vs m =
      let a : Area = area_in s t l r c in
      by_number n (and_then (of_still d (still_answered (area_value m.book a) m)) (given (text (address_of a)) (given (long_value t) (given (long_value l)
      (and_then (of_still d (still_answered (ranged kind.Long (pos (r * c))) m)) (given (object (Host (host.RowsOf r))) (given (object (Host (host.ColumnsOf c)))
      (and_then (of_still d (cells_found_still a vs m)) (and_then (of_still d (cell_found_still a vs m)) (and_then (of_still d (area_by_still (offset_of a) vs m))
      (and_then (of_still d (area_by_still (resized a) vs m)) (and_then (then_rows d (cleared_rows a (r * c) m) (λ u m1. fine_in d (noted_row a m1)))
      (given (sheet_value s) (given (sheet_value s) no_more))))))))))))))
  member_value_rows (host.RowsOf count) n vs m = fine d
  member_value_rows (host.ColumnsOf count) n vs m = fine d

  unindexed : (o : ObjRef) (vs : List Val) (m : Memory) → Rows d m (on_fine (plains vs m) (λ ws m1. indexed (object o) ws m1))
  unindexed o vs m = then_same d _ (plains_still vs m) (λ ws. of_still d (indexed_object_still o m))

  item_of_object : (o : ObjRef) (vs : List Val) (m : Memory) → Rows d m (item_by (object o) vs m)
  item_of_object (Host host.Sheets) vs m = of_still d (sheet_found_still vs m)
  item_of_object (Host (host.Area s t l rows c)) vs m = of_still d (cell_found_still (area_in s t l rows c) vs m)
  item_of_object (Heap id) vs m = both d (is_collection (Heap id) m) (item_found_rows d id.0 vs m) (unindexed (Heap id) vs m)
  item_of_object o vs m = unindexed o vs m

  item_of_value : (v : Val) (vs : List Val) (m : Memory) → Rows d m (on_fine (plains vs m) (λ ws m1. indexed v ws m1))
  item_of_value v vs m = then_same d _ (plains_still vs m) (λ ws. indexed_rows d v ws m)

  pub item_rows : (v : Val) (vs : List Val) (m : Memory) → Rows d m (item_by v vs m)
  item_rows (object o) vs m = item_of_object o vs m
  item_rows v vs m = item_of_value v vs m

  member_begun_rows : (r : HostRef) (how : HostMember) (k : ℕ) (m : Memory) → Rows d m (member_begun d r how k m)
  member_begun_rows r how k m =
      both d (are_places r how k) (then_rows d (member_value_rows r (number_of how) [] m) (λ v m1. of_still d (can_index_still v k m1))) (empty_behind (of_still d (fits_in_still (takes r (number_of how)) k m)))

  pub member_there_rows : (name : List ℕ) (k : ℕ) (v : Val) (m : Memory) → Rows d m (member_there d name k v m)
  member_there_rows name k (object Nothing) m = bad d 91 m
  member_there_rows name k (object (Heap id)) m = then_same d _ (collection_member_still id.0 name m) (λ how. empty_behind (of_still d (fits_in_still (takes_in_collection how) k m)))
  member_there_rows name k (object (Host r)) m = then_same d _ (still_answered (member_of r name) m) (λ how. member_begun_rows r how k m)
  member_there_rows name k v m = bad d 424 m

  member_by_rows : (x : HostRef) (how : HostMember) (vs : List Val) (begun : Val) (m : Memory) → Rows d m (member_by d x how vs begun m)
  member_by_rows x how vs begun m = both d (are_places x how (length vs)) (item_rows begun vs m) (member_value_rows x (number_of how) vs m)

  pub member_called_rows : (name : List ℕ) (vs : List Val) (base begun : Val) (m : Memory) → Rows d m (member_called d name vs base begun m)
  member_called_rows name vs (object (Host x)) begun m = then_same d _ (still_answered (member_of x name) m) (λ how. member_by_rows x how (as_given vs) begun m)
  member_called_rows name vs v begun m = bad d 424 m

  -- of a counted object
  pub object_member_rows : (name : List ℕ) (vs : List Val) (base : Val) (m : Memory) → Rows d m (object_member name vs base m)
  object_member_rows name vs (object (Heap id)) m = used_rows d id.0 name (as_given vs) m
  object_member_rows name vs v m = bad d 424 m

  -- ---- places that numbers lead to

  place_by : (p : Path) (vs : List Val) (m : Memory) (x : Option Val) → value_at m p ≡ x → Rows d m (place_at p vs m)
  place_by p vs m (Some (object o)) e = rw e (then_rows d (item_of_object o vs m) (λ w m1. fine d))
  place_by p vs m x e = rw e (of_still d (element_at_still p vs m))

  pub place_at_rows : (p : Path) (vs : List Val) (m : Memory) → Rows d m (place_at p vs m)
  place_at_rows p vs m = place_by p vs m (value_at m p) refl

  assigned_here : (root : Root) (steps : List Step) (of : Declared) (bounded : Bool) (makes : Option ℕ) (v : Val) (m : Memory)
      → let p : Path = record { root = root; steps = steps; of = of; bounded = bounded; makes = makes } in Rows d m (on_fine (plain v m) (λ w m1. assigned p w m1))
  assigned_here root steps of bounded makes v m = then_same d _ (plain_still v m) (λ w. assigned_rows d _ w m)

  item_written_rows : (w : Val) (steps : List Step) (v : Val) (m : Memory) → Rows d m (item_written w steps v m)
  item_written_rows w [] v m = written_default_rows w v m
  item_written_rows w (t ∷ steps) v m = then_same d _ (plain_still v m) (λ x. fine d)

  assigned_from : (root : Root) (steps : List Step) (of : Declared) (bounded : Bool) (makes : Option ℕ) (v : Val) (m : Memory)
      → let p : Path = record { root = root; steps = steps; of = of; bounded = bounded; makes = makes } in Rows d m (assigned_at p v m)
  assigned_from (in_object o) steps of bounded makes v m = written_default_rows (object o) v m
  assigned_from (in_item w) steps of bounded makes v m = item_written_rows w steps v m
  assigned_from (in_frame k x) steps of bounded makes v m = assigned_here (in_frame k x) steps of bounded makes v m
  assigned_from (in_project x) steps of bounded makes v m = assigned_here (in_project x) steps of bounded makes v m
  assigned_from (in_fields n f) steps of bounded makes v m = assigned_here (in_fields n f) steps of bounded makes v m
  assigned_from (in_block k j) steps of bounded makes v m = assigned_here (in_block k j) steps of bounded makes v m

  pub assigned_at_rows : (p : Path) (v : Val) (m : Memory) → Rows d m (assigned_at p v m)
  assigned_at_rows p v m = assigned_from p.root p.steps p.of p.bounded p.makes v m

  item_given : (base : Val) (vs : List Val) (v : Val) (m : Memory) → Rows d m (on_fine (item_by base vs m) (λ w m1. on_fine (plain v m1) (λ x m2. done m2)))
  item_given base vs v m = then_rows d (item_rows base vs m) (λ w m1. then_same d _ (plain_still v m1) (λ x. fine d))

  pub item_assigned_rows : (base : Val) (vs : List Val) (v : Val) (m : Memory) → Rows d m (item_assigned base vs v m)
  item_assigned_rows (object o) vs v m = then_rows d (item_of_object o vs m) (λ w m1. written_default_rows w v m1)
  item_assigned_rows base vs v m = item_given base vs v m

  -- ---- members that are assigned to

  marked : (n : ℕ) (b : Bool) (m : Memory) → Row d m (with_mark n b m)
  marked zero b m = away d (beside refl refl refl)
  marked (suc zero) b m = away d (beside refl refl refl)
  marked (suc (suc n)) b m = away d (beside refl refl refl)

  mark_rows : (n : ℕ) (v : Val) (m : Memory) → Rows d m (mark_set n v m)
  mark_rows n v m = then_same d _ (plain_still v m) (λ w. then_same d _ (still_answered (coerce_of w type.boolean) m) (λ b. fine_in d (marked n (is_true b) m)))

  through_rows : (places : Bool) (w v : Val) (m : Memory) → Rows d m (assigned_through places w v m)
  through_rows places (object o) v m = written_default_rows (object o) v m
  through_rows places w v m = both d places (fine d) (bad d 438 m)

  set_through : (x : HostRef) (how : HostMember) (vs : List Val) (begun v : Val) (m : Memory) → Rows d m (on_fine (member_by d x how vs begun m) (λ w m1. assigned_through (are_places x how (length vs)) w v m1))
  set_through x how vs begun v m = then_rows d (member_by_rows x how vs begun m) (λ w m1. through_rows (are_places x how (length vs)) w v m1)

  member_set_rows : (x : HostRef) (how : HostMember) (vs : List Val) (begun v : Val) (m : Memory) → Rows d m (member_set d x how vs begun v m)
  member_set_rows x (Call n) vs begun v m = bad d 438 m
  member_set_rows host.Application (Write n) [] begun v m = mark_rows n v m
  member_set_rows (host.Area s t l rows c) (Write n) [] begun v m = area_written_rows (area_in s t l rows c) v m
  member_set_rows x how vs begun v m = set_through x how vs begun v m

  through_item_rows : (o : ℕ) (how : CollectionMember) (vs : List Val) (v : Val) (m : Memory) → Rows d m (through_item o how vs v m)
  through_item_rows o is_item vs v m = then_rows d (item_found_rows d o vs m) (λ w m1. written_default_rows w v m1)
  through_item_rows o member vs v m = bad d 438 m

  pub member_assigned_rows : (name : List ℕ) (vs : List Val) (base begun v : Val) (m : Memory) → Rows d m (member_assigned d name vs base begun v m)
  member_assigned_rows name vs (object (Heap id)) begun v m = then_same d _ (collection_member_still id.0 name m) (λ how. through_item_rows id.0 how (as_given vs) v m)
  member_assigned_rows name vs (object (Host x)) begun v m = then_same d _ (still_answered (member_of x name) m) (λ how. member_set_rows x how (as_given vs) begun v m)
  member_assigned_rows name vs base begun v m = bad d 424 m
