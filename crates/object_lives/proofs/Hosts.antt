-- Effects on host objects, and stores at places that numbers lead to.
use Rattle.std.proofs.Common.{◌≡◌, ℕ, zero, suc, ◌*◌, Bool, true, false, List, [], ◌∷◌, length, Option, Some, None, Result, ℤ, pos, negsuc, ◌-ℤ◌, refl}
use Rattle.std.specs.Prelude.{nat_lt, ◌==◌, ◌&&◌, slice_index_or, if◌then◌else◌}
use Rattle.std.specs.List.{list_any}
use Rattle.vba_base.specs.Fold.{folded}
use Rattle.vba_values.specs.declared.fault.Bad.{Bad}
use Rattle.vba_values.specs.declared.fault.OutKind.TheVariants as limit
use Rattle.vba_values.specs.declared.object.ObjRef.{ObjRef}
use Rattle.vba_values.specs.declared.object.ObjRef.TheVariants.{Nothing, Heap, Host}
use Rattle.vba_values.specs.declared.object.HostRef.{HostRef}
use Rattle.vba_values.specs.declared.object.HostRef.TheVariants as host
use Rattle.vba_values.specs.declared.types.WholeKind.TheVariants as kind
use Rattle.vba_values.specs.Types.{Declared}
use Rattle.vba_values.specs.Types as type
use Rattle.vba_values.specs.Val.{Val, empty, missing, boolean, text, object, array}
use Rattle.vba_values.specs.Coerce.{coerce_of}
use Rattle.vba_values.specs.Whole.{ranged}
use Rattle.sheet_host.specs.declared.area.Area.{Area}
use Rattle.sheet_host.specs.declared.cell.CellValue.{CellValue}
use Rattle.sheet_host.specs.declared.cell.CellValue.TheVariants as cell
use Rattle.sheet_host.specs.declared.members.HostMember.{HostMember}
use Rattle.sheet_host.specs.declared.members.HostMember.TheVariants.{Write, Call}
use Rattle.sheet_host.specs.Address.{address_of}
use Rattle.sheet_host.specs.AddressText.{area_of_text}
use Rattle.sheet_host.specs.Area.{offset_of, resized}
use Rattle.sheet_host.specs.Books.{sheet_at, content_at, sheet_named, written_count, cell_limit, with_area}
use Rattle.sheet_host.specs.Field.{is_empty}
use Rattle.sheet_host.specs.Members.{member_of, number_of}
use Rattle.sheet_host.specs.Reading.{area_value}
use Rattle.sheet_host.specs.Sheets.{Position, value_at as cell_at, used_area, nth_cell}
use Rattle.sheet_host.specs.Writing.{cells_of}
use Rattle.bound_project.specs.Expressions.{ByName, err_number, err_source, err_description}
use Rattle.bound_project.specs.Project.{Declarations}
use Rattle.vba_meaning.specs.Paths.{Root, in_frame, in_project, in_fields, in_block, in_object, in_item, Step, Path}
use Rattle.vba_meaning.specs.Memory.{Memory, top, outside, value_at}
use Rattle.vba_meaning.specs.References.{objects_in}
use Rattle.vba_meaning.specs.Effects.{Effect, Fine, Bad-at, on_fine, done, plain, err_of, is_true, range_value, area_in, assigned, is_collection}
use Rattle.vba_meaning.specs.Events.{is_heard, noted}
use Rattle.vba_meaning.specs.Arrays.{indexed}
use Rattle.vba_meaning.specs.Host.{sheet_value, long_value, area_found, whole_sheet, long_of, text_of, area_by, cell_found, cells_found, spanned, area_of, range_between, range_found, sheet_numbered, sheet_by, sheet_found, first_sheet, cell_events, cells_put, area_written, one_cleared, cleared, member_value, two, takes, fits_in, are_places, can_index, plains, item_by, member_begun, member_there, as_given, member_by, member_called, number_given, text_given, error_given, written_default, object_member, path_to, place_at, item_written, assigned_at, item_assigned, with_mark, mark_set, assigned_through, member_set, through_item, member_assigned, member_not_set}
use Rattle.vba_meaning.specs.Collections.{CollectionMember, is_item, takes_in_collection, names_in_collection}
use Rattle.vba_meaning.specs.ByName.{parameter_names, parameters_given, first_given, named_begun, named_there}
use Rattle.object_counts.proofs.Chains.{AllOf, one_of}
use Rattle.object_counts.proofs.Variables.{alike}
use Rattle.object_lives.proofs.Values.{none_in, own_time, Refers, free_refers, area_value_in, ranged_in}
use Rattle.object_lives.proofs.Held.{World, Reach, RootIn, StaysIn, Values}
use Rattle.object_lives.proofs.Marks.{Silent}
use Rattle.object_lives.proofs.Near.{Ready, Later, later_same, reach, block_reach, held_there}
use Rattle.object_lives.proofs.Chains.{Any, Given, GivenAll, GivenPath, LeadsOn, still, still_all, still_path, Safe, fine, fine_in, done_in, bad, out, telling, then_next, then_safe, both, answered_safe, answered_any}
use Rattle.object_lives.proofs.Variables.{outside_later, plain_safe, plain_any, err_off_safe, assigned_safe}
use Rattle.object_lives.proofs.Arrays.{indexed_safe, indexed_object_safe, element_in_safe}
use Rattle.object_lives.proofs.Items.{GivenFirst, collection_member_safe, item_found_safe, collection_used_safe}

-- arguments that are left out at the end
as_given_by : (hs : List ℕ) (vs ws : List Val) → as_given vs ≡ ws → Values hs ws → Values hs (as_given (missing ∷ vs))
as_given_by hs vs [] e h = rw e tt
as_given_by hs vs (w ∷ ws) e h = rw e (none_in hs, h)

pub as_given_in : (hs : List ℕ) (vs : List Val) → Values hs vs → Values hs (as_given vs)
as_given_in hs [] h = tt
as_given_in hs (missing ∷ vs) h = as_given_by hs vs (as_given vs) refl (as_given_in hs vs h.1)
as_given_in hs (v ∷ vs) h = (h.0, as_given_in hs vs h.1)

-- the path of what an index gave
pub path_to_in : (hs : Reach) (w : Val) → Refers hs.held w → RootIn hs (path_to w).root
path_to_in hs (object Nothing) h = refl
path_to_in hs (object (Heap id)) h = h
path_to_in hs (object (Host x)) h = refl
path_to_in hs v h = h

pub path_to_stays : (hs : Reach) (w : Val) → StaysIn hs (path_to w).root
path_to_stays hs (object Nothing) = tt
path_to_stays hs (object (Heap id)) = tt
path_to_stays hs (object (Host x)) = tt
path_to_stays hs v = tt

module _ (Sure : World) where
  -- a value that refers to nothing
  free : (v : Val) (m : Memory) → objects_in v ≡ [] → Safe Sure Given m (Fine v m)
  free v m e = fine (λ s. free_refers v e)

  -- ---- sheets and areas that are found

  area_found_safe : (r : Result Area Bad) (m : Memory) → Safe Sure Given m (area_found r m)
  area_found_safe r m = then_next (answered_any r m) (λ a m1 n q. free _ m1 refl)

  long_safe : (v : Val) (m : Memory) → Safe Sure Any m (long_of v m)
  long_safe v m = then_next (plain_any Sure v m) (λ w m1 n q. then_next (answered_any (coerce_of w type.long) m1) (λ x m2 n2 q2. fine (λ s. tt)))

  text_safe : (v : Val) (m : Memory) → Safe Sure Any m (text_of v m)
  text_safe v m = then_next (plain_any Sure v m) (λ w m1 n q. then_next (answered_any (coerce_of w type.text) m1) (λ x m2 n2 q2. fine (λ s. tt)))

  area_by_safe : (f : ℤ → ℤ → Result Area Bad) (vs : List Val) (m : Memory) → Safe Sure Given m (area_by f vs m)
  area_by_safe f [] m = bad 449 m
  area_by_safe f (v ∷ []) m = bad 449 m
  area_by_safe f (r ∷ c ∷ []) m = then_next (long_safe r m) (λ y m1 n q. then_next (long_safe c m1) (λ x m2 n2 q2. area_found_safe (f y x) m2))
  area_by_safe f (r ∷ c ∷ v ∷ vs) m = bad 450 m

  cell_found_safe : (a : Area) (vs : List Val) (m : Memory) → Safe Sure Given m (cell_found a vs m)
  cell_found_safe a vs m = area_by_safe (λ y x. offset_of (record a { rows = 1; columns = 1 }) (y -ℤ pos 1) (x -ℤ pos 1)) vs m

  cells_found_safe : (a : Area) (vs : List Val) (m : Memory) → Safe Sure Given m (cells_found a vs m)
  cells_found_safe a [] m = free _ m refl
  cells_found_safe a (v ∷ vs) m = cell_found_safe a (v ∷ vs) m

  area_of_safe : (v : Val) (m : Memory) → Safe Sure Any m (area_of v m)
  area_of_safe (object (Host (host.Area s t l r c))) m = fine (λ x. tt)
  area_of_safe (object Nothing) m = bad 91 m
  area_of_safe v m = bad 13 m

  range_between_safe : (s : ℕ) (v w : Val) (m : Memory) → Safe Sure Given m (range_between s v w m)
  range_between_safe s v w m =
      then_next (area_of_safe v m) (λ a m1 n q. then_next (area_of_safe w m1) (λ b m2 n2 q2.
      both (a.sheet.0 == s && b.sheet.0 == s) (free (range_value (spanned a b)) m2 refl) (bad 1004 m2)))

  one_text_safe : (s : ℕ) (v : Val) (m : Memory) → Safe Sure Given m (on_fine (text_of v m) (λ address m1. area_found (area_of_text (record { 0 = s }) address) m1))
  one_text_safe s v m = then_next (text_safe v m) (λ address m1 n q. area_found_safe (area_of_text (record { 0 = s }) address) m1)

  range_found_safe : (s : ℕ) (vs : List Val) (m : Memory) → Safe Sure Given m (range_found s vs m)
  range_found_safe s [] m = bad 449 m
  range_found_safe s (missing ∷ vs) m = bad 449 m
  range_found_safe s (v ∷ []) m = one_text_safe s v m
  range_found_safe s (v ∷ w ∷ []) m = range_between_safe s v w m
  range_found_safe s vs m = bad 450 m

  sheet_numbered_safe : (z : ℤ) (m : Memory) → Safe Sure Given m (sheet_numbered z m)
  sheet_numbered_safe (pos zero) m = bad 9 m
  sheet_numbered_safe (pos (suc i)) m = both (nat_lt i (length m.book)) (free (sheet_value (suc i)) m refl) (bad 9 m)
  sheet_numbered_safe (negsuc n) m = bad 9 m

  sheet_of_number : (v : Val) (m : Memory) → Safe Sure Given m (on_fine (long_of v m) (λ z m1. sheet_numbered z m1))
  sheet_of_number v m = then_next (long_safe v m) (λ z m1 n q. sheet_numbered_safe z m1)

  sheet_by_safe : (v : Val) (m : Memory) → Safe Sure Given m (sheet_by v m)
  sheet_by_safe (text units) m = then_next (answered_any (sheet_named m.book (folded units)) m) (λ s m1 n q. free _ m1 refl)
  sheet_by_safe v m = sheet_of_number v m

  sheet_found_safe : (vs : List Val) (m : Memory) → Safe Sure Given m (sheet_found vs m)
  sheet_found_safe [] m = bad 449 m
  sheet_found_safe (v ∷ []) m = then_next (plain_any Sure v m) (λ w m1 n q. sheet_by_safe w m1)
  sheet_found_safe (v ∷ w ∷ vs) m = bad 450 m

  pub first_sheet_safe : (m : Memory) → Safe Sure Given m (first_sheet m)
  first_sheet_safe m = both (length m.book == 0) (bad 91 m) (free (sheet_value 1) m refl)

  -- ---- cells that are written

  cells_silent : (a : Area) (i : ℕ) (cs : List CellValue) → Silent (cell_events a i cs)
  cells_silent a i [] = record { no_end = λ f o. refl; none_made = λ f o. refl }
  cells_silent a i (c ∷ cs) = let more = cells_silent a (suc i) cs in record { no_end = λ f o. more.no_end f o; none_made = λ f o. more.none_made f o }

  cells_put_safe : (a : Area) (cs : List CellValue) (m : Memory) → Safe Sure Any m (cells_put a cs m)
  cells_put_safe a cs m =
      both (nat_lt cell_limit (written_count (with_area m.book a cs))) (out (outside limit.Cells) m)
      (telling (cell_events a 0 cs) (cells_silent a 0 cs) (done_in (outside_later Sure (alike (λ h. h) (λ o. refl)) refl refl)))

  noted_later : (a : Area) (m : Memory) → Later Sure m [] (noted a m)
  noted_later a m = by_test (is_heard a m) where
    by_test : (b : Bool) → Later Sure m [] (if b then record m { changed = Some a } else m)
    by_test true = outside_later Sure (alike (λ h. h) (λ o. refl)) refl refl
    by_test false = later_same m

  area_written_safe : (a : Area) (v : Val) (m : Memory) → Safe Sure Any m (area_written a v m)
  area_written_safe a v m =
      both (nat_lt cell_limit (a.rows * a.columns)) (out (outside limit.Cells) m)
      (then_next (plain_any Sure v m) (λ w m1 n1 q1. then_next {A = Unit {0}} {Q = Any} (then_next (answered_any (cells_of w a.rows a.columns) m1) (λ cs m2 n2 q2. cells_put_safe a cs m2)) (λ u m2 n2 q2. done_in (noted_later a m2))))

  one_cleared_safe : (a : Area) (p : Position) (m : Memory) → Safe Sure Any m (one_cleared a p m)
  one_cleared_safe a p m = both (is_empty (cell_at (content_at m.book a.sheet) p)) (fine (λ s. tt)) (cells_put_safe (area_in a.sheet.0 p.0 p.1 1 1) (cell.Empty ∷ []) m)

  cleared_safe : (a : Area) (n : ℕ) (m : Memory) → Safe Sure Any m (cleared a n m)
  cleared_safe a zero m = fine (λ s. tt)
  cleared_safe a (suc n) m = then_next (cleared_safe a n m) (λ u m1 n1 q1. one_cleared_safe a (nth_cell a n) m1)

  pub written_default_safe : (target v : Val) (m : Memory) → Safe Sure Any m (written_default target v m)
  written_default_safe (object Nothing) v m = bad 91 m
  written_default_safe (object (Host (host.Area s t l r c))) v m = area_written_safe (area_in s t l r c) v m
  written_default_safe (object (Host host.Sheets)) v m = bad 449 m
  written_default_safe (object (Heap id)) v m = both (is_collection (Heap id) m) (bad 449 m) (bad 438 m)
  written_default_safe (object o) v m = bad 438 m
  written_default_safe w v m = bad 424 m

  -- ---- members

  -- a member by its number
  module _ (m : Memory) where
    record Members (xs : List (Effect Val)) : Type 0 where
      laws : AllOf (Safe Sure Given m) xs

    no_more : Members []
    no_more = record { laws = tt }

    and_then : {e : Effect Val} {xs : List (Effect Val)} → Safe Sure Given m e → Members xs → Members (e ∷ xs)
    and_then a more = record { laws = (a, more.laws) }

    given : (v : Val) → objects_in v ≡ [] → {xs : List (Effect Val)} → Members xs → Members (Fine v m ∷ xs)
    given v e more = and_then (free v m e) more

    by_number : {xs : List (Effect Val)} (n : ℕ) → Members xs → Safe Sure Given m (slice_index_or xs n (Bad-at 438 m))
    by_number {xs = xs} n all = one_of (Safe Sure Given m) xs n (Bad-at 438 m) all.laws (bad 438 m)

  empty_behind : {A : Type 0} {m : Memory} {e : Effect A} → Safe Sure Any m e → Safe Sure Given m (on_fine e (λ u m1. Fine empty m1))
  empty_behind a = then_next a (λ u m1 n q. free empty m1 refl)

  member_value_safe : (d : Declarations) (r : HostRef) (n : ℕ) (vs : List Val) (m : Memory) → Safe Sure Given m (member_value d r n vs m)
  member_value_safe d host.Application n vs m = by_number m n (given m (boolean m.events_on) refl (given m (boolean m.updates_screen) refl (given m (boolean m.shows_alerts) refl (no_more m))))
  member_value_safe d host.Workbook n vs m = free (object (Host host.Sheets)) m refl
  member_value_safe d host.Sheets n vs m = by_number m n (given m (long_value (length m.book)) refl (and_then m (sheet_found_safe vs m) (no_more m)))
  member_value_safe d host.ErrObject n vs m =
      by_number m n (given m (err_of d err_number m.err) refl (given m (err_of d err_source m.err) refl (given m (err_of d err_description m.err) refl (and_then m (empty_behind (err_off_safe Sure m)) (no_more m)))))
  member_value_safe d (host.Sheet s) n vs m =
      by_number m n (given m (text (sheet_at m.book (record { 0 = s })).name) refl (given m (long_value s) refl (and_then m (cells_found_safe (whole_sheet s) vs m)
      (and_then m (range_found_safe s vs m) (given m (range_value (used_area (record { 0 = s }) (content_at m.book (record { 0 = s })))) refl (no_more m))))))
  member_value_safe d (host.Area s t l r c) n vs m =
      let a : Area = area_in s t l r c in
      by_number m n (and_then m (answered_safe (area_value m.book a) m (λ x. area_value_in (top m).held m.book a)) (given m (text (address_of a)) refl (given m (long_value t) refl (given m (long_value l) refl
      (and_then m (answered_safe (ranged kind.Long (pos (r * c))) m (λ x. ranged_in (top m).held kind.Long (pos (r * c)))) (given m (object (Host (host.RowsOf r))) refl (given m (object (Host (host.ColumnsOf c))) refl
      (and_then m (cells_found_safe a vs m) (and_then m (cell_found_safe a vs m) (and_then m (area_by_safe (offset_of a) vs m)
      (and_then m (area_by_safe (resized a) vs m) (and_then m (then_next (cleared_safe a (r * c) m) (λ u m1 n1 q1. fine_in (noted_later a m1) (λ x. none_in _)))
      (given m (sheet_value s) refl (given m (sheet_value s) refl (no_more m)))))))))))))))
  member_value_safe d (host.RowsOf count) n vs m = free (long_value count) m refl
  member_value_safe d (host.ColumnsOf count) n vs m = free (long_value count) m refl

  fits_in_safe : (ns : List ℕ) (k : ℕ) (m : Memory) → Safe Sure Any m (fits_in ns k m)
  fits_in_safe [] k m = bad 450 m
  fits_in_safe (n ∷ ns) k m = both (n == k) (fine (λ s. tt)) (both (nat_lt k n) (bad 449 m) (fits_in_safe ns k m))

  can_index_safe : (v : Val) (k : ℕ) (m : Memory) → (Sure.sure → Given m v) → Safe Sure Given m (can_index v k m)
  can_index_safe (array bounds of items) k m h = fine h
  can_index_safe (object (Host host.Sheets)) k m h = then_next (fits_in_safe (1 ∷ []) k m) (λ u m1 n1 q1. free (object (Host host.Sheets)) m1 refl)
  can_index_safe (object (Host (host.Area s t l r c))) k m h = then_next (fits_in_safe two k m) (λ u m1 n1 q1. free (object (Host (host.Area s t l r c))) m1 refl)
  can_index_safe (object o) k m h = bad 438 m
  can_index_safe v k m h = bad 450 m

  pub plains_safe : (vs : List Val) (m : Memory) → Safe Sure Any m (plains vs m)
  plains_safe [] m = fine (λ s. tt)
  plains_safe (v ∷ vs) m = then_next (plain_any Sure v m) (λ w m1 n1 q1. then_next (plains_safe vs m1) (λ ws m2 n2 q2. fine (λ s. tt)))

  unindexed : (o : ObjRef) (vs : List Val) (m : Memory) → Safe Sure Given m (on_fine (plains vs m) (λ ws m1. indexed (object o) ws m1))
  unindexed o vs m = then_next (plains_safe vs m) (λ ws m1 n q. indexed_object_safe Sure o m1)

  item_of_object : (o : ObjRef) (vs : List Val) (m : Memory) → (Sure.sure → Ready Sure.asks m) → Safe Sure Given m (item_by (object o) vs m)
  item_of_object (Host host.Sheets) vs m r = sheet_found_safe vs m
  item_of_object (Host (host.Area s t l rows c)) vs m r = cell_found_safe (area_in s t l rows c) vs m
  item_of_object (Heap id) vs m r = both (is_collection (Heap id) m) (item_found_safe Sure id.0 vs m r) (unindexed (Heap id) vs m)
  item_of_object o vs m r = unindexed o vs m

  item_of_value : (v : Val) (vs : List Val) (m : Memory) → (Sure.sure → Ready Sure.asks m) → (Sure.sure → Given m v) → Safe Sure Given m (on_fine (plains vs m) (λ ws m1. indexed v ws m1))
  item_of_value v vs m r h = then_safe r (plains_safe vs m) (λ ws m1 r1 n1 q1. indexed_safe Sure v ws m1 r1 (still n1 v h))

  pub item_safe : (v : Val) (vs : List Val) (m : Memory) → (Sure.sure → Ready Sure.asks m) → (Sure.sure → Given m v) → Safe Sure Given m (item_by v vs m)
  item_safe (object o) vs m r h = item_of_object o vs m r
  item_safe v vs m r h = item_of_value v vs m r h

  member_begun_safe : (d : Declarations) (r : HostRef) (how : HostMember) (k : ℕ) (m : Memory) → Safe Sure Given m (member_begun d r how k m)
  member_begun_safe d r how k m =
      both (are_places r how k) (then_next (member_value_safe d r (number_of how) [] m) (λ v m1 n1 q1. can_index_safe v k m1 q1)) (empty_behind (fits_in_safe (takes r (number_of how)) k m))

  pub member_there_safe : (d : Declarations) (name : List ℕ) (k : ℕ) (v : Val) (m : Memory) → Safe Sure Given m (member_there d name k v m)
  member_there_safe d name k (object Nothing) m = bad 91 m
  member_there_safe d name k (object (Heap id)) m = then_next (collection_member_safe Sure id.0 name m) (λ how m1 n1 q1. empty_behind (fits_in_safe (takes_in_collection how) k m1))
  member_there_safe d name k (object (Host r)) m = then_next (answered_any (member_of r name) m) (λ how m1 n1 q1. member_begun_safe d r how k m1)
  member_there_safe d name k v m = bad 424 m

  first_given_safe : (before : ℕ) (ps : List ℕ) (m : Memory) → Safe Sure Given m (first_given before ps m)
  first_given_safe zero ps m = both (list_any (λ p. p == 0) ps) (free empty m refl) (bad 449 m)
  first_given_safe (suc before) ps m = free empty m refl

  begun_by : (xs : List (List ℕ)) (ns : List ℕ) (by : ByName) (k : ℕ) (m : Memory) (x : Option (List ℕ)) → parameters_given xs by.before by.names ≡ x → Safe Sure Given m (named_begun xs ns by k m)
  begun_by xs ns by k m None e = rw e (bad 450 m)
  begun_by xs ns by k m (Some ps) e = rw e (then_next (fits_in_safe ns k m) (λ u m1 n q. first_given_safe by.before ps m1))

  named_begun_safe : (xs : List (List ℕ)) (ns : List ℕ) (by : ByName) (k : ℕ) (m : Memory) → Safe Sure Given m (named_begun xs ns by k m)
  named_begun_safe xs ns by k m = begun_by xs ns by k m (parameters_given xs by.before by.names) refl

  pub named_there_safe : (name : List ℕ) (by : ByName) (k : ℕ) (v : Val) (m : Memory) → Safe Sure Given m (named_there name by k v m)
  named_there_safe name by k (object Nothing) m = bad 91 m
  named_there_safe name by k (object (Heap id)) m = then_next (collection_member_safe Sure id.0 name m) (λ how m1 n q. named_begun_safe (names_in_collection how) (takes_in_collection how) by k m1)
  named_there_safe name by k (object (Host r)) m =
      then_next (answered_any (member_of r name) m) (λ how m1 n q. named_begun_safe (parameter_names r (number_of how)) (takes r (number_of how)) by k m1)
  named_there_safe name by k v m = bad 424 m

  member_by_safe : (d : Declarations) (x : HostRef) (how : HostMember) (vs : List Val) (begun : Val) (m : Memory) → (Sure.sure → Ready Sure.asks m) → (Sure.sure → Given m begun) → Safe Sure Given m (member_by d x how vs begun m)
  member_by_safe d x how vs begun m r h = both (are_places x how (length vs)) (item_safe begun vs m r h) (member_value_safe d x (number_of how) vs m)

  pub member_called_safe : (d : Declarations) (name : List ℕ) (vs : List Val) (base begun : Val) (m : Memory) → (Sure.sure → Ready Sure.asks m) → (Sure.sure → Given m begun) → Safe Sure Given m (member_called d name vs base begun m)
  member_called_safe d name vs (object (Host x)) begun m r h = then_safe r (answered_any (member_of x name) m) (λ how m1 r1 n1 q1. member_by_safe d x how (as_given vs) begun m1 r1 (still n1 begun h))
  member_called_safe d name vs v begun m r h = bad 424 m

  -- of a counted object
  pub object_member_safe : (name : List ℕ) (vs : List Val) (base : Val) (m : Memory) → (Sure.sure → Ready Sure.asks m) → (Sure.sure → Given m base) → (Sure.sure → GivenAll m vs) → Safe Sure GivenFirst m (object_member name vs base m)
  object_member_safe name vs (object (Heap id)) m r h g =
      then_safe r (collection_member_safe Sure id.0 name m) (λ how m1 r1 n1 q1.
      collection_used_safe Sure id.0 how (as_given vs) m1 r1 (λ s. held_there (r1 s) (still n1 (object (Heap id)) h s) id.0 (own_time id.0)) (λ s. as_given_in (top m1).held vs (still_all n1 vs g s)))
  object_member_safe name vs v m r h g = bad 424 m

  -- ---- Err.Raise

  number_given_safe : (v : Val) (m : Memory) → Safe Sure Any m (number_given v m)
  number_given_safe missing m = bad 449 m
  number_given_safe v m = then_next (plain_any Sure v m) (λ w m1 n q. answered_any (coerce_of w type.long) m1)

  text_given_safe : (v : Val) (m : Memory) → Safe Sure Any m (text_given v m)
  text_given_safe missing m = fine (λ s. tt)
  text_given_safe v m = then_next (plain_any Sure v m) (λ w m1 n q. answered_any (coerce_of w type.text) m1)

  pub error_given_safe : (vs : List Val) (m : Memory) → Safe Sure Any m (error_given vs m)
  error_given_safe vs m =
      then_next (number_given_safe (slice_index_or vs 0 missing) m) (λ number m1 n1 q1.
      then_next (text_given_safe (slice_index_or vs 1 missing) m1) (λ source m2 n2 q2.
      then_next (text_given_safe (slice_index_or vs 2 missing) m2) (λ description m3 n3 q3. fine (λ s. tt))))

  -- ---- places that numbers lead to

  place_by : (p : Path) (vs : List Val) (m : Memory) (x : Option Val) → value_at m p ≡ x → (Sure.sure → Ready Sure.asks m) → (Sure.sure → GivenPath Sure.asks m p) → Safe Sure (LeadsOn Sure.asks p) m (place_at p vs m)
  place_by p vs m (Some (object o)) e r h = rw e (then_next (item_of_object o vs m r) (λ w m1 n1 q1. fine (λ s. (path_to_in (reach Sure.asks m1) w (q1 s), λ g. path_to_stays (block_reach Sure.asks m1) w))))
  place_by p vs m x e r h = rw e (element_in_safe Sure p (value_at m p) vs m h)

  pub place_at_safe : (p : Path) (vs : List Val) (m : Memory) → (Sure.sure → Ready Sure.asks m) → (Sure.sure → GivenPath Sure.asks m p) → Safe Sure (LeadsOn Sure.asks p) m (place_at p vs m)
  place_at_safe p vs m r h = place_by p vs m (value_at m p) refl r h

  assigned_here : (root : Root) (steps : List Step) (of : Declared) (bounded : Bool) (makes : Option ℕ) (v : Val) (m : Memory)
      → let p : Path = record { root = root; steps = steps; of = of; bounded = bounded; makes = makes } in (Sure.sure → Ready Sure.asks m) → (Sure.sure → GivenPath Sure.asks m p) → (Sure.sure → Given m v) → Safe Sure Any m (on_fine (plain v m) (λ w m1. assigned p w m1))
  assigned_here root steps of bounded makes v m r i h =
      let p : Path = record { root = root; steps = steps; of = of; bounded = bounded; makes = makes } in then_safe r (plain_safe Sure v m h) (λ w m1 r1 n1 q1. assigned_safe Sure p w m1 r1 (still_path n1 p i) q1)

  item_written_safe : (w : Val) (steps : List Step) (v : Val) (m : Memory) → Safe Sure Any m (item_written w steps v m)
  item_written_safe w [] v m = written_default_safe w v m
  item_written_safe w (t ∷ steps) v m = then_next (plain_any Sure v m) (λ x m1 n q. fine (λ s. tt))

  assigned_from : (root : Root) (steps : List Step) (of : Declared) (bounded : Bool) (makes : Option ℕ) (v : Val) (m : Memory)
      → let p : Path = record { root = root; steps = steps; of = of; bounded = bounded; makes = makes } in (Sure.sure → Ready Sure.asks m) → (Sure.sure → GivenPath Sure.asks m p) → (Sure.sure → Given m v) → Safe Sure Any m (assigned_at p v m)
  assigned_from (in_object o) steps of bounded makes v m r i h = written_default_safe (object o) v m
  assigned_from (in_item w) steps of bounded makes v m r i h = item_written_safe w steps v m
  assigned_from (in_frame k x) steps of bounded makes v m r i h = assigned_here (in_frame k x) steps of bounded makes v m r i h
  assigned_from (in_project x) steps of bounded makes v m r i h = assigned_here (in_project x) steps of bounded makes v m r i h
  assigned_from (in_fields n f) steps of bounded makes v m r i h = assigned_here (in_fields n f) steps of bounded makes v m r i h
  assigned_from (in_block k j) steps of bounded makes v m r i h = assigned_here (in_block k j) steps of bounded makes v m r i h

  pub assigned_at_safe : (p : Path) (v : Val) (m : Memory) → (Sure.sure → Ready Sure.asks m) → (Sure.sure → GivenPath Sure.asks m p) → (Sure.sure → Given m v) → Safe Sure Any m (assigned_at p v m)
  assigned_at_safe p v m r i h = assigned_from p.root p.steps p.of p.bounded p.makes v m r i h

  item_given : (base : Val) (vs : List Val) (v : Val) (m : Memory) → (Sure.sure → Ready Sure.asks m) → (Sure.sure → Given m base) → Safe Sure Any m (on_fine (item_by base vs m) (λ w m1. on_fine (plain v m1) (λ x m2. done m2)))
  item_given base vs v m r h = then_next (item_safe base vs m r h) (λ w m1 n1 q1. then_next (plain_any Sure v m1) (λ x m2 n2 q2. fine (λ s. tt)))

  pub item_assigned_safe : (base : Val) (vs : List Val) (v : Val) (m : Memory) → (Sure.sure → Ready Sure.asks m) → (Sure.sure → Given m base) → Safe Sure Any m (item_assigned base vs v m)
  item_assigned_safe (object o) vs v m r h = then_next (item_of_object o vs m r) (λ w m1 n q. written_default_safe w v m1)
  item_assigned_safe base vs v m r h = item_given base vs v m r h

  -- ---- members that are assigned to

  mark_safe : (n : ℕ) (v : Val) (m : Memory) → Safe Sure Any m (mark_set n v m)
  mark_safe n v m = then_next (plain_any Sure v m) (λ w m1 n1 q1. then_next (answered_any (coerce_of w type.boolean) m1) (λ b m2 n2 q2. done_in (marked n (is_true b) m2))) where
    marked : (n : ℕ) (b : Bool) (m : Memory) → Later Sure m [] (with_mark n b m)
    marked zero b m = outside_later Sure (alike (λ h. h) (λ o. refl)) refl refl
    marked (suc zero) b m = outside_later Sure (alike (λ h. h) (λ o. refl)) refl refl
    marked (suc (suc n)) b m = outside_later Sure (alike (λ h. h) (λ o. refl)) refl refl

  through_safe : (places : Bool) (w v : Val) (m : Memory) → Safe Sure Any m (assigned_through places w v m)
  through_safe places (object o) v m = written_default_safe (object o) v m
  through_safe places w v m = both places (fine (λ s. tt)) (bad 438 m)

  set_through : (d : Declarations) (x : HostRef) (how : HostMember) (vs : List Val) (begun v : Val) (m : Memory) → (Sure.sure → Ready Sure.asks m) → (Sure.sure → Given m begun)
      → Safe Sure Any m (on_fine (member_by d x how vs begun m) (λ w m1. assigned_through (are_places x how (length vs)) w v m1))
  set_through d x how vs begun v m r h = then_next (member_by_safe d x how vs begun m r h) (λ w m1 n q. through_safe (are_places x how (length vs)) w v m1)

  member_set_safe : (d : Declarations) (x : HostRef) (how : HostMember) (vs : List Val) (begun v : Val) (m : Memory) → (Sure.sure → Ready Sure.asks m) → (Sure.sure → Given m begun) → Safe Sure Any m (member_set d x how vs begun v m)
  member_set_safe d x (Call n) vs begun v m r h = bad 438 m
  member_set_safe d host.Application (Write n) [] begun v m r h = mark_safe n v m
  member_set_safe d (host.Area s t l rows c) (Write n) [] begun v m r h = area_written_safe (area_in s t l rows c) v m
  member_set_safe d x how vs begun v m r h = set_through d x how vs begun v m r h

  through_item_safe : (o : ℕ) (how : CollectionMember) (vs : List Val) (v : Val) (m : Memory) → (Sure.sure → Ready Sure.asks m) → Safe Sure Any m (through_item o how vs v m)
  through_item_safe o is_item vs v m r = then_next (item_found_safe Sure o vs m r) (λ w m1 n q. written_default_safe w v m1)
  through_item_safe o member vs v m r = bad 438 m

  pub member_assigned_safe : (d : Declarations) (name : List ℕ) (vs : List Val) (base begun v : Val) (m : Memory) → (Sure.sure → Ready Sure.asks m) → (Sure.sure → Given m begun) → Safe Sure Any m (member_assigned d name vs base begun v m)
  member_assigned_safe d name vs (object (Heap id)) begun v m r h = then_safe r (collection_member_safe Sure id.0 name m) (λ how m1 r1 n1 q1. through_item_safe id.0 how (as_given vs) v m1 r1)
  member_assigned_safe d name vs (object (Host x)) begun v m r h =
      then_safe r (answered_any (member_of x name) m) (λ how m1 r1 n1 q1. member_set_safe d x how (as_given vs) begun v m1 r1 (still n1 begun h))
  member_assigned_safe d name vs base begun v m r h = bad 424 m

  pub member_not_set_safe : (base : Val) (m : Memory) → Safe Sure Any m (member_not_set base m)
  member_not_set_safe (object Nothing) m = bad 91 m
  member_not_set_safe (object o) m = bad 438 m
  member_not_set_safe base m = bad 424 m
