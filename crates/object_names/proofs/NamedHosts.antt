-- Effects on host objects under other names, and stores at places that numbers lead to.
use Rattle.std.proofs.Common.{◌≡◌, ℕ, zero, suc, List, [], ◌∷◌, length, Result, ℤ, pos, negsuc, refl, sym, ap, ◌∙◌, subst}
use Rattle.std.specs.Prelude.{◌==◌, nat_lt, ◌&&◌, ◌-ℤ◌}
use Rattle.vba_base.specs.Fold.{folded}
use Rattle.vba_values.specs.declared.fault.Bad.{Bad}
use Rattle.vba_values.specs.declared.fault.OutKind.TheVariants as limit
use Rattle.vba_values.specs.declared.object.HostRef.TheVariants as host
use Rattle.vba_values.specs.declared.object.ObjRef.{ObjRef}
use Rattle.vba_values.specs.declared.object.ObjRef.TheVariants.{Nothing, Heap, Host}
use Rattle.vba_values.specs.Types.{Declared}
use Rattle.vba_values.specs.Types as type
use Rattle.vba_values.specs.Val.{Val, missing, text, object, array}
use Rattle.vba_values.specs.Coerce.{coerce_of}
use Rattle.sheet_host.specs.declared.area.Area.{Area}
use Rattle.sheet_host.specs.declared.cell.CellValue.{CellValue}
use Rattle.sheet_host.specs.AddressText.{area_of_text}
use Rattle.sheet_host.specs.Area.{offset_of}
use Rattle.sheet_host.specs.Books.{sheet_named, written_count, cell_limit, with_area}
use Rattle.sheet_host.specs.Sheets.{nth_cell}
use Rattle.sheet_host.specs.Writing.{cells_of}
use Rattle.vba_meaning.specs.Memory.{Memory, outside}
use Rattle.vba_meaning.specs.Effects.{Cell, on_fine, answered, area_in, is_collection}
use Rattle.vba_meaning.specs.Arrays.{number_in, indexed}
use Rattle.vba_meaning.specs.Host.{area_found, long_of, units_in, text_of, area_by, cell_found, cells_found, area_of, range_between, range_found, sheet_numbered, sheet_by, sheet_found, first_sheet, cell_events, cells_put, value_put, two, fits_in, can_index, plains, item_by, number_given, text_given}
use Rattle.object_names.specs.Names.{reference_named, value_named, values_named, events_named}
use Rattle.object_names.specs.Renamed.{Same}
use Rattle.object_names.proofs.NamedValues.{cells_blind}
use Rattle.object_names.proofs.NamedMemory.{same_by}
use Rattle.object_names.proofs.Named.{plainly, Names, fine, bad, out, telling, then_named, then_by, both, both_by, answered_same}
use Rattle.object_names.proofs.NamedVariables.{book_same, collection_same, coerced_names, plain_names}
use Rattle.object_names.proofs.NamedArrays.{number_blind, indexed_names, indexed_object_names}
use Rattle.object_names.proofs.NamedItems.{item_found_names}

module _ (r : ℕ → ℕ) where
  abbrev nv : Val → Val
  nv v = value_named r v

  -- ---- sheets and areas that are found

  area_found_names : {m n : Memory} (x : Result Area Bad) → Same r m n → Names r nv (area_found x m) (area_found x n)
  area_found_names x k = then_named r _ (answered_same r x x refl k) (λ a m1 n1 k1. fine r refl k1)

  units_blind : (v : Val) → units_in (nv v) ≡ units_in v
  units_blind (object o) = refl
  units_blind v = refl

  pub long_names : {m n : Memory} (v : Val) → Same r m n → Names r plainly (long_of v m) (long_of (nv v) n)
  long_names v k = then_named r _ (plain_names r v k) (λ w m1 n1 k1. then_by r (coerced_names r type.long w k1) (λ x y m2 n2 e k2. fine r (ap (λ u. number_in u) e ∙ number_blind r x) k2))

  pub text_names : {m n : Memory} (v : Val) → Same r m n → Names r plainly (text_of v m) (text_of (nv v) n)
  text_names v k = then_named r _ (plain_names r v k) (λ w m1 n1 k1. then_by r (coerced_names r type.text w k1) (λ x y m2 n2 e k2. fine r (ap (λ u. units_in u) e ∙ units_blind x) k2))

  pub area_by_names : {m n : Memory} (f : ℤ → ℤ → Result Area Bad) (vs : List Val) → Same r m n → Names r nv (area_by f vs m) (area_by f (values_named r vs) n)
  area_by_names f [] k = bad r 449 k
  area_by_names f (v ∷ []) k = bad r 449 k
  area_by_names f (x ∷ y ∷ []) k = then_named r _ (long_names x k) (λ i m1 n1 k1. then_named r _ (long_names y k1) (λ j m2 n2 k2. area_found_names (f i j) k2))
  area_by_names f (x ∷ y ∷ v ∷ vs) k = bad r 450 k

  pub cell_found_names : {m n : Memory} (a : Area) (vs : List Val) → Same r m n → Names r nv (cell_found a vs m) (cell_found a (values_named r vs) n)
  cell_found_names a vs k = area_by_names (λ y x. offset_of (record a { rows = 1; columns = 1 }) (y -ℤ pos 1) (x -ℤ pos 1)) vs k

  pub cells_found_names : {m n : Memory} (a : Area) (vs : List Val) → Same r m n → Names r nv (cells_found a vs m) (cells_found a (values_named r vs) n)
  cells_found_names a [] k = fine r refl k
  cells_found_names a (v ∷ vs) k = cell_found_names a (v ∷ vs) k

  area_of_names : {m n : Memory} (v : Val) → Same r m n → Names r plainly (area_of v m) (area_of (nv v) n)
  area_of_names (object (Host (host.Area s t l rows c))) k = fine r refl k
  area_of_names (object Nothing) k = bad r 91 k
  area_of_names (object (Heap id)) k = bad r 13 k
  area_of_names (object (Host h)) k = bad r 13 k
  area_of_names v k = bad r 13 k

  range_between_names : {m n : Memory} (s : ℕ) (v w : Val) → Same r m n → Names r nv (range_between s v w m) (range_between s (nv v) (nv w) n)
  range_between_names s v w k =
      then_named r _ (area_of_names v k) (λ a m1 n1 k1. then_named r _ (area_of_names w k1) (λ b m2 n2 k2. both r (a.sheet.0 == s && b.sheet.0 == s) (fine r refl k2) (bad r 1004 k2)))

  one_text : {m n : Memory} (s : ℕ) (v : Val) → Same r m n
      → Names r nv (on_fine (text_of v m) (λ address m1. area_found (area_of_text (record { 0 = s }) address) m1)) (on_fine (text_of (nv v) n) (λ address m1. area_found (area_of_text (record { 0 = s }) address) m1))
  one_text s v k = then_named r _ (text_names v k) (λ address m1 n1 k1. area_found_names (area_of_text (record { 0 = s }) address) k1)

  pub range_found_names : {m n : Memory} (s : ℕ) (vs : List Val) → Same r m n → Names r nv (range_found s vs m) (range_found s (values_named r vs) n)
  range_found_names s [] k = bad r 449 k
  range_found_names s (missing ∷ vs) k = bad r 449 k
  range_found_names s (object o ∷ []) k = one_text s (object o) k
  range_found_names s (object o ∷ w ∷ []) k = range_between_names s (object o) w k
  range_found_names s (object o ∷ w ∷ x ∷ vs) k = bad r 450 k
  range_found_names s (v ∷ []) k = one_text s v k
  range_found_names s (v ∷ w ∷ []) k = range_between_names s v w k
  range_found_names s (v ∷ w ∷ x ∷ vs) k = bad r 450 k

  numbered_by : {m n : Memory} (z : ℤ) → Same r m n → Names r nv (sheet_numbered z m) (sheet_numbered z n)
  numbered_by (pos zero) k = bad r 9 k
  numbered_by {m = m} (pos (suc i)) k = both_by r (nat_lt i (length m.book)) _ (ap (λ b. nat_lt i (length b)) (book_same r k)) (fine r refl k) (bad r 9 k)
  numbered_by (negsuc i) k = bad r 9 k

  by_number : {m n : Memory} (v : Val) → Same r m n → Names r nv (on_fine (long_of v m) (λ z m1. sheet_numbered z m1)) (on_fine (long_of (nv v) n) (λ z m1. sheet_numbered z m1))
  by_number v k = then_named r _ (long_names v k) (λ z m1 n1 k1. numbered_by z k1)

  sheet_by_names : {m n : Memory} (v : Val) → Same r m n → Names r nv (sheet_by v m) (sheet_by (nv v) n)
  sheet_by_names {m = m} {n = n} (text units) k =
      then_named r _ (answered_same r (sheet_named m.book (folded units)) (sheet_named n.book (folded units)) (ap (λ b. sheet_named b (folded units)) (book_same r k)) k) (λ s m1 n1 k1. fine r refl k1)
  sheet_by_names (object o) k = by_number (object o) k
  sheet_by_names v k = by_number v k

  pub sheet_found_names : {m n : Memory} (vs : List Val) → Same r m n → Names r nv (sheet_found vs m) (sheet_found (values_named r vs) n)
  sheet_found_names [] k = bad r 449 k
  sheet_found_names (v ∷ []) k = then_named r _ (plain_names r v k) (λ w m1 n1 k1. sheet_by_names w k1)
  sheet_found_names (v ∷ w ∷ vs) k = bad r 450 k

  pub first_sheet_names : {m n : Memory} → Same r m n → Names r nv (first_sheet m) (first_sheet n)
  first_sheet_names {m = m} k = both_by r (length m.book == 0) _ (ap (λ b. length b == 0) (book_same r k)) (bad r 91 k) (fine r refl k)

  pub fits_in_names : {m n : Memory} (ns : List ℕ) (j : ℕ) → Same r m n → Names r plainly (fits_in ns j m) (fits_in ns j n)
  fits_in_names [] j k = bad r 450 k
  fits_in_names (i ∷ is) j k = both r (i == j) (fine r refl k) (both r (nat_lt j i) (bad r 449 k) (fits_in_names is j k))

  pub can_index_names : {m n : Memory} (v : Val) (j : ℕ) → Same r m n → Names r nv (can_index v j m) (can_index (nv v) j n)
  can_index_names (array bounds of items) j k = fine r refl k
  can_index_names (object (Host host.Sheets)) j k = then_named r _ (fits_in_names (1 ∷ []) j k) (λ u m1 n1 k1. fine r refl k1)
  can_index_names (object (Host (host.Area s t l rows c))) j k = then_named r _ (fits_in_names two j k) (λ u m1 n1 k1. fine r refl k1)
  can_index_names (object Nothing) j k = bad r 438 k
  can_index_names (object (Heap id)) j k = bad r 438 k
  can_index_names (object (Host h)) j k = bad r 438 k
  can_index_names v j k = bad r 450 k

  pub plains_names : {m n : Memory} (vs : List Val) → Same r m n → Names r (values_named r) (plains vs m) (plains (values_named r vs) n)
  plains_names [] k = fine r refl k
  plains_names (v ∷ vs) k = then_named r _ (plain_names r v k) (λ w m1 n1 k1. then_named r _ (plains_names vs k1) (λ ws m2 n2 k2. fine r refl k2))

  unindexed : {m n : Memory} (o : ObjRef) (vs : List Val) → Same r m n
      → Names r nv (on_fine (plains vs m) (λ ws m1. indexed (object o) ws m1)) (on_fine (plains (values_named r vs) n) (λ ws m1. indexed (object (reference_named r o)) ws m1))
  unindexed o vs k = then_named r _ (plains_names vs k) (λ ws m1 n1 k1. indexed_object_names r o k1)

  pub item_of_object_names : {m n : Memory} (o : ObjRef) (vs : List Val) → Same r m n → Names r nv (item_by (object o) vs m) (item_by (object (reference_named r o)) (values_named r vs) n)
  item_of_object_names (Host host.Sheets) vs k = sheet_found_names vs k
  item_of_object_names (Host (host.Area s t l rows c)) vs k = cell_found_names (area_in s t l rows c) vs k
  item_of_object_names {m = m} (Heap id) vs k = both_by r (is_collection (Heap id) m) _ (collection_same r (Heap id) k) (item_found_names r id.0 vs k) (unindexed (Heap id) vs k)
  item_of_object_names Nothing vs k = unindexed Nothing vs k
  item_of_object_names (Host h) vs k = unindexed (Host h) vs k

  item_of_value : {m n : Memory} (v : Val) (vs : List Val) → Same r m n
      → Names r nv (on_fine (plains vs m) (λ ws m1. indexed v ws m1)) (on_fine (plains (values_named r vs) n) (λ ws m1. indexed (nv v) ws m1))
  item_of_value v vs k = then_named r _ (plains_names vs k) (λ ws m1 n1 k1. indexed_names r v ws k1)

  pub item_names : {m n : Memory} (v : Val) (vs : List Val) → Same r m n → Names r nv (item_by v vs m) (item_by (nv v) (values_named r vs) n)
  item_names (object o) vs k = item_of_object_names o vs k
  item_names v vs k = item_of_value v vs k

  -- ---- cells that are written

  book_put : {m n : Memory} (a : Area) (cs : List CellValue) → Same r m n → Same r (record m { book = with_area m.book a cs }) (record n { book = with_area n.book a cs })
  book_put a cs k = same_by r (λ x. record x { book = with_area x.book a cs }) (λ x. record x { book = with_area x.book a cs }) (λ os. refl) refl refl k

  cell_events_blind : (a : Area) (i : ℕ) (cs : List CellValue) → cell_events a i cs ≡ events_named r (cell_events a i cs)
  cell_events_blind a i [] = refl
  cell_events_blind a i (c ∷ cs) = ap (λ es. Cell a.sheet.0 (nth_cell a i).0 (nth_cell a i).1 c ∷ es) (cell_events_blind a (suc i) cs)

  pub cells_put_names : {m n : Memory} (a : Area) (cs : List CellValue) → Same r m n → Names r plainly (cells_put a cs m) (cells_put a cs n)
  cells_put_names {m = m} a cs k =
      both_by r (nat_lt cell_limit (written_count (with_area m.book a cs))) _ (ap (λ b. nat_lt cell_limit (written_count (with_area b a cs))) (book_same r k)) (out r (outside limit.Cells) k)
      (telling r (cell_events_blind a 0 cs) (fine r refl (book_put a cs k)))

  pub value_put_names : {m n : Memory} (a : Area) (w : Val) → Same r m n → Names r plainly (value_put a w m) (value_put a (nv w) n)
  value_put_names a w k = then_named r _ (answered_same r (cells_of w a.rows a.columns) (cells_of (nv w) a.rows a.columns) (cells_blind r w a.rows a.columns) k) (λ cs m1 n1 k1. cells_put_names a cs k1)

  -- ---- arguments

  pub number_given_names : {m n : Memory} (v : Val) → Same r m n → Names r nv (number_given v m) (number_given (nv v) n)
  number_given_names missing k = bad r 449 k
  number_given_names (object o) k = then_named r _ (plain_names r (object o) k) (λ w m1 n1 k1. coerced_names r type.long w k1)
  number_given_names v k = then_by r (plain_names r v k) (λ w u m1 n1 e k1. subst (λ x. Names r nv (answered (coerce_of w type.long) m1) (answered (coerce_of x type.long) n1)) (sym e) (coerced_names r type.long w k1))

  pub text_given_names : {m n : Memory} (v : Val) → Same r m n → Names r nv (text_given v m) (text_given (nv v) n)
  text_given_names missing k = fine r refl k
  text_given_names (object o) k = then_named r _ (plain_names r (object o) k) (λ w m1 n1 k1. coerced_names r type.text w k1)
  text_given_names v k = then_by r (plain_names r v k) (λ w u m1 n1 e k1. subst (λ x. Names r nv (answered (coerce_of w type.text) m1) (answered (coerce_of x type.text) n1)) (sym e) (coerced_names r type.text w k1))
