-- The used area is the smallest that holds all cells that aren't Empty.
use Rattle.std.proofs.Common.{◌≡◌, ℕ, zero, suc, ◌+◌, ◌-◌, ◌<◌, ◌≤◌, Bool, true, false, cond, not, List, [], ◌∷◌, ◌++◌, map, Option, Some, None, Result, Ok, Err, T, ◌⊎◌, inl, inr, refl, sym, ap, ap₂, subst, ◌∙◌, arith, add-zero}
use mathlib.Core.Bool.{true≢false}
use Rattle.std.specs.Prelude.{◌&&◌, bytes_eq, ℤ, max, min, fold, filter, is_none, is_some, IsTrue, slice_index_or, unwrap_or}
use Rattle.std.specs.FinMap.{get, get-entries, entries, entries_sorted, find, is_sorted}
use Rattle.std.specs.FinMap.Entries.{below_all}
use Rattle.std.specs.List.{AllByRecursion}
use Rattle.std.specs.Ordering.{is_lt}
use Rattle.std.specs.BTreeMap.{is_at}
use Rattle.std.specs.Cmp.{tied_itself}
use Rattle.std.proofs.lemmas.Bool.{and_parts}
use Rattle.std.proofs.lemmas.Grind.{common_steps}
use Rattle.currency.specs.declared.text.ParseFault.{ParseFault}
use Rattle.currency.specs.Parsed.{parsed}
use Rattle.vba_values.specs.Whole.{fits_signed}
use Rattle.sheet_host.specs.declared.area.Area.{Area}
use Rattle.sheet_host.specs.declared.area.SheetId.{SheetId}
use Rattle.sheet_host.specs.declared.cell.CellValue.{CellValue}
use Rattle.sheet_host.specs.declared.cell.CellValue.TheVariants as cell
use Rattle.sheet_host.specs.declared.used.Corners.{Corners}
use Rattle.sheet_host.specs.Field.{currency_or_text, field_word, has_units, is_currency_field, is_empty, is_whole_field, value_of_field, whole_or_text}
use Rattle.sheet_host.specs.Sheets.{Position, SheetContent, area_of_corners, field_at, filled, filled_cells, filled_fields, placed_fields, placed_rows, position_cmp, used_area, widened}
use Rattle.sheet_host.specs.Smallest.{CountFromOne, HoldsAllFilled, IsFilled, IsIn, IsPartOf, first_cell}
use Rattle.sheet_host.specs.Pages.{AllOfPage, AllPages, ArePages, Page, Slot, cells_of_pages, cells_of_slots, kept, with_slot}
use Rattle.sheet_host.specs.Size.{IsInside}
use Rattle.sheet_host.proofs.Fields.{content}
use Rattle.sheet_host.proofs.Kept.{entries_kept}
use Rattle.sheet_host.proofs.Positions.{at_same, position_at, position_total}

-- what stands in a list
abbrev pub Among : {A : Type 0} → A → List A → Type 0
Among x [] = ⊥
Among x (y ∷ ys) = (y ≡ x) ⊎ Among x ys

among_left : {A : Type 0} (x : A) (ys zs : List A) → Among x ys → Among x (ys ++ zs)
among_left x [] zs h = absurd h
among_left x (y ∷ ys) zs h = elim h [ inl same ↦ inl same | inr later ↦ inr (among_left x ys zs later) ]

among_right : {A : Type 0} (x : A) (ys zs : List A) → Among x zs → Among x (ys ++ zs)
among_right x [] zs h = h
among_right x (y ∷ ys) zs h = inr (among_right x ys zs h)

-- what passes a test is among the first parts of those that pass
among_passed : {A B : Type 0} (test : A × B → Bool) (a : A) (b : B) (es : List (A × B)) → Among (a, b) es → test (a, b) ≡ true → Among a (map (λ e. e.0) (filter test es))
among_passed {A} {B} test a b [] h passes = absurd h
among_passed {A} {B} test a b (e ∷ es) h passes =
    elim h [
      | inl same ↦ subst (λ c. Among a (map (λ x. x.0) (cond c (e ∷ filter test es) (filter test es)))) (sym (ap test same ∙ passes)) (inl (ap (λ x. x.0) same))
      | inr later ↦ by_test (test e) (among_passed test a b es later passes)
    ] where
      by_test : (c : Bool) → Among a (map (λ x. x.0) (filter test es)) → Among a (map (λ x. x.0) (cond c (e ∷ filter test es) (filter test es)))
      by_test true rest = inr rest
      by_test false rest = rest

-- the written cells that aren't Empty
same_some : {A : Type 0} (x y : A) → Some x ≡ Some y → x ≡ y
same_some x y e = ap (λ o. unwrap_or o x) e

abbrev pub written_at : Position → CellValue → Position × CellValue
written_at p value = (p, value)

pub found_among : (q : Position) (value : CellValue) (es : List (Position × CellValue)) → find position_cmp q es ≡ Some value → Among (written_at q value) es
found_among q value [] h = cc h
found_among q value (e ∷ es) h = by_test (is_at (position_cmp q) e.0) refl h (λ later. found_among q value es later) where
  by_test : (b : Bool) → is_at (position_cmp q) e.0 ≡ b → cond b (Some e.1) (find position_cmp q es) ≡ Some value
      → (find position_cmp q es ≡ Some value → Among (written_at q value) es) → Among (written_at q value) (e ∷ es)
  by_test true at is rest = inl (ap₂ written_at (sym (at_same q e.0 at)) (same_some e.1 value is))
  by_test false at is rest = inr (rest is)

among_written : (s : SheetContent) (p : Position) (value : CellValue) → get s.cells p ≡ Some value → is_empty value ≡ false → Among p (filled_cells (entries s.cells))
among_written s p value is empty =
    among_passed (λ e. not (is_empty e.1)) p value (entries s.cells) (found_among p value (entries s.cells) (sym (get-entries s.cells p) ∙ is)) (ap not empty)

-- the fields with units
abbrev placed : ℕ → ℕ → List ℕ → Position × List ℕ
placed row column text = ((row, column), text)

among_row : (row column i : ℕ) (texts : List (List ℕ)) → has_units (slice_index_or texts i []) ≡ true → Among (placed row (column + i) (slice_index_or texts i [])) (placed_fields row column texts)
among_row row column i [] h = absurd (true≢false (sym h))
among_row row column zero (text ∷ texts) h = inl (ap (λ n. placed row n text) (sym (add-zero column)))
among_row row column (suc i) (text ∷ texts) h =
    let e : column + 1 + i ≡ column + suc i = omega arith in
    inr (subst (λ n. Among (placed row n (slice_index_or texts i [])) (placed_fields row (column + 1) texts)) e (among_row row (column + 1) i texts h))

among_rows : (row r i : ℕ) (rows : List (List (List ℕ))) → has_units (slice_index_or (slice_index_or rows r []) i []) ≡ true
    → Among (placed (row + r) (1 + i) (slice_index_or (slice_index_or rows r []) i [])) (placed_rows row rows)
among_rows row r i [] h = absurd (true≢false (sym h))
among_rows row zero i (fields ∷ rows) h =
    among_left _ (placed_fields row 1 fields) (placed_rows (row + 1) rows)
    (subst (λ n. Among (placed n (1 + i) (slice_index_or fields i [])) (placed_fields row 1 fields)) (sym (add-zero row)) (among_row row 1 i fields h))
among_rows row (suc r) i (fields ∷ rows) h =
    let e : row + 1 + r ≡ row + suc r = omega arith in
    among_right _ (placed_fields row 1 fields) (placed_rows (row + 1) rows)
    (subst (λ n. Among (placed n (1 + i) (slice_index_or (slice_index_or rows r []) i [])) (placed_rows (row + 1) rows)) e (among_rows (row + 1) r i rows h))

among_fields : (s : SheetContent) (p : Position) → 1 ≤ p.0 → 1 ≤ p.1 → get s.cells p ≡ None → has_units (field_at s p) ≡ true → Among p (filled_fields s.cells (placed_rows 1 s.rows))
among_fields s p row column none units =
    let r : 1 + (p.0 - 1) ≡ p.0 = omega (arith, row) in
    let c : 1 + (p.1 - 1) ≡ p.1 = omega (arith, column) in
    among_passed (λ e. has_units e.1 && is_none (get s.cells e.0)) p (field_at s p) (placed_rows 1 s.rows)
    (subst (λ n. Among (placed p.0 n (field_at s p)) (placed_rows 1 s.rows)) c
    (subst (λ n. Among (placed n (1 + (p.1 - 1)) (field_at s p)) (placed_rows 1 s.rows)) r (among_rows 1 (p.0 - 1) (p.1 - 1) s.rows units)))
    (ap₂ (λ b o. b && is_none o) units none)

filled_units : (text : List ℕ) → is_empty (value_of_field text) ≡ false → has_units text ≡ true
filled_units [] h = absurd (true≢false h)
filled_units (unit ∷ units) h = refl

-- each cell that isn't Empty is among the filled ones
among_filled : (s : SheetContent) (p : Position) → IsFilled s p → Among p (filled s)
among_filled s p is = by_cell (get s.cells p) refl where
  by_cell : (o : Option CellValue) → get s.cells p ≡ o → Among p (filled s)
  by_cell None none =
      among_left p (filled_fields s.cells (placed_rows 1 s.rows)) (filled_cells (entries s.cells)) (among_fields s p is.first_row is.first_column none
      (filled_units (field_at s p) (ap (λ o. is_empty (unwrap_or o (value_of_field (field_at s p)))) (sym none) ∙ is.filled)))
  by_cell (Some value) some =
      among_right p (filled_fields s.cells (placed_rows 1 s.rows)) (filled_cells (entries s.cells))
      (among_written s p value some (ap (λ o. is_empty (unwrap_or o (value_of_field (field_at s p)))) (sym some) ∙ is.filled))

-- corners hold the cells by which they were widened
min_left : (a b n : ℕ) → a ≤ n → min a b ≤ n
min_left a b n h = grind (arith, common_steps)

min_right : (a b : ℕ) → min a b ≤ b
min_right a b = grind (arith, common_steps)

max_left : (a b n : ℕ) → n ≤ a → n ≤ max a b
max_left a b n h = grind (arith, common_steps)

max_right : (a b : ℕ) → b ≤ max a b
max_right a b = grind (arith, common_steps)

le_min : (a b n : ℕ) → n ≤ a → n ≤ b → n ≤ min a b
le_min a b n h k = grind (arith, common_steps)

max_lt : (a b n : ℕ) → a < n → b < n → max a b < n
max_lt a b n h k = grind (arith, common_steps)

abbrev Covers : Option Corners → Position → Type 0
Covers None p = ⊥
Covers (Some c) p = (c.top ≤ p.0) × (p.0 ≤ c.bottom) × (c.left ≤ p.1) × (p.1 ≤ c.right)

covers_new : (c : Option Corners) (p : Position) → Covers (widened c p) p
covers_new None p = (omega arith, omega arith, omega arith, omega arith)
covers_new (Some c) p = (min_right c.top p.0, max_right c.bottom p.0, min_right c.left p.1, max_right c.right p.1)

covers_more : (c : Option Corners) (p q : Position) → Covers c q → Covers (widened c p) q
covers_more None p q h = absurd h
covers_more (Some c) p q h = (min_left c.top p.0 q.0 h.0, max_left c.bottom p.0 q.0 h.1, min_left c.left p.1 q.1 h.2, max_left c.right p.1 q.1 h.3)

covers_fold : (c : Option Corners) (ps : List Position) (q : Position) → Covers c q → Covers (fold widened c ps) q
covers_fold c [] q h = h
covers_fold c (p ∷ ps) q h = covers_fold (widened c p) ps q (covers_more c p q h)

covers_among : (c : Option Corners) (ps : List Position) (q : Position) → Among q ps → Covers (fold widened c ps) q
covers_among c [] q h = absurd h
covers_among c (p ∷ ps) q h =
    elim h [
      | inl same ↦ covers_fold (widened c p) ps q (subst (λ x. Covers (widened c p) x) same (covers_new c p))
      | inr later ↦ covers_among (widened c p) ps q later
    ]

in_corners : (sheet : SheetId) (c : Option Corners) (p : Position) → Covers c p → IsIn (area_of_corners sheet c) p
in_corners sheet None p h = absurd h
in_corners sheet (Some c) p h = record {
  below_top = h.0;
  above_end = omega (arith, h.0, h.1);
  behind_left = h.2;
  before_end = omega (arith, h.2, h.3);
}

pub holds_filled : (sheet : SheetId) (s : SheetContent) → HoldsAllFilled s (used_area sheet s)
holds_filled sheet s p is = in_corners sheet (fold widened None (filled s)) p (covers_among None (filled s) p (among_filled s p is))

-- corners of cells that lie in an area lie in it too
abbrev Within : Area → Option Corners → Type 0
Within area None = Unit {0}
Within area (Some c) = (area.top ≤ c.top) × (c.bottom < area.top + area.rows) × (area.left ≤ c.left) × (c.right < area.left + area.columns)

within_more : (area : Area) (c : Option Corners) (p : Position) → Within area c → IsIn area p → Within area (widened c p)
within_more area None p h is = (is.below_top, is.above_end, is.behind_left, is.before_end)
within_more area (Some c) p h is = (
  le_min c.top p.0 area.top h.0 is.below_top,
  max_lt c.bottom p.0 (area.top + area.rows) h.1 is.above_end,
  le_min c.left p.1 area.left h.2 is.behind_left,
  max_lt c.right p.1 (area.left + area.columns) h.3 is.before_end,
)

within_fold : (area : Area) (c : Option Corners) (ps : List Position) → Within area c → AllByRecursion (IsIn area) ps → Within area (fold widened c ps)
within_fold area c [] h all = h
within_fold area c (p ∷ ps) h all = within_fold area (widened c p) ps (within_more area c p h all.0) all.1

part_of : (sheet : SheetId) (area : Area) (c : Corners) → Within area (Some c) → IsPartOf (area_of_corners sheet (Some c)) area
part_of sheet area c h p is = record {
  below_top = omega (arith, h.0, is.below_top);
  above_end = omega (arith, h.1, is.below_top, is.above_end);
  behind_left = omega (arith, h.2, is.behind_left);
  before_end = omega (arith, h.3, is.behind_left, is.before_end);
}

-- what all of a list are
each_append : {A : Type 0} (P : A → Type 0) (xs ys : List A) → AllByRecursion P xs → AllByRecursion P ys → AllByRecursion P (xs ++ ys)
each_append P [] ys h k = k
each_append P (x ∷ xs) ys h k = (h.0, each_append P xs ys h.1 k)

each_passed : {A B : Type 0} (P : A × B → Type 0) (Q : A → Type 0) (test : A × B → Bool) (es : List (A × B)) → ((e : A × B) → P e → test e ≡ true → Q e.0)
    → AllByRecursion P es → AllByRecursion Q (map (λ e. e.0) (filter test es))
each_passed P Q test [] means h = tt
each_passed P Q test (e ∷ es) means h = by_test (test e) refl (each_passed P Q test es means h.1) where
  by_test : (b : Bool) → test e ≡ b → AllByRecursion Q (map (λ x. x.0) (filter test es)) → AllByRecursion Q (map (λ x. x.0) (cond b (e ∷ filter test es) (filter test es)))
  by_test true passes rest = (means e h.0 passes, rest)
  by_test false fails rest = rest

each_weaker : {A : Type 0} (P Q : A → Type 0) (xs : List A) → ((x : A) → P x → Q x) → AllByRecursion P xs → AllByRecursion Q xs
each_weaker P Q [] means h = tt
each_weaker P Q (x ∷ xs) means h = (means x h.0, each_weaker P Q xs means h.1)

-- the filled fields aren't Empty
each_row : (P : Position × List ℕ → Type 0) (row column : ℕ) (texts : List (List ℕ)) → ((i : ℕ) → P (placed row (column + i) (slice_index_or texts i []))) → AllByRecursion P (placed_fields row column texts)
each_row P row column [] h = tt
each_row P row column (text ∷ texts) h =
    let e : (i : ℕ) → column + suc i ≡ column + 1 + i = λ i. omega arith in
    (subst (λ n. P (placed row n text)) (add-zero column) (h zero), each_row P row (column + 1) texts (λ i. subst (λ n. P (placed row n (slice_index_or texts i []))) (e i) (h (suc i))))

each_rows : (P : Position × List ℕ → Type 0) (row : ℕ) (rows : List (List (List ℕ))) → ((r i : ℕ) → P (placed (row + r) (1 + i) (slice_index_or (slice_index_or rows r []) i [])))
    → AllByRecursion P (placed_rows row rows)
each_rows P row [] h = tt
each_rows P row (fields ∷ rows) h =
    let e : (r : ℕ) → row + suc r ≡ row + 1 + r = λ r. omega arith in
    each_append P (placed_fields row 1 fields) (placed_rows (row + 1) rows)
    (each_row P row 1 fields (λ i. subst (λ n. P (placed n (1 + i) (slice_index_or fields i []))) (add-zero row) (h zero i)))
    (each_rows P (row + 1) rows (λ r i. subst (λ n. P (placed n (1 + i) (slice_index_or (slice_index_or rows r []) i []))) (e r) (h (suc r) i)))

abbrev IsFieldOf : SheetContent → Position × List ℕ → Type 0
IsFieldOf s e = (1 ≤ e.0.0) × (1 ≤ e.0.1) × (field_at s e.0 ≡ e.1)

fields_are : (s : SheetContent) → AllByRecursion (IsFieldOf s) (placed_rows 1 s.rows)
fields_are s = each_rows (IsFieldOf s) 1 s.rows (λ r i.
    let m : 1 + r - 1 ≡ r = omega arith in
    let n : 1 + i - 1 ≡ i = omega arith in
    (omega arith, omega arith, ap₂ (λ a b. slice_index_or (slice_index_or s.rows a []) b []) m n))

not_empty : (text : List ℕ) (truth untruth whole : Bool) (w : Result ℤ ParseFault) (money : Bool) (c : Result ℤ ParseFault)
    → is_empty (cond truth (cell.Boolean true) (cond untruth (cell.Boolean false) (cond whole (whole_or_text text w) (cond money (currency_or_text text c) (cell.Text text))))) ≡ false
not_empty text true untruth whole w money c = refl
not_empty text false true whole w money c = refl
not_empty text false false true (Ok z) money c = by_test (fits_signed 31 z) where
  by_test : (b : Bool) → is_empty (cond b (cell.Long z) (cell.LongLong z)) ≡ false
  by_test true = refl
  by_test false = refl
not_empty text false false true (Err fault) money c = refl
not_empty text false false false w true (Ok count) = refl
not_empty text false false false w true (Err fault) = refl
not_empty text false false false w false c = refl

pub units_filled : (text : List ℕ) → has_units text ≡ true → is_empty (value_of_field text) ≡ false
units_filled [] h = absurd (true≢false (sym h))
units_filled (unit ∷ units) h = not_empty (unit ∷ units) (bytes_eq (unit ∷ units) (field_word true)) (bytes_eq (unit ∷ units) (field_word false)) (is_whole_field (unit ∷ units)) (parsed 0 (unit ∷ units)) (is_currency_field (unit ∷ units)) (parsed 4 (unit ∷ units))

none_is : {A : Type 0} (o : Option A) → is_none o ≡ true → o ≡ None
none_is None h = refl
none_is (Some x) h = absurd (true≢false (sym h))

fields_filled : (s : SheetContent) → AllByRecursion (IsFilled s) (filled_fields s.cells (placed_rows 1 s.rows))
fields_filled s = each_passed (IsFieldOf s) (IsFilled s) (λ e. has_units e.1 && is_none (get s.cells e.0)) (placed_rows 1 s.rows) is_filled (fields_are s) where
  is_filled : (e : Position × List ℕ) → IsFieldOf s e → (has_units e.1 && is_none (get s.cells e.0)) ≡ true → IsFilled s e.0
  is_filled e is passes =
      let parts = and_parts (has_units e.1) (is_none (get s.cells e.0)) passes in
      record {
        first_row = is.0;
        first_column = is.1;
        filled = ap (λ o. is_empty (unwrap_or o (value_of_field (field_at s e.0)))) (none_is (get s.cells e.0) parts.1) ∙ ap (λ text. is_empty (value_of_field text)) is.2 ∙ units_filled e.1 parts.0;
      }

-- the filled cells aren't Empty
T_first : (a b : Bool) → T (a && b) → T a
T_first true b h = tt
T_first false b h = h

T_second : (a b : Bool) → T (a && b) → T b
T_second true b h = h
T_second false b h = absurd h

abbrev pub Finds : List (Position × CellValue) → Position × CellValue → Type 0
Finds es e = find position_cmp e.0 es ≡ Some e.1

finds_later : (first : Position × CellValue) (es xs : List (Position × CellValue)) → T (below_all position_cmp first.0 xs) → AllByRecursion (Finds es) xs → AllByRecursion (Finds (first ∷ es)) xs
finds_later first es [] below h = tt
finds_later first es (x ∷ xs) below h =
    (by_test (is_at (position_cmp x.0) first.0) refl, finds_later first es xs (T_second (is_lt (position_cmp first.0 x.0)) (below_all position_cmp first.0 xs) below) h.1) where
      by_test : (b : Bool) → is_at (position_cmp x.0) first.0 ≡ b → cond b (Some first.1) (find position_cmp x.0 es) ≡ Some x.1
      by_test true at = absurd (subst (λ o. T (is_lt o)) (tied_itself position_total first.0)
          (subst (λ q. T (is_lt (position_cmp first.0 q))) (at_same x.0 first.0 at) (T_first (is_lt (position_cmp first.0 x.0)) (below_all position_cmp first.0 xs) below)))
      by_test false at = h.0

pub finds_own : (es : List (Position × CellValue)) → T (is_sorted position_cmp es) → AllByRecursion (Finds es) es
finds_own [] sorted = tt
finds_own (e ∷ es) sorted = (
  ap (λ b. cond b (Some e.1) (find position_cmp e.0 es)) (position_at e.0),
  finds_later e es es (T_first (below_all position_cmp e.0 es) (is_sorted position_cmp es) sorted) (finds_own es (T_second (below_all position_cmp e.0 es) (is_sorted position_cmp es) sorted)),
)

pub not_is : (b : Bool) → not b ≡ true → b ≡ false
not_is true h = absurd (true≢false (sym h))
not_is false h = refl

cells_filled : (s : SheetContent) → CountFromOne s → AllByRecursion (IsFilled s) (filled_cells (entries s.cells))
cells_filled s count = each_passed (Finds (entries s.cells)) (IsFilled s) (λ e. not (is_empty e.1)) (entries s.cells) is_filled (finds_own (entries s.cells) (entries_sorted s.cells)) where
  is_filled : (e : Position × CellValue) → Finds (entries s.cells) e → not (is_empty e.1) ≡ true → IsFilled s e.0
  is_filled e finds passes =
      let is : get s.cells e.0 ≡ Some e.1 = get-entries s.cells e.0 ∙ finds in
      let places = count e.0 (subst (λ o. IsTrue (is_some o)) (sym is) refl) in
      record {
        first_row = places.0;
        first_column = places.1;
        filled = ap (λ o. is_empty (unwrap_or o (value_of_field (field_at s e.0)))) is ∙ not_is (is_empty e.1) passes;
      }

all_filled : (s : SheetContent) → CountFromOne s → AllByRecursion (IsFilled s) (filled s)
all_filled s count = each_append (IsFilled s) (filled_fields s.cells (placed_rows 1 s.rows)) (filled_cells (entries s.cells)) (fields_filled s) (cells_filled s count)

pub smallest : (sheet : SheetId) (s : SheetContent) (area : Area) (first : Position) → CountFromOne s → IsFilled s first → HoldsAllFilled s area → IsPartOf (used_area sheet s) area
smallest sheet s area first count is holds =
    by_corners (fold widened None (filled s)) (covers_among None (filled s) first (among_filled s first is))
    (within_fold area None (filled s) tt (each_weaker (IsFilled s) (IsIn area) (filled s) holds (all_filled s count))) where
      by_corners : (c : Option Corners) → Covers c first → Within area c → IsPartOf (area_of_corners sheet c) area
      by_corners None covers within = absurd covers
      by_corners (Some c) covers within = part_of sheet area c within

pub none_filled : (sheet : SheetId) (s : SheetContent) → CountFromOne s → ((p : Position) → ¬ (IsFilled s p)) → used_area sheet s ≡ first_cell sheet
none_filled sheet s count none = by_list (filled s) (all_filled s count) where
  by_list : (ps : List Position) → AllByRecursion (IsFilled s) ps → area_of_corners sheet (fold widened None ps) ≡ first_cell sheet
  by_list [] all = refl
  by_list (p ∷ ps) all = absurd (none p all.0)

-- the written cells of pages lie in the sheet
abbrev LiesInside : Position × CellValue → Type 0
LiesInside e = IsInside e.0.0 e.0.1

slots_lie : (number : ℕ) (slots : List (Position × Slot)) → AllOfPage number slots → AllByRecursion LiesInside (cells_of_slots slots)
slots_lie number [] own = tt
slots_lie number (slot ∷ slots) own = by_slot slot.1 (slots_lie number slots own.2) where
  by_slot : (s : Slot) → AllByRecursion LiesInside (cells_of_slots slots) → AllByRecursion LiesInside (with_slot slot.0 s (cells_of_slots slots))
  by_slot None rest = rest
  by_slot (Some value) rest = (own.1, rest)

pages_lie : (pages : List (ℕ × Page)) → AllPages pages → AllByRecursion LiesInside (cells_of_pages pages)
pages_lie [] each = tt
pages_lie (page ∷ pages) each = each_append LiesInside (cells_of_slots page.1.entries) (cells_of_pages pages) (slots_lie page.0 page.1.entries each.0.own) (pages_lie pages each.1)

among_lies : (p : Position) (value : CellValue) (es : List (Position × CellValue)) → AllByRecursion LiesInside es → Among (written_at p value) es → IsInside p.0 p.1
among_lies p value [] each among = absurd among
among_lies p value (e ∷ es) each among =
    elim among [
      | inl same ↦ subst (λ q. IsInside q.0 q.1) (ap (λ x. x.0) same) each.0
      | inr later ↦ among_lies p value es each.1 later
    ]

pub kept_counts : (rows : List (List (List ℕ))) (pages : List (ℕ × Page)) → ArePages pages → CountFromOne (content rows (kept pages))
kept_counts rows pages are p some = by_cell (get (kept pages) p) refl some where
  by_cell : (o : Option CellValue) → get (kept pages) p ≡ o → IsTrue (is_some o) → (1 ≤ p.0) × (1 ≤ p.1)
  by_cell None is some = absurd (true≢false (sym some))
  by_cell (Some value) is some =
      let inside = among_lies p value (cells_of_pages pages) (pages_lie pages are.each)
      (subst (λ es. Among (written_at p value) es) (entries_kept pages are) (found_among p value (entries (kept pages)) (sym (get-entries (kept pages) p) ∙ is))) in
      (inside.first_row, inside.first_column)
