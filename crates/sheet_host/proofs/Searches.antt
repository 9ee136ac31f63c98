-- The search for the first filled cell among slots, pages, fields and rows.
use Rattle.std.proofs.Common.{◌≡◌, ℕ, zero, suc, ◌+◌, ◌-◌, ◌<◌, ◌≤◌, Bool, true, false, cond, not, List, [], ◌∷◌, ◌++◌, length, Option, Some, None, T, ◌⊎◌, inl, inr, refl, sym, ap, ap₂, subst, ◌∙◌, arith}
use mathlib.Core.Bool.{true≢false}
use Rattle.std.specs.Prelude.{◌&&◌, ◌==◌, max, min, nat_le, nat_lt, slice_index_or, unwrap_or}
use Rattle.std.specs.FinMap.{get, get-entries, entries, entries_sorted}
use Rattle.std.specs.List.{AllByRecursion}
use Rattle.std.specs.List.Sorted.{IsStrictlySortedBy}
use Rattle.std.specs.Map.{keys_of}
use Rattle.std.specs.BTreeMap.Range.{entries_between}
use Rattle.std.specs.Ordering.{is_le, nat_cmp, ordering_then}
use Rattle.std.specs.Cmp.{nat_cmp_is, ranked}
use Rattle.std.specs.declared.cmp.Ordering.{Ordering}
use Rattle.std.specs.declared.cmp.Ordering.TheVariants.{Less, Equal, Greater}
use Rattle.std.specs.declared.ops.Bound.TheVariants.{Included, Excluded}
use Rattle.std.proofs.lemmas.Bool.{and_parts, cases_Bool, ltb-false, ne_eqb, leb-true, leb-false, ltb-true, le-leb, lt-ltb}
use Rattle.sheet_host.specs.declared.cell.CellValue.{CellValue}
use Rattle.sheet_host.specs.declared.filled.Search.{Search}
use Rattle.sheet_host.specs.Field.{has_units, is_empty, value_of_field}
use Rattle.sheet_host.specs.Filled.{IsFirst, IsUpTo}
use Rattle.sheet_host.specs.Pages.{AllOfPage, AllPages, ArePages, Page, Slot, cells_of_pages, cells_of_slots, kept, page_of, with_slot}
use Rattle.sheet_host.specs.Search.{IsFirstColumn, IsFound, IsSearch, before_row, first_among_pages, first_in_page, first_in_pages, first_or, first_slot, is_wanted, kept_content}
use Rattle.sheet_host.specs.Sheets.{Position, SheetContent, field_at, position_cmp, value_at}
use Rattle.sheet_host.proofs.Kept.{entries_kept, not_true, rising_pages}
use Rattle.sheet_host.proofs.Smallest.{Among, Finds, finds_own, found_among, not_is, units_filled, written_at}

-- the order by rows, as a test
le_up_to : (p q : Position) → is_le (position_cmp p q) ≡ true → IsUpTo p q
le_up_to p q h = by_order (nat_cmp p.0 q.0) refl (nat_cmp p.1 q.1) refl h where
  by_order : (o : Ordering) → nat_cmp p.0 q.0 ≡ o → (o' : Ordering) → nat_cmp p.1 q.1 ≡ o' → is_le (ordering_then o o') ≡ true → IsUpTo p q
  by_order Less e o' e' h =
      let lt : p.0 < q.0 = ranked p.0 q.0 Less (sym e) in
      record { row = omega (arith, lt); column = λ same. absurd (omega (arith, lt, same)) }
  by_order Equal e Less e' h =
      let same : p.0 ≡ q.0 = ranked p.0 q.0 Equal (sym e) in
      let lt : p.1 < q.1 = ranked p.1 q.1 Less (sym e') in
      record { row = omega (arith, same); column = λ _. omega (arith, lt) }
  by_order Equal e Equal e' h =
      let same : p.0 ≡ q.0 = ranked p.0 q.0 Equal (sym e) in
      let same' : p.1 ≡ q.1 = ranked p.1 q.1 Equal (sym e') in
      record { row = omega (arith, same); column = λ _. omega (arith, same') }
  by_order Equal e Greater e' h = absurd (true≢false (sym h))
  by_order Greater e o' e' h = absurd (true≢false (sym h))

up_to_le : (p q : Position) → IsUpTo p q → is_le (position_cmp p q) ≡ true
up_to_le p q is = by_order (nat_cmp p.0 q.0) refl (nat_cmp p.1 q.1) refl where
  by_order : (o : Ordering) → nat_cmp p.0 q.0 ≡ o → (o' : Ordering) → nat_cmp p.1 q.1 ≡ o' → is_le (ordering_then o o') ≡ true
  by_order Less e o' e' = refl
  by_order Equal e Less e' = refl
  by_order Equal e Equal e' = refl
  by_order Equal e Greater e' =
      let same : p.0 ≡ q.0 = ranked p.0 q.0 Equal (sym e) in
      let lt : q.1 < p.1 = ranked p.1 q.1 Greater (sym e') in
      let le = is.column same in
      absurd (omega (arith, lt, le))
  by_order Greater e o' e' =
      let lt : q.0 < p.0 = ranked p.0 q.0 Greater (sym e) in
      absurd (omega (arith, lt, is.row))

less_up_to : (p q : Position) → position_cmp p q ≡ Less → IsUpTo p q
less_up_to p q e = le_up_to p q (ap is_le e)

number_le : (m n : ℕ) → m ≤ n → is_le (nat_cmp m n) ≡ true
number_le m n h = by_order (nat_cmp m n) refl where
  by_order : (o : Ordering) → nat_cmp m n ≡ o → is_le o ≡ true
  by_order Less e = refl
  by_order Equal e = refl
  by_order Greater e = let lt : n < m = ranked m n Greater (sym e) in absurd (omega (arith, lt, h))

number_not_le : (m n : ℕ) → n < m → is_le (nat_cmp m n) ≡ false
number_not_le m n h = ap is_le (sym (nat_cmp_is m n Greater h))

and_true : (a b : Bool) → a ≡ true → b ≡ true → (a && b) ≡ true
and_true a b e f = ap₂ (λ x y. x && y) e f

-- the cells that a search goes over, as ranges have them
abbrev in_range : Search → Position → Bool
in_range search p = is_le (position_cmp (search.row, search.column) p) && not (is_le (position_cmp (search.end_row, 0) p))

abbrev in_pages : Search → ℕ → Bool
in_pages search n = is_le (nat_cmp (page_of search.row) n) && not (is_le (nat_cmp (page_of search.end_row + 1) n))

abbrev is_sought : Search → Position × CellValue → Bool
is_sought search e = in_range search e.0 && is_wanted search e.0 (Some e.1)

abbrev first_cell : Search → List (Position × CellValue) → Option Position
first_cell search [] = None
first_cell search (e ∷ es) = cond (is_sought search e) (Some e.0) (first_cell search es)

abbrev slots_between : Search → List (Position × Slot) → List (Position × Slot)
slots_between search slots = entries_between position_cmp (Included (search.row, search.column)) (Excluded (search.end_row, 0)) slots

abbrev pages_between : Search → List (ℕ × Page) → List (ℕ × Page)
pages_between search pages = entries_between nat_cmp (Included (page_of search.row)) (Excluded (page_of search.end_row + 1)) pages

-- the first in a page
page_same : (search : Search) (slots : List (Position × Slot)) → first_in_page search slots ≡ first_cell search (cells_of_slots slots)
page_same search [] = refl
page_same search (slot ∷ slots) = by_slot slot.0 slot.1 (page_same search slots) where
  by_slot : (p : Position) (s : Slot) → first_in_page search slots ≡ first_cell search (cells_of_slots slots)
      → first_slot search (cond (in_range search p) ((p, s) ∷ slots_between search slots) (slots_between search slots)) ≡ first_cell search (with_slot p s (cells_of_slots slots))
  by_slot p None rest = by_range (in_range search p) where
    by_range : (b : Bool) → first_slot search (cond b ((p, None) ∷ slots_between search slots) (slots_between search slots)) ≡ first_cell search (cells_of_slots slots)
    by_range true = rest
    by_range false = rest
  by_slot p (Some value) rest = by_range (in_range search p) where
    by_range : (b : Bool) → first_slot search (cond b ((p, Some value) ∷ slots_between search slots) (slots_between search slots))
        ≡ cond (b && is_wanted search p (Some value)) (Some p) (first_cell search (cells_of_slots slots))
    by_range true = ap (cond (is_wanted search p (Some value)) (Some p)) rest
    by_range false = rest

-- the first in pages
first_append : (search : Search) (xs ys : List (Position × CellValue)) → first_cell search (xs ++ ys) ≡ first_or (first_cell search xs) (first_cell search ys)
first_append search [] ys = refl
first_append search (x ∷ xs) ys = by_test (is_sought search x) (first_append search xs ys) where
  by_test : (b : Bool) → first_cell search (xs ++ ys) ≡ first_or (first_cell search xs) (first_cell search ys)
      → cond b (Some x.0) (first_cell search (xs ++ ys)) ≡ first_or (cond b (Some x.0) (first_cell search xs)) (first_cell search ys)
  by_test true rest = refl
  by_test false rest = rest

own_page : (search : Search) (p : Position) (number : ℕ) → page_of p.0 ≡ number → in_range search p ≡ true → in_pages search number ≡ true
own_page search p number own is =
    let parts = and_parts (is_le (position_cmp (search.row, search.column) p)) (not (is_le (position_cmp (search.end_row, 0) p))) is in
    let from = le_up_to (search.row, search.column) p parts.0 in
    let before : p.0 < search.end_row = above (nat_le search.end_row p.0) refl (not_is _ parts.1) in
    and_true _ _ (number_le (page_of search.row) number (omega (arith, from.row, own)))
    (ap not (number_not_le (page_of search.end_row + 1) number (omega (arith, before, own)))) where
      above : (b : Bool) → nat_le search.end_row p.0 ≡ b → is_le (position_cmp (search.end_row, 0) p) ≡ false → p.0 < search.end_row
      above true e out =
          let le : search.end_row ≤ p.0 = leb-true search.end_row p.0 e in
          absurd (true≢false (sym (up_to_le (search.end_row, 0) p (record { row = le; column = λ _. omega arith })) ∙ out))
      above false e out = let lt : p.0 < search.end_row = leb-false search.end_row p.0 e in lt

outside : (search : Search) (number : ℕ) (slots : List (Position × Slot)) → in_pages search number ≡ false → AllOfPage number slots → first_cell search (cells_of_slots slots) ≡ None
outside search number [] apart own = refl
outside search number (slot ∷ slots) apart own = by_slot slot.1 (outside search number slots apart own.2) where
  unsought : in_range search slot.0 ≡ false
  unsought = not_true (in_range search slot.0) (λ is. true≢false (sym (own_page search slot.0 number own.0 is) ∙ apart))

  by_slot : (s : Slot) → first_cell search (cells_of_slots slots) ≡ None → first_cell search (with_slot slot.0 s (cells_of_slots slots)) ≡ None
  by_slot None rest = rest
  by_slot (Some value) rest = ap (λ b. cond (b && is_wanted search slot.0 (Some value)) (Some slot.0) (first_cell search (cells_of_slots slots))) unsought ∙ rest

pages_same : (search : Search) (pages : List (ℕ × Page)) → AllPages pages → first_in_pages search pages ≡ first_cell search (cells_of_pages pages)
pages_same search [] each = refl
pages_same search (page ∷ pages) each =
    by_range (in_pages search page.0) refl (pages_same search pages each.1) ∙ sym (first_append search (cells_of_slots page.1.entries) (cells_of_pages pages)) where
      by_range : (b : Bool) → in_pages search page.0 ≡ b → first_among_pages search (pages_between search pages) ≡ first_cell search (cells_of_pages pages)
          → first_among_pages search (cond b (page ∷ pages_between search pages) (pages_between search pages))
          ≡ first_or (first_cell search (cells_of_slots page.1.entries)) (first_cell search (cells_of_pages pages))
      by_range true e rest = ap₂ first_or (page_same search page.1.entries) rest
      by_range false e rest = rest ∙ ap (λ o. first_or o (first_cell search (cells_of_pages pages))) (sym (outside search page.0 page.1.entries e each.0.own))

-- the first of cells in rising order
abbrev IsSought : Search → List (Position × CellValue) → Position → Type 0
IsSought search es p = (value : CellValue) × Among (written_at p value) es × (is_sought search (p, value) ≡ true)

before_among : (p q : Position) (value : CellValue) (es : List (Position × CellValue)) → AllByRecursion (λ r. position_cmp p r ≡ Less) (keys_of es) → Among (written_at q value) es
    → position_cmp p q ≡ Less
before_among p q value [] before among = absurd among
before_among p q value (e ∷ es) before among =
    elim among [
      | inl same ↦ subst (λ r. position_cmp p r ≡ Less) (ap (λ x. x.0) same) before.0
      | inr later ↦ before_among p q value es before.1 later
    ]

up_to_itself : (p q : Position) → p ≡ q → IsUpTo p q
up_to_itself p q e = subst (λ r. IsUpTo p r) e (record { row = omega arith; column = λ _. omega arith })

first_of_rising : (search : Search) (es : List (Position × CellValue)) → IsStrictlySortedBy position_cmp (keys_of es) → IsFirst (IsSought search es) (first_cell search es)
unfolding IsStrictlySortedBy
first_of_rising search [] rising = λ p is. is.1
first_of_rising search (e ∷ es) rising = by_test (is_sought search e) refl (first_cell search es) (first_of_rising search es rising.1) where
  by_test : (b : Bool) → is_sought search e ≡ b → (o : Option Position) → IsFirst (IsSought search es) o → IsFirst (IsSought search (e ∷ es)) (cond b (Some e.0) o)
  by_test true is o rest = (
    (e.1, inl refl, is),
    λ p sought. elim (sought.1) [
      | inl same ↦ up_to_itself e.0 p (ap (λ x. x.0) same)
      | inr later ↦ less_up_to e.0 p (before_among e.0 p sought.0 es rising.0 later)
    ],
  )
  by_test false is None rest = λ p sought. elim (sought.1) [
    | inl same ↦ absurd (true≢false (sym sought.2 ∙ ap (is_sought search) (sym same) ∙ is))
    | inr later ↦ rest p (sought.0, later, sought.2)
  ]
  by_test false is (Some q) rest = (
    (rest.0.0, inr rest.0.1, rest.0.2),
    λ p sought. elim (sought.1) [
      | inl same ↦ absurd (true≢false (sym sought.2 ∙ ap (is_sought search) (sym same) ∙ is))
      | inr later ↦ rest.1 p (sought.0, later, sought.2)
    ],
  )

-- the first cell with a property is the first with another that says the same
pub first_same : (P Q : Position → Type 0) (o : Option Position) → ((p : Position) → P p → Q p) → ((p : Position) → Q p → P p) → IsFirst P o → IsFirst Q o
first_same P Q None to from h = λ p q. h p (from p q)
first_same P Q (Some first) to from h = (to first h.0, λ p q. h.1 p (from p q))

-- among written cells
among_finds : (es xs : List (Position × CellValue)) (p : Position) (value : CellValue) → AllByRecursion (Finds es) xs → Among (written_at p value) xs → Finds es (p, value)
among_finds es [] p value all among = absurd among
among_finds es (x ∷ xs) p value all among =
    elim among [ inl same ↦ subst (Finds es) same all.0 | inr later ↦ among_finds es xs p value all.1 later ]

found_sought : (pages : List (ℕ × Page)) (search : Search) → ArePages pages → (p : Position) → IsFound (kept_content [] pages) search p → IsSought search (cells_of_pages pages) p
found_sought pages search are p is = by_cell (get (kept pages) p) refl where
  by_cell : (o : Option CellValue) → get (kept pages) p ≡ o → IsSought search (cells_of_pages pages) p
  by_cell None none = absurd (true≢false (ap (λ o. is_empty (unwrap_or o (value_of_field []))) (sym none) ∙ is.filled))
  by_cell (Some value) some =
      let filled : is_empty value ≡ false = ap (λ o. is_empty (unwrap_or o (value_of_field []))) (sym some) ∙ is.filled in
      let above : is_le (position_cmp (search.end_row, 0) p) ≡ false =
      not_true _ (λ le. let past = le_up_to (search.end_row, 0) p le in absurd (omega (arith, past.row, is.above_end))) in (
        value,
        subst (λ es. Among (written_at p value) es) (entries_kept pages are) (found_among p value (entries (kept pages)) (sym (get-entries (kept pages) p) ∙ some)),
        and_true _ _ (and_true _ _ (up_to_le (search.row, search.column) p is.from) (ap not above))
            (and_true _ _ (ap not filled) (and_true _ _ (le-leb search.left p.1 is.behind_left) (lt-ltb p.1 search.end_column is.before_end))),
      )

sought_found : (pages : List (ℕ × Page)) (search : Search) → ArePages pages → (p : Position) → IsSought search (cells_of_pages pages) p → IsFound (kept_content [] pages) search p
sought_found pages search are p sought =
    let value = sought.0 in
    let range = and_parts (in_range search p) (is_wanted search p (Some value)) sought.2 in
    let ends = and_parts (is_le (position_cmp (search.row, search.column) p)) (not (is_le (position_cmp (search.end_row, 0) p))) range.0 in
    let wanted = and_parts (not (is_empty value)) (nat_le search.left p.1 && nat_lt p.1 search.end_column) range.1 in
    let columns = and_parts (nat_le search.left p.1) (nat_lt p.1 search.end_column) wanted.1 in
    let finds : Finds (entries (kept pages)) (p, value) =
    among_finds (entries (kept pages)) (entries (kept pages)) p value (finds_own (entries (kept pages)) (entries_sorted (kept pages)))
    (subst (λ es. Among (written_at p value) es) (sym (entries_kept pages are)) sought.1) in
    record {
      from = le_up_to (search.row, search.column) p ends.0;
      above_end = above (nat_le search.end_row p.0) refl (not_is _ ends.1);
      behind_left = leb-true search.left p.1 columns.0;
      before_end = ltb-true p.1 search.end_column columns.1;
      filled = ap (λ o. is_empty (unwrap_or o (value_of_field []))) (get-entries (kept pages) p ∙ finds) ∙ not_is (is_empty value) wanted.0;
    } where
      above : (b : Bool) → nat_le search.end_row p.0 ≡ b → is_le (position_cmp (search.end_row, 0) p) ≡ false → p.0 < search.end_row
      above true e out =
          let le : search.end_row ≤ p.0 = leb-true search.end_row p.0 e in
          absurd (true≢false (sym (up_to_le (search.end_row, 0) p (record { row = le; column = λ _. omega arith })) ∙ out))
      above false e out = let lt : p.0 < search.end_row = leb-false search.end_row p.0 e in lt

pub first_written_is : (pages : List (ℕ × Page)) (search : Search) (o : Option Position) → ArePages pages → o ≡ first_in_pages search pages → IsFirst (IsFound (kept_content [] pages) search) o
first_written_is pages search o are is =
    first_same (IsSought search (cells_of_pages pages)) (IsFound (kept_content [] pages) search) o (sought_found pages search are) (found_sought pages search are)
    (subst (IsFirst (IsSought search (cells_of_pages pages))) (sym (is ∙ pages_same search pages are.each)) (first_of_rising search (cells_of_pages pages) (rising_pages pages are)))

-- a field without units is Empty
empty_field : (text : List ℕ) → (length text == 0) ≡ is_empty (value_of_field text)
empty_field [] = refl
empty_field (unit ∷ units) = ne_eqb (suc (length units)) 0 (λ same. omega (arith, same)) ∙ sym (units_filled (unit ∷ units) refl)

pub field_filled : (s : SheetContent) (p : Position) (text : List ℕ) (b : Bool) → None ≡ get s.cells p → text ≡ field_at s p → b ≡ (length text == 0) → not b ≡ not (is_empty (value_at s p))
field_filled s p text b none same is =
    ap not (is ∙ ap (λ t. length t == 0) same ∙ empty_field (field_at s p) ∙ ap (λ o. is_empty (unwrap_or o (value_of_field (field_at s p)))) none)

-- a cell that has no field
past_end : {A : Type 0} (xs : List A) (i : ℕ) (d : A) → length xs ≤ i → slice_index_or xs i d ≡ d
past_end [] i d h = refl
past_end (x ∷ xs) zero d h = absurd (omega (arith, h))
past_end (x ∷ xs) (suc i) d h = past_end xs i d (omega (arith, h))

abbrev Rows : Type 0
Rows = List (List (List ℕ))

behind_row : (rows : Rows) (pages : List (ℕ × Page)) (p : Position) → length (slice_index_or rows (p.0 - 1) []) < p.1 → value_at (kept_content rows pages) p ≡ value_at (kept_content [] pages) p
behind_row rows pages p h = ap (λ text. unwrap_or (get (kept pages) p) (value_of_field text)) (past_end (slice_index_or rows (p.0 - 1) []) (p.1 - 1) [] (omega (arith, h)))

behind_rows : (rows : Rows) (pages : List (ℕ × Page)) (p : Position) → length rows < p.0 → value_at (kept_content rows pages) p ≡ value_at (kept_content [] pages) p
behind_rows rows pages p h =
    ap (λ (row : List (List ℕ)). unwrap_or (get (kept pages) p) (value_of_field (slice_index_or row (p.1 - 1) []))) (past_end rows (p.0 - 1) [] (omega (arith, h)))

found_with : (s s' : SheetContent) (search : Search) (p : Position) → value_at s p ≡ value_at s' p → IsFound s search p → IsFound s' search p
found_with s s' search p same is = record {
  from = is.from;
  above_end = is.above_end;
  behind_left = is.behind_left;
  before_end = is.before_end;
  filled = ap is_empty (sym same) ∙ is.filled;
}

-- the same cell, with another end of the rows
found_above : (s : SheetContent) (search : Search) (end : ℕ) (p : Position) → p.0 < end → IsFound s search p → IsFound s (before_row search end) p
found_above s search end p lt is = record { from = is.from; above_end = lt; behind_left = is.behind_left; before_end = is.before_end; filled = is.filled }

found_below : (s : SheetContent) (search : Search) (end : ℕ) (p : Position) → p.0 < search.end_row → IsFound s (before_row search end) p → IsFound s search p
found_below s search end p lt is = record { from = is.from; above_end = lt; behind_left = is.behind_left; before_end = is.before_end; filled = is.filled }

-- the first column of a row
pub not_false : (b : Bool) → not b ≡ false → b ≡ true
not_false true h = refl
not_false false h = absurd (true≢false h)

pub is_true : (b c : Bool) → b ≡ not c → b ≡ true → c ≡ false
is_true b c e h = not_is c (sym e ∙ h)

pub is_false : (b c : Bool) → b ≡ not c → b ≡ false → c ≡ true
is_false b c e h = not_false c (sym e ∙ h)

same_row : (s : SheetContent) (p : Position) (row : ℕ) → p.0 ≡ row → is_empty (value_at s p) ≡ is_empty (value_at s (row, p.1))
same_row s p row e = ap (λ r. is_empty (value_at s (r, p.1))) e

pub row_some : (s : SheetContent) (sought : Search) (from end column : ℕ) → from ≡ max sought.left sought.column → end ≤ sought.end_column
    → IsFirstColumn s sought.row from end (Some column) → IsFirst (IsFound s (before_row sought (sought.row + 1))) (Some (sought.row, column))
row_some s sought from end column from_is end_is first = (
  record {
    from = record { row = omega arith; column = λ _. omega (arith, from_is, first.0) };
    above_end = omega arith;
    behind_left = omega (arith, from_is, first.0);
    before_end = omega (arith, end_is, first.1);
    filled = first.2;
  },
  λ p is.
      let row : p.0 ≡ sought.row = (let low = is.from.row in omega (arith, low, is.above_end)) in
      record {
        row = is.from.row;
        column = λ _. elim (cases_Bool (nat_lt p.1 column)) [
          | inl before ↦
              let lt : p.1 < column = ltb-true p.1 column before in
              let right = is.from.column (sym row) in
              let low : from ≤ p.1 = omega (arith, from_is, right, is.behind_left) in
              absurd (true≢false (sym (first.3 p.1 lt low) ∙ sym (same_row s p sought.row row) ∙ is.filled))
          | inr behind ↦ ltb-false p.1 column behind
        ];
      },
)

-- the rest of a row behind its fields
abbrev pub behind_fields : Search → ℕ → ℕ → Search
behind_fields sought from fields = record sought { column = max from fields; end_row = sought.row + 1 }

pub row_none : (rows : Rows) (pages : List (ℕ × Page)) (sought : Search) (from fields end : ℕ) (o : Option Position) → from ≡ max sought.left sought.column
    → fields ≡ min (length (slice_index_or rows (sought.row - 1) [])) 16384 + 1 → end ≡ min fields sought.end_column → sought.end_column ≤ 16385
    → IsFirstColumn (kept_content rows pages) sought.row from end None
    → IsFirst (IsFound (kept_content [] pages) (behind_fields sought from fields)) o
    → IsFirst (IsFound (kept_content rows pages) (before_row sought (sought.row + 1))) o
row_none rows pages sought from fields end o from_is fields_is end_is wide none =
    first_same (IsFound (kept_content [] pages) (behind_fields sought from fields)) (IsFound (kept_content rows pages) (before_row sought (sought.row + 1))) o to of where
      to : (p : Position) → IsFound (kept_content [] pages) (behind_fields sought from fields) p → IsFound (kept_content rows pages) (before_row sought (sought.row + 1)) p
      to p is =
          let row : p.0 ≡ sought.row = (let low = is.from.row in omega (arith, low, is.above_end)) in
          let right = is.from.column (sym row) in
          let fields_row : length (slice_index_or rows (p.0 - 1) []) ≡ length (slice_index_or rows (sought.row - 1) []) = ap (λ r. length (slice_index_or rows (r - 1) [])) row in
          record {
            from = record { row = is.from.row; column = λ _. omega (arith, right, from_is) };
            above_end = is.above_end;
            behind_left = is.behind_left;
            before_end = is.before_end;
            filled = ap is_empty (behind_row rows pages p (omega (arith, right, fields_is, wide, fields_row, is.before_end))) ∙ is.filled;
          }

      of : (p : Position) → IsFound (kept_content rows pages) (before_row sought (sought.row + 1)) p → IsFound (kept_content [] pages) (behind_fields sought from fields) p
      of p is =
          let row : p.0 ≡ sought.row = (let low = is.from.row in omega (arith, low, is.above_end)) in
          let right = is.from.column (sym row) in
          let low : from ≤ p.1 = omega (arith, from_is, right, is.behind_left) in
          let behind : end ≤ p.1 = elim (cases_Bool (nat_lt p.1 end)) [
            | inl before ↦ absurd (true≢false (sym (none p.1 (ltb-true p.1 end before) low) ∙ sym (same_row (kept_content rows pages) p sought.row row) ∙ is.filled))
            | inr behind ↦ ltb-false p.1 end behind
          ] in
          let fields_row : length (slice_index_or rows (p.0 - 1) []) ≡ length (slice_index_or rows (sought.row - 1) []) = ap (λ r. length (slice_index_or rows (r - 1) [])) row in
          record {
            from = record { row = is.from.row; column = λ _. omega (arith, low, behind, end_is, is.before_end) };
            above_end = is.above_end;
            behind_left = is.behind_left;
            before_end = is.before_end;
            filled = ap is_empty (sym (behind_row rows pages p (omega (arith, behind, end_is, fields_is, wide, fields_row, is.before_end)))) ∙ is.filled;
          }

-- row after row: where one has the first cell, and where it has none
pub rows_some : (s : SheetContent) (sought part : Search) (row end : ℕ) (q : Position) → ((p : Position) → IsFound s (before_row sought end) p → row ≤ p.0) → row < end → end ≤ sought.end_row
    → part.row ≡ row → part.end_row ≡ sought.end_row → ((p : Position) → row ≤ p.0 → IsFound s sought p → IsFound s part p) → ((p : Position) → IsFound s part p → IsFound s sought p)
    → IsFirst (IsFound s (before_row part (part.row + 1))) (Some q) → IsFirst (IsFound s (before_row sought end)) (Some q)
rows_some s sought part row end q reached before inside row_is end_is to of first =
    let own = first.0 in (
      found_above s sought end q (omega (arith, own.above_end, row_is, before)) (of q (found_below s part (part.row + 1) q (omega (arith, own.above_end, row_is, before, inside, end_is)) own)),
      λ p is. elim (cases_Bool (nat_lt row p.0)) [
        | inl later ↦
            let lt : row < p.0 = ltb-true row p.0 later in
            let gap : q.0 < p.0 = omega (arith, lt, row_is, own.above_end) in
            record { row = omega (arith, gap); column = λ same. absurd (omega (arith, gap, same)) }
        | inr here ↦
            let le : p.0 ≤ row = ltb-false row p.0 here in
            first.1 p (found_above s part (part.row + 1) p (omega (arith, le, row_is))
            (to p (reached p is) (found_below s sought end p (omega (arith, is.above_end, inside)) is)))
      ],
    )

pub rows_none : (s : SheetContent) (sought part : Search) (row end : ℕ) → ((p : Position) → IsFound s (before_row sought end) p → row ≤ p.0) → end ≤ sought.end_row
    → part.row ≡ row → ((p : Position) → row ≤ p.0 → IsFound s sought p → IsFound s part p)
    → IsFirst (IsFound s (before_row part (part.row + 1))) None → (p : Position) → IsFound s (before_row sought end) p → row + 1 ≤ p.0
rows_none s sought part row end reached inside row_is to none p is = elim (cases_Bool (nat_lt row p.0)) [
  | inl later ↦ let lt : row < p.0 = ltb-true row p.0 later in omega (arith, lt)
  | inr here ↦
      let le : p.0 ≤ row = ltb-false row p.0 here in
      absurd (none p (found_above s part (part.row + 1) p (omega (arith, le, row_is)) (to p (reached p is) (found_below s sought end p (omega (arith, is.above_end, inside)) is))))
]

-- the rows that were read, and those behind them
pub filled_some : (s : SheetContent) (sought : Search) (end : ℕ) (q : Position) → end ≤ sought.end_row → IsFirst (IsFound s (before_row sought end)) (Some q) → IsFirst (IsFound s sought) (Some q)
filled_some s sought end q inside first =
    let own = first.0 in (
      found_below s sought end q (omega (arith, own.above_end, inside)) own,
      λ p is. elim (cases_Bool (nat_lt p.0 end)) [
        | inl before ↦ first.1 p (found_above s sought end p (ltb-true p.0 end before) is)
        | inr behind ↦
            let le : end ≤ p.0 = ltb-false p.0 end behind in
            let gap : q.0 < p.0 = omega (arith, le, own.above_end) in
            record { row = omega (arith, gap); column = λ same. absurd (omega (arith, gap, same)) }
      ],
    )

pub filled_none : (rows : Rows) (pages : List (ℕ × Page)) (sought rest : Search) (end : ℕ) (o : Option Position) → end ≡ min (min (length rows) 1048576 + 1) sought.end_row
    → sought.end_row ≤ 1048577 → rest.row ≡ max end sought.row → rest.end_row ≡ sought.end_row
    → ((s : SheetContent) (p : Position) → end ≤ p.0 → IsFound s sought p → IsFound s rest p) → ((s : SheetContent) (p : Position) → IsFound s rest p → IsFound s sought p)
    → IsFirst (IsFound (kept_content rows pages) (before_row sought end)) None → IsFirst (IsFound (kept_content [] pages) rest) o → IsFirst (IsFound (kept_content rows pages) sought) o
filled_none rows pages sought rest end o end_is inside row_is end_row_is part whole none =
    first_same (IsFound (kept_content [] pages) rest) (IsFound (kept_content rows pages) sought) o to of where
      to : (p : Position) → IsFound (kept_content [] pages) rest p → IsFound (kept_content rows pages) sought p
      to p is =
          let low = is.from.row in
          whole (kept_content rows pages) p (found_with (kept_content [] pages) (kept_content rows pages) rest p
          (sym (behind_rows rows pages p (omega (arith, low, row_is, end_is, inside, end_row_is, is.above_end)))) is)

      of : (p : Position) → IsFound (kept_content rows pages) sought p → IsFound (kept_content [] pages) rest p
      of p is =
          let behind : end ≤ p.0 = elim (cases_Bool (nat_lt p.0 end)) [
            | inl before ↦ absurd (none p (found_above (kept_content rows pages) sought end p (ltb-true p.0 end before) is))
            | inr behind ↦ ltb-false p.0 end behind
          ] in
          found_with (kept_content rows pages) (kept_content [] pages) rest p (behind_rows rows pages p (omega (arith, behind, end_is, inside, is.above_end)))
          (part (kept_content rows pages) p behind is)
