-- What the loops over slots and fields sum up.
use Rattle.std.proofs.Common.{◌≡◌, ℕ, zero, suc, ◌<◌, Bool, true, false, cond, List, [], ◌∷◌, ◌++◌, map, Option, Some, None, refl, sym, ap, subst, ◌∙◌, arith}
use Rattle.std.specs.Prelude.{◌&&◌, not, max, fold, filter, is_none, ◌==◌}
use Rattle.std.specs.FinMap.{get}
use Rattle.std.specs.Map.{keys_of, lookup}
use Rattle.std.specs.List.{AllByRecursion}
use Rattle.std.specs.List.Sorted.{IsStrictlySortedBy}
use Rattle.std.specs.BTreeMap.{is_at}
use Rattle.std.proofs.lemmas.Map.Keys.{sorted_head, sorted_tail}
use Rattle.sheet_host.proofs.Positions.{at_number, number_at, number_less}
use Rattle.std.specs.Ordering.{is_eq, is_le, ordering_then, nat_cmp}
use Rattle.std.specs.declared.cmp.Ordering.{Ordering}
use Rattle.std.specs.declared.cmp.Ordering.TheVariants.{Less, Equal, Greater}
use Rattle.std.specs.declared.ops.Bound.TheVariants.{Included, Excluded}
use Rattle.std.specs.BTreeMap.Range.{entries_between}
use Rattle.std.specs.Cmp.{nat_cmp_is, ranked}
use Rattle.std.proofs.lemmas.List.Sums.{fold-append}
use Rattle.std.proofs.lemmas.List.Elements.{filter-append}
use Rattle.std.proofs.lemmas.List.{map-append, append-nil}
use Rattle.std.proofs.lemmas.Bool.{eq-eqb, ne_eqb}
use mathlib.Core.Bool.{true≢false}
use Rattle.sheet_host.specs.declared.cell.CellValue.{CellValue}
use Rattle.sheet_host.specs.declared.used.Corners.{Corners}
use Rattle.sheet_host.specs.Field.{field_of_cell, has_units, is_empty}
use Rattle.sheet_host.specs.Pages.{Slot, Page, page_of, with_slot, cells_of_slots, cells_of_pages, later, later_row, later_column, later_row_of_page, widened_by, widened_by_slot, widened_by_page, AllOfPage, AllPages}
use Rattle.sheet_host.specs.Sheets.{Position, position_cmp, Cells, greatest, rows_of, columns_in, saved_among, filled_cells, filled_fields, widened, widened_by_field}

-- the filled cells of slots
pub widened_slots : (corners : Option Corners) (slots : List (Position × Slot))
    → fold widened_by_slot corners slots ≡ fold widened corners (filled_cells (cells_of_slots slots))
widened_slots corners [] = refl
widened_slots corners (slot ∷ slots) = by_slot slot.0 slot.1 (λ c. widened_slots c slots) where
  by_slot : (p : Position) (s : Slot) → ((c : Option Corners) → fold widened_by_slot c slots ≡ fold widened c (filled_cells (cells_of_slots slots)))
      → fold widened_by_slot (widened_by corners p s) slots ≡ fold widened corners (filled_cells (with_slot p s (cells_of_slots slots)))
  by_slot p None rest = rest corners
  by_slot p (Some value) rest = by_test (is_empty value) where
    by_test : (b : Bool) → fold widened_by_slot (cond b corners (widened corners p)) slots
        ≡ fold widened corners (map (λ e. e.0) (cond (not b) ((p, value) ∷ filter (λ e. not (is_empty e.1)) (cells_of_slots slots)) (filter (λ e. not (is_empty e.1)) (cells_of_slots slots))))
    by_test true = rest corners
    by_test false = rest (widened corners p)

filled_append : (xs ys : List (Position × CellValue)) → filled_cells (xs ++ ys) ≡ filled_cells xs ++ filled_cells ys
filled_append xs ys =
    ap (map (λ e. e.0)) (filter-append (λ e. not (is_empty e.1)) xs ys) ∙ map-append (λ e. e.0) (filter (λ e. not (is_empty e.1)) xs) (filter (λ e. not (is_empty e.1)) ys)

-- the filled cells of pages
pub widened_pages : (corners : Option Corners) (pages : List (ℕ × Page)) → fold widened_by_page corners pages ≡ fold widened corners (filled_cells (cells_of_pages pages))
widened_pages corners [] = refl
widened_pages corners (page ∷ pages) =
    widened_pages (widened_by_page corners page) pages
    ∙ ap (λ c. fold widened c (filled_cells (cells_of_pages pages))) (widened_slots corners page.1.entries)
    ∙ sym (fold-append widened corners (filled_cells (cells_of_slots page.1.entries)) (filled_cells (cells_of_pages pages)))
    ∙ ap (fold widened corners) (sym (filled_append (cells_of_slots page.1.entries) (cells_of_pages pages)))

-- the last row
pub last_rows : (least : ℕ) (slots : List (Position × Slot)) → fold later_row least slots ≡ greatest least (rows_of (saved_among (cells_of_slots slots)))
last_rows least [] = refl
last_rows least (slot ∷ slots) = by_slot slot.0 slot.1 (λ n. last_rows n slots) where
  by_slot : (p : Position) (s : Slot) → ((n : ℕ) → fold later_row n slots ≡ greatest n (rows_of (saved_among (cells_of_slots slots))))
      → fold later_row (later least p.0 s) slots ≡ greatest least (rows_of (saved_among (with_slot p s (cells_of_slots slots))))
  by_slot p None rest = rest least
  by_slot p (Some value) rest = by_test (has_units (field_of_cell value)) where
    by_test : (b : Bool) → fold later_row (cond b (max least p.0) least) slots
        ≡ greatest least (rows_of (map (λ e. e.0) (cond b ((p, value) ∷ filter (λ e. has_units (field_of_cell e.1)) (cells_of_slots slots)) (filter (λ e. has_units (field_of_cell e.1)) (cells_of_slots slots)))))
    by_test true = rest (max least p.0)
    by_test false = rest least

saved_append : (xs ys : List (Position × CellValue)) → saved_among (xs ++ ys) ≡ saved_among xs ++ saved_among ys
saved_append xs ys =
    ap (map (λ e. e.0)) (filter-append (λ e. has_units (field_of_cell e.1)) xs ys)
    ∙ map-append (λ e. e.0) (filter (λ e. has_units (field_of_cell e.1)) xs) (filter (λ e. has_units (field_of_cell e.1)) ys)

pub last_pages : (least : ℕ) (pages : List (ℕ × Page)) → fold later_row_of_page least pages ≡ greatest least (rows_of (saved_among (cells_of_pages pages)))
last_pages least [] = refl
last_pages least (page ∷ pages) =
    last_pages (later_row_of_page least page) pages
    ∙ ap (λ n. greatest n (rows_of (saved_among (cells_of_pages pages)))) (last_rows least page.1.entries)
    ∙ sym (fold-append max least (rows_of (saved_among (cells_of_slots page.1.entries))) (rows_of (saved_among (cells_of_pages pages))))
    ∙ ap (greatest least) (sym (map-append (λ p. p.0) (saved_among (cells_of_slots page.1.entries)) (saved_among (cells_of_pages pages)))
    ∙ ap rows_of (sym (saved_append (cells_of_slots page.1.entries) (cells_of_pages pages))))

-- the slots of a row, as a range of its page has them
from_zero : (n : ℕ) → is_le (nat_cmp 0 n) ≡ true
from_zero zero = refl
from_zero (suc n) = ap is_le (sym (nat_cmp_is 0 (suc n) Less (omega arith)))

past : (n next : ℕ) → n < next → nat_cmp next n ≡ Greater
past n next lt = sym (nat_cmp_is next n Greater lt)

in_range : (o : Ordering) (n next : ℕ) → n < next → (is_le (ordering_then o (nat_cmp 0 n)) && not (is_le (ordering_then o (nat_cmp next n)))) ≡ is_eq o
in_range Less n next lt = refl
in_range Equal n next lt = ap (λ b. b && not (is_le (nat_cmp next n))) (from_zero n) ∙ ap (λ o. not (is_le o)) (past n next lt)
in_range Greater n next lt = refl

same_row : (row r : ℕ) → is_eq (nat_cmp row r) ≡ (r == row)
same_row row r = by_order (nat_cmp row r) refl where
  by_order : (o : Ordering) → nat_cmp row r ≡ o → is_eq o ≡ (r == row)
  by_order Less e = sym (ne_eqb r row (λ same. let less : row < r = ranked row r Less (sym e) in absurd (omega (arith, less, same))))
  by_order Equal e = sym (eq-eqb r row (sym (ranked row r Equal (sym e))))
  by_order Greater e = sym (ne_eqb r row (λ same. let less : r < row = ranked row r Greater (sym e) in absurd (omega (arith, less, same))))

abbrev among_row : ℕ → ℕ → List (Position × Slot) → List (Position × Slot)
among_row row next slots = entries_between position_cmp (Included (row, 0)) (Excluded (row, next)) slots

one_column : (least row : ℕ) (p : Position) (value : CellValue) (between : List (Position × Slot)) (cells : List (Position × CellValue))
    → ((n : ℕ) → fold later_column n between ≡ greatest n (columns_in row (saved_among cells))) → (b saved : Bool)
    → fold later_column (cond b (cond saved (max least p.1) least) least) between
    ≡ greatest least (map (λ q. q.1) (cond saved (cond b (p ∷ filter (λ q. q.0 == row) (saved_among cells)) (filter (λ q. q.0 == row) (saved_among cells))) (filter (λ q. q.0 == row) (saved_among cells))))
one_column least row p value between cells rest true true = rest (max least p.1)
one_column least row p value between cells rest true false = rest least
one_column least row p value between cells rest false true = rest least
one_column least row p value between cells rest false false = rest least

fold_cond : {A B : Type 0} (f : B → A → B) (b : Bool) (a : B) (x : A) (xs : List A) → fold f a (cond b (x ∷ xs) xs) ≡ fold f (cond b (f a x) a) xs
fold_cond f true a x xs = refl
fold_cond f false a x xs = refl

pub picked : (row : ℕ) (p : Position) (value : CellValue) (saved : Bool) (cells : List (Position × CellValue))
    → columns_in row (map (λ e. e.0) (cond saved ((p, value) ∷ cells) cells))
    ≡ map (λ q. q.1) (cond saved (cond (p.0 == row) (p ∷ filter (λ q. q.0 == row) (map (λ e. e.0) cells)) (filter (λ q. q.0 == row) (map (λ e. e.0) cells))) (filter (λ q. q.0 == row) (map (λ e. e.0) cells)))
picked row p value true cells = refl
picked row p value false cells = refl

step_column : (least row : ℕ) (p : Position) (s : Slot) (between : List (Position × Slot)) (cells : List (Position × CellValue))
    → ((n : ℕ) → fold later_column n between ≡ greatest n (columns_in row (saved_among cells)))
    → fold later_column least (cond (p.0 == row) ((p, s) ∷ between) between) ≡ greatest least (columns_in row (saved_among (with_slot p s cells)))
step_column least row p None between cells rest = fold_cond later_column (p.0 == row) least (p, None) between ∙ same_both (p.0 == row) ∙ rest least where
  same_both : (b : Bool) → fold later_column (cond b least least) between ≡ fold later_column least between
  same_both true = refl
  same_both false = refl
step_column least row p (Some value) between cells rest =
    fold_cond later_column (p.0 == row) least (p, Some value) between
    ∙ one_column least row p value between cells rest (p.0 == row) (has_units (field_of_cell value))
    ∙ ap (greatest least) (sym (picked row p value (has_units (field_of_cell value)) (filter (λ e. has_units (field_of_cell e.1)) cells)))

pub last_columns : (least row next number : ℕ) (slots : List (Position × Slot)) → 16384 < next → AllOfPage number slots
    → fold later_column least (among_row row next slots) ≡ greatest least (columns_in row (saved_among (cells_of_slots slots)))
last_columns least row next number [] wide own = refl
last_columns least row next number (slot ∷ slots) wide own =
    let inside = own.1.last_column in
    ap (λ b. fold later_column least (cond b (slot ∷ among_row row next slots) (among_row row next slots)))
    (in_range (nat_cmp row slot.0.0) slot.0.1 next (omega (arith, inside, wide)) ∙ same_row row slot.0.0)
    ∙ step_column least row slot.0 slot.1 (among_row row next slots) (cells_of_slots slots) (λ n. last_columns n row next number slots wide own.2)

-- the fields over which nothing was written
pub widened_fields : (cells : Cells) (corners : Option Corners) (fields : List (Position × List ℕ))
    → fold (widened_by_field cells) corners fields ≡ fold widened corners (filled_fields cells fields)
widened_fields cells corners [] = refl
widened_fields cells corners (field ∷ fields) =
    by_test (has_units field.1 && is_none (get cells field.0)) (λ c. widened_fields cells c fields) where
      by_test : (b : Bool) → ((c : Option Corners) → fold (widened_by_field cells) c fields ≡ fold widened c (filled_fields cells fields))
          → fold (widened_by_field cells) (cond b (widened corners field.0) corners) fields
          ≡ fold widened corners (map (λ e. e.0) (cond b (field ∷ filter (λ e. has_units e.1 && is_none (get cells e.0)) fields) (filter (λ e. has_units e.1 && is_none (get cells e.0)) fields)))
      by_test true rest = rest (widened corners field.0)
      by_test false rest = rest corners

-- the cells of a row stand in its page
columns_append : (row : ℕ) (xs ys : List (Position × CellValue)) → columns_in row (saved_among (xs ++ ys)) ≡ columns_in row (saved_among xs) ++ columns_in row (saved_among ys)
columns_append row xs ys =
    ap (columns_in row) (saved_append xs ys)
    ∙ ap (map (λ p. p.1)) (filter-append (λ p. p.0 == row) (saved_among xs) (saved_among ys))
    ∙ map-append (λ p. p.1) (filter (λ p. p.0 == row) (saved_among xs)) (filter (λ p. p.0 == row) (saved_among ys))

no_columns : (row number : ℕ) (slots : List (Position × Slot)) → (page_of row ≡ number → ⊥) → AllOfPage number slots → columns_in row (saved_among (cells_of_slots slots)) ≡ []
no_columns row number [] apart own = refl
no_columns row number (slot ∷ slots) apart own = by_slot slot.1 (no_columns row number slots apart own.2) where
  other : (slot.0.0 == row) ≡ false
  other = ne_eqb slot.0.0 row (λ same. apart (ap page_of (sym same) ∙ own.0))

  by_slot : (s : Slot) → columns_in row (saved_among (cells_of_slots slots)) ≡ [] → columns_in row (saved_among (with_slot slot.0 s (cells_of_slots slots))) ≡ []
  by_slot None rest = rest
  by_slot (Some value) rest =
      picked row slot.0 value (has_units (field_of_cell value)) (filter (λ e. has_units (field_of_cell e.1)) (cells_of_slots slots))
      ∙ ap (λ b. map (λ q. q.1) (cond (has_units (field_of_cell value)) (cond b (slot.0 ∷ filter (λ q. q.0 == row) (saved_among (cells_of_slots slots))) (filter (λ q. q.0 == row) (saved_among (cells_of_slots slots)))) (filter (λ q. q.0 == row) (saved_among (cells_of_slots slots))))) other
      ∙ same_both (has_units (field_of_cell value)) ∙ rest where
        same_both : (b : Bool) → map (λ q. q.1) (cond b (filter (λ q. q.0 == row) (saved_among (cells_of_slots slots))) (filter (λ q. q.0 == row) (saved_among (cells_of_slots slots)))) ≡ columns_in row (saved_among (cells_of_slots slots))
        same_both true = refl
        same_both false = refl

no_later_columns : (row : ℕ) (pages : List (ℕ × Page)) → AllByRecursion (λ n. nat_cmp (page_of row) n ≡ Less) (keys_of pages) → AllPages pages
    → columns_in row (saved_among (cells_of_pages pages)) ≡ []
no_later_columns row [] less each = refl
no_later_columns row (page ∷ pages) less each =
    columns_append row (cells_of_slots page.1.entries) (cells_of_pages pages)
    ∙ ap (λ cs. cs ++ columns_in row (saved_among (cells_of_pages pages)))
    (no_columns row page.0 page.1.entries (λ same. let below = number_less (page_of row) page.0 less.0 in absurd (omega (arith, same, below))) each.0.own)
    ∙ no_later_columns row pages less.1 each.1

abbrev pub columns_of_page : ℕ → Option Page → List ℕ
columns_of_page row None = []
columns_of_page row (Some page) = columns_in row (saved_among (cells_of_slots page.entries))

pub columns_found : (row : ℕ) (pages : List (ℕ × Page)) → IsStrictlySortedBy nat_cmp (keys_of pages) → AllPages pages
    → columns_in row (saved_among (cells_of_pages pages)) ≡ columns_of_page row (lookup (is_at (nat_cmp (page_of row))) pages)
columns_found row [] sorted each = refl
columns_found row (page ∷ pages) sorted each =
    columns_append row (cells_of_slots page.1.entries) (cells_of_pages pages)
    ∙ by_test (is_at (nat_cmp (page_of row)) page.0) refl (columns_found row pages (sorted_tail nat_cmp page.0 (keys_of pages) sorted) each.1) where
      by_test : (b : Bool) → is_at (nat_cmp (page_of row)) page.0 ≡ b
          → columns_in row (saved_among (cells_of_pages pages)) ≡ columns_of_page row (lookup (is_at (nat_cmp (page_of row))) pages)
          → columns_in row (saved_among (cells_of_slots page.1.entries)) ++ columns_in row (saved_among (cells_of_pages pages))
          ≡ columns_of_page row (cond (is_at (nat_cmp (page_of row)) page.0) (Some page.1) (lookup (is_at (nat_cmp (page_of row))) pages))
      by_test true at rest =
          ap (λ cs. columns_in row (saved_among (cells_of_slots page.1.entries)) ++ cs) (no_later_columns row pages
          (subst (λ n. AllByRecursion (λ m. nat_cmp n m ≡ Less) (keys_of pages)) (sym (at_number (page_of row) page.0 at)) (sorted_head nat_cmp page.0 (keys_of pages) sorted)) each.1)
          ∙ append-nil (columns_in row (saved_among (cells_of_slots page.1.entries)))
          ∙ ap (λ b. columns_of_page row (cond b (Some page.1) (lookup (is_at (nat_cmp (page_of row))) pages))) (sym at)
      by_test false at rest =
          ap (λ cs. cs ++ columns_in row (saved_among (cells_of_pages pages))) (no_columns row page.0 page.1.entries (λ same. true≢false (sym (number_at (page_of row) page.0 same) ∙ at)) each.0.own)
          ∙ rest
          ∙ ap (λ b. columns_of_page row (cond b (Some page.1) (lookup (is_at (nat_cmp (page_of row))) pages))) (sym at)
