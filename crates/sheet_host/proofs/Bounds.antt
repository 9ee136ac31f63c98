-- What lies in the sheet: the rows, columns and corners that loops find.
use Rattle.std.proofs.Common.{ℕ, ◌≤◌, Bool, true, false, cond, List, [], ◌∷◌, ◌++◌, Option, Some, None, sym, subst, arith}
use Rattle.std.specs.Prelude.{max, min, fold, map, filter, ◌==◌}
use Rattle.sheet_host.specs.declared.cell.CellValue.{CellValue}
use Rattle.sheet_host.proofs.Loops.{picked}
use Rattle.sheet_host.specs.declared.used.Corners.{Corners}
use Rattle.sheet_host.specs.Field.{field_of_cell, has_units, is_empty}
use Rattle.sheet_host.specs.Pages.{Slot, Page, with_slot, cells_of_slots, cells_of_pages, later, later_row, later_row_of_page, widened_by, widened_by_slot, widened_by_page, AllOfPage, AllPages}
use Rattle.sheet_host.specs.Sheets.{Position, widened, AreInside, greatest, columns_in, saved_among}
use Rattle.sheet_host.specs.Size.{IsInside}
use Rattle.std.proofs.lemmas.Grind.{common_steps}

max_le : (a b n : ℕ) → a ≤ n → b ≤ n → max a b ≤ n
max_le a b n h k = grind (arith, common_steps)

later_le : (last number n : ℕ) (s : Slot) → last ≤ n → number ≤ n → later last number s ≤ n
later_le last number n None h k = h
later_le last number n (Some value) h k = by_test (has_units (field_of_cell value)) where
  by_test : (b : Bool) → cond b (max last number) last ≤ n
  by_test true = max_le last number n h k
  by_test false = h

pub rows_inside : (last number : ℕ) (slots : List (Position × Slot)) → last ≤ 1048576 → AllOfPage number slots → fold later_row last slots ≤ 1048576
rows_inside last number [] h own = h
rows_inside last number (slot ∷ slots) h own = rows_inside (later_row last slot) number slots (later_le last slot.0.0 1048576 slot.1 h own.1.last_row) own.2

pub all_rows_inside : (last : ℕ) (pages : List (ℕ × Page)) → last ≤ 1048576 → AllPages pages → fold later_row_of_page last pages ≤ 1048576
all_rows_inside last [] h each = h
all_rows_inside last (page ∷ pages) h each = all_rows_inside (later_row_of_page last page) pages (rows_inside last page.0 page.1.entries h each.0.own) each.1

widened_inside : (c : Option Corners) (p : Position) → AreInside c → IsInside p.0 p.1 → AreInside (widened c p)
widened_inside None p h is = record {
  first_row = is.first_row;
  rows = omega arith;
  last_row = is.last_row;
  first_column = is.first_column;
  columns = omega arith;
  last_column = is.last_column;
}
widened_inside (Some c) p h is = record {
  first_row = le_min c.top p.0 h.first_row is.first_row;
  rows = min_max c.top p.0 c.bottom h.rows;
  last_row = max_le c.bottom p.0 1048576 h.last_row is.last_row;
  first_column = le_min c.left p.1 h.first_column is.first_column;
  columns = min_max c.left p.1 c.right h.columns;
  last_column = max_le c.right p.1 16384 h.last_column is.last_column;
} where
  le_min : (a b : ℕ) → 1 ≤ a → 1 ≤ b → 1 ≤ min a b
  le_min a b h k = grind (arith, common_steps)

  min_max : (a b c : ℕ) → a ≤ c → min a b ≤ max c b
  min_max a b c h = grind (arith, common_steps)

pub slots_inside : (c : Option Corners) (number : ℕ) (slots : List (Position × Slot)) → AreInside c → AllOfPage number slots → AreInside (fold widened_by_slot c slots)
slots_inside c number [] h own = h
slots_inside c number (slot ∷ slots) h own = slots_inside (widened_by_slot c slot) number slots (by_slot slot.1) own.2 where
  by_slot : (s : Slot) → AreInside (widened_by c slot.0 s)
  by_slot None = h
  by_slot (Some value) = by_test (is_empty value) where
    by_test : (b : Bool) → AreInside (cond b c (widened c slot.0))
    by_test true = h
    by_test false = widened_inside c slot.0 h own.1

pub pages_inside : (c : Option Corners) (pages : List (ℕ × Page)) → AreInside c → AllPages pages → AreInside (fold widened_by_page c pages)
pages_inside c [] h each = h
pages_inside c (page ∷ pages) h each = pages_inside (widened_by_page c page) pages (slots_inside c page.0 page.1.entries h each.0.own) each.1

-- the columns of written cells
abbrev Low : List (Position × CellValue) → Type 0
Low [] = Unit {0}
Low (cell ∷ cells) = (cell.0.1 ≤ 16384) × Low cells

low_slots : (number : ℕ) (slots : List (Position × Slot)) → AllOfPage number slots → Low (cells_of_slots slots)
low_slots number [] own = tt
low_slots number (slot ∷ slots) own = by_slot slot.1 (low_slots number slots own.2) where
  by_slot : (s : Slot) → Low (cells_of_slots slots) → Low (with_slot slot.0 s (cells_of_slots slots))
  by_slot None rest = rest
  by_slot (Some value) rest = (own.1.last_column, rest)

low_append : (xs ys : List (Position × CellValue)) → Low xs → Low ys → Low (xs ++ ys)
low_append [] ys h k = k
low_append (x ∷ xs) ys h k = (h.0, low_append xs ys h.1 k)

low_pages : (pages : List (ℕ × Page)) → AllPages pages → Low (cells_of_pages pages)
low_pages [] each = tt
low_pages (page ∷ pages) each = low_append (cells_of_slots page.1.entries) (cells_of_pages pages) (low_slots page.0 page.1.entries each.0.own) (low_pages pages each.1)

low_columns : (n row : ℕ) (cells : List (Position × CellValue)) → n ≤ 16384 → Low cells → greatest n (columns_in row (saved_among cells)) ≤ 16384
low_columns n row [] h low = h
low_columns n row (cell ∷ cells) h low =
    subst (λ cs. greatest n cs ≤ 16384) (sym (picked row cell.0 cell.1 (has_units (field_of_cell cell.1)) (filter (λ e. has_units (field_of_cell e.1)) cells)))
    (by_two (has_units (field_of_cell cell.1)) (cell.0.0 == row) (λ m le. low_columns m row cells le low.1)) where
      by_two : (saved b : Bool) → ((m : ℕ) → m ≤ 16384 → greatest m (columns_in row (saved_among cells)) ≤ 16384)
          → greatest n (map (λ q. q.1) (cond saved (cond b (cell.0 ∷ filter (λ q. q.0 == row) (saved_among cells)) (filter (λ q. q.0 == row) (saved_among cells))) (filter (λ q. q.0 == row) (saved_among cells)))) ≤ 16384
      by_two true true rest = rest (max n cell.0.1) (max_le n cell.0.1 16384 h low.0)
      by_two true false rest = rest n h
      by_two false b rest = rest n h

pub columns_inside : (n row : ℕ) (pages : List (ℕ × Page)) → n ≤ 16384 → AllPages pages → greatest n (columns_in row (saved_among (cells_of_pages pages))) ≤ 16384
columns_inside n row pages h each = low_columns n row (cells_of_pages pages) h (low_pages pages each)
