-- Serves the code: how written cells are kept: in pages of 256 rows, each with slots by rows and columns.
use Rattle.std.specs.Prelude.{◌≡◌, ℕ, max, if◌then◌else◌, ◌-◌, ◌/◌, ◌≤◌, length, fold, List, [], ◌∷◌, ◌++◌, Option, Some, None, is_some, IsTrue}
use Rattle.std.specs.List.Sorted.{IsStrictlySortedBy}
use Rattle.std.specs.Map.{keys_of, lookup, set_value}
use Rattle.std.specs.FinMap.{from_sorted, len}
use Rattle.std.specs.Option.{option_and_then}
use Rattle.std.specs.Ordering.{nat_cmp}
use Rattle.std.specs.BTreeMap.{BTreeMap, is_at}
use Rattle.sheet_host.specs.declared.cell.CellValue.{CellValue}
use Rattle.sheet_host.specs.declared.used.Corners.{Corners}
use Rattle.sheet_host.specs.Field.{field_of_cell, has_units, is_empty}
use Rattle.sheet_host.specs.Sheets.{Position, position_cmp, Cells, widened}
use Rattle.sheet_host.specs.Size.{sheet_rows, sheet_columns, IsInside}

-- a slot has room for a cell, and holds it once it is written
abbrev pub Slot : Type 0
Slot = Option CellValue

abbrev pub Page : Type 0
Page = BTreeMap Position Slot

-- the page of a row
abbrev pub page_of : ℕ → ℕ
page_of row = (row - 1) / 256

-- the slot at a position, before others
abbrev pub with_slot : Position → Slot → List (Position × CellValue) → List (Position × CellValue)
with_slot p None cells = cells
with_slot p (Some value) cells = (p, value) ∷ cells

-- the written cells among slots, and in pages
abbrev pub cells_of_slots : List (Position × Slot) → List (Position × CellValue)
cells_of_slots [] = []
cells_of_slots (slot ∷ slots) = with_slot slot.0 slot.1 (cells_of_slots slots)

abbrev pub cells_of_pages : List (ℕ × Page) → List (Position × CellValue)
cells_of_pages [] = []
cells_of_pages (page ∷ pages) = cells_of_slots page.1.entries ++ cells_of_pages pages

-- the written cells of pages, as a map
abbrev pub kept : List (ℕ × Page) → Cells
kept pages = from_sorted (cells_of_pages pages)

-- the slot at a position
abbrev pub slot_in : List (Position × Slot) → Position → Option Slot
slot_in slots p = lookup (is_at (position_cmp p)) slots

abbrev pub slot_at : List (ℕ × Page) → Position → Option Slot
slot_at pages p = option_and_then (λ page. slot_in page.entries p) (lookup (is_at (nat_cmp (page_of p.0))) pages)

abbrev pub HasSlotIn : List (Position × Slot) → Position → Type 0
HasSlotIn slots p = IsTrue (is_some (slot_in slots p))

abbrev pub KeepsSlotsIn : List (Position × Slot) → List (Position × Slot) → Type 0
KeepsSlotsIn old new = (p : Position) → HasSlotIn old p → HasSlotIn new p

-- the slots with a cell written at a position that has one
abbrev pub slots_with : Position → CellValue → List (Position × Slot) → List (Position × Slot)
slots_with p value slots = set_value (is_at (position_cmp p)) slots (Some value)

-- the later of two rows or columns, if the slot at the second has a cell that is saved as a text with units
abbrev pub later : ℕ → ℕ → Slot → ℕ
later last number None = last
later last number (Some value) = if has_units (field_of_cell value) then max last number else last

-- the corners, moved as little as the cell of a slot wants that isn't Empty
abbrev pub widened_by : Option Corners → Position → Slot → Option Corners
widened_by corners p None = corners
widened_by corners p (Some value) = if is_empty value then corners else widened corners p

abbrev pub widened_by_slot : Option Corners → Position × Slot → Option Corners
widened_by_slot corners slot = widened_by corners slot.0 slot.1

-- the last row of slots, of pages, and the last column of slots, from one on
abbrev pub later_row : ℕ → Position × Slot → ℕ
later_row last slot = later last slot.0.0 slot.1

abbrev pub later_row_of_page : ℕ → ℕ × Page → ℕ
later_row_of_page last page = fold later_row last page.1.entries

abbrev pub later_column : ℕ → Position × Slot → ℕ
later_column last slot = later last slot.0.1 slot.1

-- the corners, moved as little as the cells of a page want that aren't Empty
abbrev pub widened_by_page : Option Corners → ℕ × Page → Option Corners
widened_by_page corners page = fold widened_by_slot corners page.1.entries

-- there is room for a cell
abbrev pub HasSlot : List (ℕ × Page) → Position → Type 0
HasSlot pages p = IsTrue (is_some (slot_at pages p))

-- all room stays
abbrev pub KeepsSlots : List (ℕ × Page) → List (ℕ × Page) → Type 0
KeepsSlots old new = (p : Position) → HasSlot old p → HasSlot new p

-- the slots are in the sheet and in the rows of a page
abbrev pub AllOfPage : ℕ → List (Position × Slot) → Type 0
AllOfPage number [] = Unit {0}
AllOfPage number (slot ∷ slots) = (page_of slot.0.0 ≡ number) × IsInside slot.0.0 slot.0.1 × AllOfPage number slots

-- the slots of a page, in rising order
pub record IsPage (number : ℕ) (slots : List (Position × Slot)) : Type 0 where
  pub rising : IsStrictlySortedBy position_cmp (keys_of slots)
  pub own : AllOfPage number slots

abbrev pub AllPages : List (ℕ × Page) → Type 0
AllPages [] = Unit {0}
AllPages (page ∷ pages) = IsPage page.0 page.1.entries × AllPages pages

-- the pages are in rising order
pub record ArePages (pages : List (ℕ × Page)) : Type 0 where
  pub rising : IsStrictlySortedBy nat_cmp (keys_of pages)
  pub each : AllPages pages

-- each row has as many columns as a sheet at most
abbrev pub AllShort : List (List (List ℕ)) → Type 0
AllShort [] = Unit {0}
AllShort (fields ∷ rows) = (length fields ≤ sheet_columns) × AllShort rows

-- the fields and the pages lie in the sheet, and the count is that of the written cells
pub record IsKept (rows : List (List (List ℕ))) (pages : List (ℕ × Page)) (written : ℕ) : Type 0 where
  pub few : length rows ≤ sheet_rows
  pub short : AllShort rows
  pub paged : ArePages pages
  pub count : written ≡ len (kept pages)
