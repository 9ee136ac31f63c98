-- Sheets: the fields as read, and the cells that were written since.
use Rattle.std.specs.Prelude.{◌≡◌, ℕ, zero, suc, if◌then◌else◌, ◌+◌, ◌-◌, ◌/◌, ◌%◌, ◌≤◌, ◌==◌, ◌&&◌, not, min, max, List, [], ◌∷◌, ◌++◌, map, filter, fold, length, slice_index_or, slice_set, Option, Some, None, is_none, option_map, unwrap_or}
use Rattle.std.specs.declared.cmp.Ordering.{Ordering}
use Rattle.std.specs.Ordering.{nat_cmp, ordering_then}
use Rattle.std.specs.FinMap.{FinMap, get, insert, empty, entries}
use Rattle.sheet_host.specs.declared.area.Area.{Area}
use Rattle.sheet_host.specs.declared.area.SheetId.{SheetId}
use Rattle.sheet_host.specs.declared.cell.CellValue.{CellValue}
use Rattle.sheet_host.specs.declared.used.Corners.{Corners}
use Rattle.sheet_host.specs.Size.{sheet_rows, sheet_columns}
use Rattle.sheet_host.specs.Field.{value_of_field, field_of_cell, has_units, is_empty}

-- the row and the column of a cell, counted from 1
abbrev pub Position : Type 0
Position = ℕ × ℕ

-- by rows, and in a row by columns
abbrev pub position_cmp : Position → Position → Ordering
position_cmp p q = ordering_then (nat_cmp p.0 q.0) (nat_cmp p.1 q.1)

-- written cells
abbrev pub Cells : Type 0
Cells = FinMap position_cmp CellValue

-- a sheet: its rows of field texts, and its written cells
pub record SheetContent : Type 0 where
  pub rows : List (List (List ℕ))
  pub cells : Cells

abbrev pub no_content : SheetContent
no_content = record { rows = []; cells = empty }

-- no cell was written
abbrev pub IsUnwritten : SheetContent → Type 0
IsUnwritten s = s.cells ≡ empty

-- the fields of a row; a row that wasn't read has none
abbrev pub fields_of : SheetContent → ℕ → List (List ℕ)
fields_of s row = slice_index_or s.rows (row - 1) []

-- the text of a field; a cell without a field has none
abbrev pub field_at : SheetContent → Position → List ℕ
field_at s p = slice_index_or (fields_of s p.0) (p.1 - 1) []

-- the value of a cell: what was written there, and else its field's
abbrev pub value_at : SheetContent → Position → CellValue
value_at s p = unwrap_or (get s.cells p) (value_of_field (field_at s p))

-- the text that a cell is saved as: that of what was written there, and else its field's
abbrev pub text_at : SheetContent → Position → List ℕ
text_at s p = unwrap_or (option_map field_of_cell (get s.cells p)) (field_at s p)

-- the greatest of these numbers
abbrev pub greatest : ℕ → List ℕ → ℕ
greatest n numbers = fold max n numbers

-- the cells, in order, that are saved as a text with units
abbrev pub saved_among : List (Position × CellValue) → List Position
saved_among cells = map (λ e. e.0) (filter (λ e. has_units (field_of_cell e.1)) cells)

abbrev pub saved_positions : SheetContent → List Position
saved_positions s = saved_among (entries s.cells)

-- the rows of a saved sheet: up to the last one that was read or has such a cell
abbrev pub rows_of : List Position → List ℕ
rows_of positions = map (λ p. p.0) positions

abbrev pub saved_rows : SheetContent → ℕ
saved_rows s = greatest (length s.rows) (rows_of (saved_positions s))

-- the fields of a saved row: up to the last column that was read or has such a cell
abbrev pub columns_in : ℕ → List Position → List ℕ
columns_in row positions = map (λ p. p.1) (filter (λ p. p.0 == row) positions)

abbrev pub saved_fields : SheetContent → ℕ → ℕ
saved_fields s row = greatest (length (fields_of s row)) (columns_in row (saved_positions s))

-- the fields of a row from this column on, and the fields of the rows from this row on, each with its place
abbrev pub placed_fields : ℕ → ℕ → List (List ℕ) → List (Position × List ℕ)
placed_fields row column [] = []
placed_fields row column (text ∷ texts) = ((row, column), text) ∷ placed_fields row (column + 1) texts

abbrev pub placed_rows : ℕ → List (List (List ℕ)) → List (Position × List ℕ)
placed_rows row [] = []
placed_rows row (fields ∷ rows) = placed_fields row 1 fields ++ placed_rows (row + 1) rows

-- the fields with units over which nothing was written
abbrev pub filled_fields : Cells → List (Position × List ℕ) → List Position
filled_fields cells fields = map (λ e. e.0) (filter (λ e. has_units e.1 && is_none (get cells e.0)) fields)

-- the cells that aren't Empty
abbrev pub filled_cells : List (Position × CellValue) → List Position
filled_cells cells = map (λ e. e.0) (filter (λ e. not (is_empty e.1)) cells)

-- the cells of a sheet that aren't Empty: the fields, and then the written ones
abbrev pub filled : SheetContent → List Position
filled s = filled_fields s.cells (placed_rows 1 s.rows) ++ filled_cells (entries s.cells)

-- the corners, moved as little as a cell more wants
abbrev pub widened : Option Corners → Position → Option Corners
widened None p = Some (record { top = p.0; left = p.1; bottom = p.0; right = p.1 })
widened (Some c) p = Some (record { top = min c.top p.0; left = min c.left p.1; bottom = max c.bottom p.0; right = max c.right p.1 })

-- the same, if the field at the position has units and nothing was written over it
abbrev pub widened_by_field : Cells → Option Corners → Position × List ℕ → Option Corners
widened_by_field cells corners field = if has_units field.1 && is_none (get cells field.0) then widened corners field.0 else corners

-- the corners of the smallest area that holds all cells that aren't Empty
abbrev pub used_corners : SheetContent → Option Corners
used_corners s = fold widened None (filled s)

-- the area with these corners, or A1
abbrev pub area_of_corners : SheetId → Option Corners → Area
area_of_corners sheet None = record { sheet = sheet; top = 1; left = 1; rows = 1; columns = 1 }
area_of_corners sheet (Some c) = record { sheet = sheet; top = c.top; left = c.left; rows = c.bottom + 1 - c.top; columns = c.right + 1 - c.left }

-- the corners of an area in the sheet, or none
pub record AreCorners (c : Corners) : Type 0 where
  pub first_row : 1 ≤ c.top
  pub rows : c.top ≤ c.bottom
  pub last_row : c.bottom ≤ sheet_rows
  pub first_column : 1 ≤ c.left
  pub columns : c.left ≤ c.right
  pub last_column : c.right ≤ sheet_columns

abbrev pub AreInside : Option Corners → Type 0
AreInside None = Unit {0}
AreInside (Some c) = AreCorners c

-- the used area: the smallest that holds all cells that aren't Empty, or A1
abbrev pub used_area : SheetId → SheetContent → Area
used_area sheet s = area_of_corners sheet (used_corners s)

-- the i-th cell of an area by rows, counted from 0
abbrev pub nth_cell : Area → ℕ → Position
nth_cell area i = (area.top + i / area.columns, area.left + i % area.columns)

-- the cells with these values written to an area by rows, from its i-th cell on
abbrev pub stored : Cells → Area → ℕ → List CellValue → Cells
stored cells area i [] = cells
stored cells area i (value ∷ values) = stored (insert cells (nth_cell area i) value) area (i + 1) values

-- how many of an area's first n cells aren't written
abbrev pub unwritten : Cells → Area → ℕ → ℕ
unwritten cells area zero = 0
unwritten cells area (suc n) = unwritten cells area n + (if is_none (get cells (nth_cell area n)) then 1 else 0)

-- a sheet with these values written to an area
abbrev pub with_values : SheetContent → Area → List CellValue → SheetContent
with_values s area values = record s { cells = stored s.cells area 0 values }

-- the sheet with a row more
abbrev pub with_row : SheetContent → SheetContent
with_row s = record s { rows = s.rows ++ [] ∷ [] }

-- the sheet with a field more in its last row
abbrev pub with_field : SheetContent → List ℕ → SheetContent
with_field s text = record s { rows = slice_set s.rows (length s.rows - 1) (fields_of s (length s.rows) ++ text ∷ []) }
