-- The size of a sheet, and what is in it.
use Rattle.std.specs.Prelude.{ℕ, ◌+◌, ◌≤◌, nat_le, ◌&&◌, Bool}
use Rattle.sheet_host.specs.declared.area.Area.{Area}
use Rattle.sheet_host.specs.declared.area.Span.{Span}

abbrev pub sheet_rows : ℕ
sheet_rows = 1048576

abbrev pub sheet_columns : ℕ
sheet_columns = 16384

-- whether a cell is in the sheet
abbrev pub is_inside : ℕ → ℕ → Bool
is_inside row column = (nat_le 1 row && nat_le row sheet_rows) && (nat_le 1 column && nat_le column sheet_columns)

-- the cell is in the sheet
pub record IsInside (row column : ℕ) : Type 0 where
  pub first_row : 1 ≤ row
  pub last_row : row ≤ sheet_rows
  pub first_column : 1 ≤ column
  pub last_column : column ≤ sheet_columns

-- rows or columns, of which there is at least one, all stand between 1 and the last
pub record IsSpanWithin (end : ℕ) (span : Span) : Type 0 where
  pub first : 1 ≤ span.first
  pub some : 1 ≤ span.count
  pub last : span.first + span.count ≤ end + 1

-- the area is in the sheet, and has a cell
pub record IsAreaInside (area : Area) : Type 0 where
  pub first_row : 1 ≤ area.top
  pub some_row : 1 ≤ area.rows
  pub last_row : area.top + area.rows ≤ sheet_rows + 1
  pub first_column : 1 ≤ area.left
  pub some_column : 1 ≤ area.columns
  pub last_column : area.left + area.columns ≤ sheet_columns + 1
