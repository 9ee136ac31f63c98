-- Serves the code: a row that is being read, and the sheet that it is read into.
use Rattle.std.specs.Prelude.{◌≡◌, ℕ, ◌+◌, ◌≤◌, List, [], ◌∷◌, ◌++◌, drop, length, map, min, Option, Some, None, true}
use Rattle.std.specs.List.{list_all}
use Rattle.std.specs.Str.{is_utf8}
use Rattle.csv.specs.Machine.{Read}
use Rattle.csv.specs.declared.parser.State.TheVariants as st
use Rattle.sheet_host.specs.Sheets.{SheetContent}
use Rattle.sheet_host.specs.Size.{sheet_columns}
use Rattle.csv_book.specs.Reading.{Fields, Rows, fault_of, sheet_of_rows, text_of_bytes}
use Rattle.csv_book.specs.Scan.{csv_state, without_return}
use Rattle.csv_book.specs.declared.row.Row.{Row}

-- nothing was read of the row
pub record IsUnread (row : Row) : Type 0 where
  pub state : csv_state row.state ≡ st.StartRecord
  pub field : row.field.items ≡ []
  pub columns : row.columns ≡ 0
  pub utf8 : row.is_utf8 ≡ true

-- the sheet has these rows, and behind them the texts of the fields that were read of the next one, unless it has a fault
abbrev pub HasTexts : Rows → Fields → SheetContent → Type 0
HasTexts rows [] sheet = sheet ≡ sheet_of_rows rows
HasTexts rows (field ∷ fields) sheet =
    fault_of (length rows + 1) (field ∷ fields) ≡ None → sheet ≡ sheet_of_rows (rows ++ map text_of_bytes (field ∷ fields) ∷ [])

-- these fields were read of the row behind these
pub record IsCounted (rows : Rows) (fields : Fields) (row : Row) : Type 0 where
  pub number : row.number ≡ length rows + 1
  pub columns : row.columns ≡ min (length fields) (sheet_columns + 1)
  pub utf8 : row.is_utf8 ≡ list_all is_utf8 fields

-- and the sheet has their texts
pub record IsReading (rows : Rows) (fields : Fields) (row : Row) (sheet : SheetContent) : Type 0 where
  pub counted : IsCounted rows fields row
  pub texts : HasTexts rows fields sheet

-- so many bytes were taken for the next row, if there is one
abbrev pub ReadsRow : Rows → List ℕ → Option Read → Option ℕ → Row → SheetContent → Type 0
ReadsRow rows bytes None taken row sheet = (taken ≡ None) × (sheet ≡ sheet_of_rows rows)
ReadsRow rows bytes (Some next) taken row sheet =
    (count : ℕ) × (taken ≡ Some count) × (count ≤ length bytes) × (next.2 ≡ drop count bytes)
    × (without_return next.1 ≡ st.StartRecord) × IsReading rows next.0 row sheet
