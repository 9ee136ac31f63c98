-- What a sheet file has: rows of texts, or a first row with a fault.
use Rattle.std.specs.Prelude.{ℕ, ◌+◌, List, [], ◌∷◌, ◌++◌, map, flat_map, length, chars, nat_lt, Bool, not, Option, Some, None, Result, Ok, Err, if◌then◌else◌}
use Rattle.std.specs.FinMap.{empty}
use Rattle.std.specs.List.{list_all}
use Rattle.std.specs.Str.{is_utf8}
use Rattle.std.specs.Char.Escape.{encode_utf16}
use Rattle.csv.specs.Reading.{default_config, records, strip_bom}
use Rattle.vba_base.specs.Answer.{◌>>=◌}
use Rattle.sheet_host.specs.Sheets.{SheetContent}
use Rattle.sheet_host.specs.Size.{sheet_columns, sheet_rows}
use Rattle.csv_book.specs.declared.fault.BookFault.{BookFault}
use Rattle.csv_book.specs.declared.fault.BookFault.TheVariants.{NotUtf8, TooManyRows, TooManyColumns}

-- the fields of a row, and the rows of a sheet
abbrev pub Fields : Type 0
Fields = List (List ℕ)

abbrev pub Rows : Type 0
Rows = List Fields

-- the text of bytes that are UTF-8: the units of their characters
abbrev pub text_of_bytes : List ℕ → List ℕ
text_of_bytes bytes = flat_map encode_utf16 (chars bytes)

-- the fault of the row of this number, where it has one: by whether its fields are UTF-8, and how many they are
abbrev pub fault_by : ℕ → Bool → ℕ → Option BookFault
fault_by number utf8 columns =
    if nat_lt sheet_rows number then Some TooManyRows
    else if not utf8 then Some (NotUtf8 number)
    else if nat_lt sheet_columns columns then Some (TooManyColumns number)
    else None

abbrev pub fault_of : ℕ → Fields → Option BookFault
fault_of number fields = fault_by number (list_all is_utf8 fields) (length fields)

-- the value, unless there is a fault
abbrev pub unless : {X : Type 0} → Option BookFault → X → Result X BookFault
unless None x = Ok x
unless (Some fault) x = Err fault

-- the texts of the row of this number
abbrev pub row_of : ℕ → Fields → Result Fields BookFault
row_of number fields = unless (fault_of number fields) (map text_of_bytes fields)

-- the texts of rows, the first of which has this number
unfoldable pub rows_from : ℕ → Rows → Result Rows BookFault
rows_from number [] = Ok []
rows_from number (fields ∷ more) = row_of number fields >>= λ row. rows_from (number + 1) more >>= λ rows. Ok (row ∷ rows)

-- a sheet of these rows, with nothing written to it
abbrev pub sheet_of_rows : Rows → SheetContent
sheet_of_rows rows = record { rows = rows; cells = empty }

-- a sheet of these rows and one more
abbrev pub with_last_row : Rows → Result Fields BookFault → Result SheetContent BookFault
with_last_row rows last = last >>= λ row. Ok (sheet_of_rows (rows ++ row ∷ []))

-- the sheet of a file: the texts of its records, after a byte order mark
abbrev pub sheet_of : List ℕ → Result SheetContent BookFault
sheet_of bytes = rows_from 1 (records default_config (strip_bom bytes)) >>= λ rows. Ok (sheet_of_rows rows)
