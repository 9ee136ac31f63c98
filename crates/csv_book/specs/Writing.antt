-- The file of a sheet.
use Rattle.std.specs.Prelude.{ℕ, List, ◌∷◌, map, flat_map, Bool, false, nat_eq}
use Rattle.std.specs.List.{range_with_len}
use Rattle.csv.specs.Writing.{default_writer, row_text}
use Rattle.vba_base.specs.Text.{encoded}
use Rattle.sheet_host.specs.Sheets.{SheetContent, saved_fields, saved_rows, text_at}
use Rattle.csv_book.specs.Reading.{Fields, Rows}

-- the texts of a saved row, and of all saved rows
abbrev pub saved_row : SheetContent → ℕ → Fields
saved_row sheet row = map (λ column. text_at sheet (row, column)) (range_with_len 1 (saved_fields sheet row))

abbrev pub saved : SheetContent → Rows
saved sheet = map (saved_row sheet) (range_with_len 1 (saved_rows sheet))

-- the line of a row: its fields in UTF-8, in quotes where they need them, and LF
abbrev pub line_of : Fields → List ℕ
line_of row = row_text default_writer (map encoded row)

-- the lines of rows
abbrev pub text_of_rows : Rows → List ℕ
text_of_rows rows = flat_map line_of rows

-- the file of a sheet
abbrev pub text_of_sheet : SheetContent → List ℕ
text_of_sheet sheet = text_of_rows (saved sheet)

-- whether the first field begins with the unit FEFF, which is dropped from the front of a file
abbrev pub begins_with_mark : Rows → Bool
begins_with_mark (((unit ∷ text) ∷ fields) ∷ rows) = nat_eq unit 0xFEFF
begins_with_mark _ = false
