-- Sheets that rows and fields are added to.
use Rattle.std.proofs.Common.{◌≡◌, ℕ, ◌+◌, ◌-◌, List, [], ◌∷◌, ◌++◌, length, get_or, set, Result, Ok, Err, refl, sym, ap, ap₂, ◌∙◌, arith, append_assoc, length-append}
use Rattle.std.specs.FinMap.{empty}
use Rattle.std.proofs.Math.Seq.{set-append_seam, get_or-append_seam}
use Rattle.std.proofs.lemmas.List.{append-nil}
use Rattle.vba_base.specs.Answer.{◌>>=◌}
use Rattle.sheet_host.specs.Sheets.{SheetContent, fields_of, with_field}
use Rattle.csv_book.specs.declared.fault.BookFault.{BookFault}
use Rattle.csv_book.specs.Reading.{Fields, Rows, row_of, rows_from, sheet_of_rows, with_last_row}

last_place : (rows : Rows) (row : Fields) → length (rows ++ row ∷ []) - 1 ≡ length rows
last_place rows row = omega (arith, length-append rows (row ∷ []))

pub last_fields : (rows : Rows) (row : Fields) → fields_of (sheet_of_rows (rows ++ row ∷ [])) (length (rows ++ row ∷ [])) ≡ row
last_fields rows row = ap (λ n. get_or (rows ++ row ∷ []) n []) (last_place rows row) ∙ get_or-append_seam rows row [] []

-- a field more in the last row
pub field_added : (rows : Rows) (row : Fields) (text : List ℕ) → with_field (sheet_of_rows (rows ++ row ∷ [])) text ≡ sheet_of_rows (rows ++ (row ++ text ∷ []) ∷ [])
field_added rows row text =
    ap sheet_of_rows (ap₂ (λ n fields. set (rows ++ row ∷ []) n (fields ++ text ∷ [])) (last_place rows row) (last_fields rows row)
    ∙ set-append_seam rows row [] (row ++ text ∷ []))

-- the sheet of these rows and the texts of further records
abbrev pub sheet_after : Rows → Rows → Result SheetContent BookFault
sheet_after rows records = rows_from (length rows + 1) records >>= λ more. Ok (sheet_of_rows (rows ++ more))

pub after_none : (rows : Rows) → sheet_after rows [] ≡ Ok (sheet_of_rows rows)
unfolding rows_from
after_none rows = ap (λ all. Ok (sheet_of_rows all)) (append-nil rows)

-- what goes on behind a row that was added
goes_on : (rows : Rows) (row : Fields) (later : Result Rows BookFault)
    → ((later >>= λ more. Ok (row ∷ more)) >>= λ more. Ok (sheet_of_rows (rows ++ more))) ≡ (later >>= λ more. Ok (sheet_of_rows ((rows ++ row ∷ []) ++ more)))
goes_on rows row (Ok more) = ap (λ all. Ok (sheet_of_rows all)) (sym (append_assoc rows (row ∷ []) more))
goes_on rows row (Err fault) = refl

one_more : (rows : Rows) (row : Fields) → length rows + 1 ≡ length (rows ++ row ∷ [])
one_more rows row = omega (arith, length-append rows (row ∷ []))

after_row : (rows more : Rows) (last : Result Fields BookFault) (sheet : SheetContent) → with_last_row rows last ≡ Ok sheet
    → ((last >>= λ row. rows_from (length rows + 1 + 1) more >>= λ rest. Ok (row ∷ rest)) >>= λ rest. Ok (sheet_of_rows (rows ++ rest))) ≡ sheet_after sheet.rows more
after_row rows more (Ok row) sheet is =
    let same : sheet ≡ sheet_of_rows (rows ++ row ∷ []) = cc is in
    goes_on rows row (rows_from (length rows + 1 + 1) more)
    ∙ ap (λ n. rows_from (n + 1) more >>= λ rest. Ok (sheet_of_rows ((rows ++ row ∷ []) ++ rest))) (one_more rows row)
    ∙ ap (λ s. sheet_after s.rows more) (sym same)
after_row rows more (Err fault) sheet is = cc is

after_fault : (rows more : Rows) (last : Result Fields BookFault) (fault : BookFault) → with_last_row rows last ≡ Err fault
    → ((last >>= λ row. rows_from (length rows + 1 + 1) more >>= λ rest. Ok (row ∷ rest)) >>= λ rest. Ok (sheet_of_rows (rows ++ rest))) ≡ Err fault
after_fault rows more (Ok row) fault is = cc is
after_fault rows more (Err found) fault is = let same : found ≡ fault = cc is in ap Err same

-- a record that is added, or has a fault
pub after_added : (rows more : Rows) (fields : Fields) (sheet : SheetContent) → with_last_row rows (row_of (length rows + 1) fields) ≡ Ok sheet
    → sheet_after rows (fields ∷ more) ≡ sheet_after sheet.rows more
unfolding rows_from
after_added rows more fields sheet is = after_row rows more (row_of (length rows + 1) fields) sheet is

pub after_refused : (rows more : Rows) (fields : Fields) (fault : BookFault) → with_last_row rows (row_of (length rows + 1) fields) ≡ Err fault
    → sheet_after rows (fields ∷ more) ≡ Err fault
unfolding rows_from
after_refused rows more fields fault is = after_fault rows more (row_of (length rows + 1) fields) fault is

-- a row more
pub added : (rows : Rows) (last : Result Fields BookFault) (sheet : SheetContent) → with_last_row rows last ≡ Ok sheet → (sheet.cells ≡ empty) × (length sheet.rows ≡ length rows + 1)
added rows (Ok row) sheet is =
    let same : sheet_of_rows (rows ++ row ∷ []) ≡ sheet = cc is in
    rw (← same) (refl, sym (one_more rows row))
added rows (Err fault) sheet is = cc is
