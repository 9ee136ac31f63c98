-- A row that is being read, one field more of it.
use Rattle.std.proofs.Common.{◌≡◌, ℕ, ◌+◌, min, Bool, true, false, ◌&&◌, List, [], ◌∷◌, ◌++◌, length, map, None, ◌⊎◌, ◌≢◌, inl, inr, refl, sym, ap, ◌∙◌, arith, length-append}
use Rattle.std.specs.List.{list_all}
use Rattle.std.specs.Option.{is_some}
use Rattle.std.specs.Str.{is_utf8}
use Rattle.std.proofs.lemmas.Bool.Decides.{nat_tests}
use Rattle.std.proofs.lemmas.List.{map-append}
use Rattle.sheet_host.specs.Sheets.{SheetContent, with_field, with_row}
use Rattle.csv_book.specs.Reading.{Fields, Rows, fault_by, fault_of, sheet_of_rows, text_of_bytes}
use Rattle.csv_book.specs.Row.{HasTexts, IsCounted}
use Rattle.csv_book.specs.declared.row.Row.{Row}
use Rattle.csv_book.proofs.Added.{field_added}

and_true : (b : Bool) → (b && true) ≡ b
and_true true = refl
and_true false = refl

and_assoc : (a b c : Bool) → (a && (b && c)) ≡ ((a && b) && c)
and_assoc true b c = refl
and_assoc false b c = refl

-- all items of a list and one more
all_more : (fields : Fields) (field : List ℕ) → list_all is_utf8 (fields ++ field ∷ []) ≡ (list_all is_utf8 fields && is_utf8 field)
all_more [] field = and_true (is_utf8 field)
all_more (first ∷ fields) field = ap (λ b. is_utf8 first && b) (all_more fields field) ∙ and_assoc (is_utf8 first) (list_all is_utf8 fields) (is_utf8 field)

-- the count of columns says as much of the fault as the count of fields
fault_capped : (number n : ℕ) (utf8 : Bool) → fault_by number utf8 (min n 16385) ≡ fault_by number utf8 n
fault_capped number n utf8 = grind (arith, nat_tests)

-- the fault that is known of the row is that of its fields
pub fault_known : (rows : Rows) (fields : Fields) (row : Row) → IsCounted rows fields row
    → fault_by row.number row.is_utf8 row.columns ≡ fault_of (length rows + 1) fields
fault_known rows fields row is =
    ap (λ n. fault_by n row.is_utf8 row.columns) is.number
    ∙ ap (λ u. fault_by (length rows + 1) u row.columns) is.utf8
    ∙ ap (fault_by (length rows + 1) (list_all is_utf8 fields)) is.columns
    ∙ fault_capped (length rows + 1) (length fields) (list_all is_utf8 fields)

-- a row without a fault had none before its last field
none_before : (number : ℕ) (fields : Fields) (field : List ℕ) → fault_of number (fields ++ field ∷ []) ≡ None → fault_of number fields ≡ None
none_before number fields field is = grind (arith, nat_tests, all_more fields field, length-append fields (field ∷ []))

-- the sheet has no more to have where there is a fault
pub texts_refused : (rows : Rows) (fields : Fields) (field : List ℕ) (row : Row) (sheet : SheetContent) → IsCounted rows (fields ++ field ∷ []) row
    → is_some (fault_by row.number row.is_utf8 row.columns) ≡ true → HasTexts rows (fields ++ field ∷ []) sheet
texts_refused rows [] field row sheet is found = λ none. cc (found, fault_known rows (field ∷ []) row is, none)
texts_refused rows (first ∷ fields) field row sheet is found = λ none. cc (found, fault_known rows ((first ∷ fields) ++ field ∷ []) row is, none)

-- where there is none, it has the text of the field: in a new row, if it is the first
pub texts_added : (rows : Rows) (fields : Fields) (field : List ℕ) (row : Row) (sheet last after : SheetContent) → HasTexts rows fields sheet
    → IsCounted rows (fields ++ field ∷ []) row → ((row.columns ≡ 1) × (last ≡ with_row sheet)) ⊎ ((row.columns ≢ 1) × (last ≡ sheet))
    → after ≡ with_field last (text_of_bytes field)
    → HasTexts rows (fields ++ field ∷ []) after
texts_added rows [] field row sheet last after before is (inl first) added = λ none.
    added ∙ ap (λ s. with_field s (text_of_bytes field)) (first.1 ∙ ap with_row before) ∙ field_added rows [] (text_of_bytes field)
texts_added rows [] field row sheet last after before is (inr later) added = absurd (later.0 is.columns)
texts_added rows (one ∷ fields) field row sheet last after before is (inl first) added =
    absurd (omega (arith, first.0, is.columns, length-append fields (field ∷ [])))
texts_added rows (one ∷ fields) field row sheet last after before is (inr later) added = λ none.
    added ∙ ap (λ s. with_field s (text_of_bytes field)) (later.1 ∙ before (none_before (length rows + 1) (one ∷ fields) field none))
    ∙ field_added rows (map text_of_bytes (one ∷ fields)) (text_of_bytes field)
    ∙ ap (λ texts. sheet_of_rows (rows ++ texts ∷ [])) (sym (map-append text_of_bytes (one ∷ fields) (field ∷ [])))

-- one field more is counted
pub counted : (rows : Rows) (fields : Fields) (field : List ℕ) (row after : Row) → IsCounted rows fields row
    → after.number ≡ row.number → after.columns ≡ min (row.columns + 1) 16385 → after.is_utf8 ≡ (row.is_utf8 && is_utf8 field)
    → IsCounted rows (fields ++ field ∷ []) after
counted rows fields field row after is number columns utf8 = record {
  number = number ∙ is.number;
  columns = omega (arith, columns, is.columns, length-append fields (field ∷ []));
  utf8 = utf8 ∙ ap (λ b. b && is_utf8 field) is.utf8 ∙ sym (all_more fields field);
}
