-- A field's text as a value, and a cell's value as a text.
use Rattle.std.specs.Prelude.{ℕ, ◌==◌, ◌&&◌, not, nat_le, Bool, true, false, if◌then◌else◌, ℤ, List, [], ◌∷◌, length, drop, codes, bytes_eq, Result, Ok, Err}
use Rattle.std.specs.Fmt.{signed_decimal}
use Rattle.currency.specs.declared.text.ParseFault.{ParseFault}
use Rattle.currency.specs.NumberText.{point, begins_with_minus, first_digits, behind_digits}
use Rattle.currency.specs.Parsed.{parsed}
use Rattle.currency.specs.Printed.{printed}
use Rattle.vba_values.specs.Whole.{fits_signed}
use Rattle.sheet_host.specs.declared.cell.CellValue.{CellValue}
use Rattle.sheet_host.specs.declared.cell.CellValue.TheVariants as cell

-- the words for the two Booleans in a sheet
abbrev pub field_word : Bool → List ℕ
field_word b = if b then codes "TRUE" else codes "FALSE"

-- a text behind its minus, where it begins with one
abbrev pub behind_minus : List ℕ → List ℕ
behind_minus text = if begins_with_minus text then drop 1 text else text

-- one digit or more, and no zero before others
abbrev pub is_plain : List ℕ → Bool
is_plain [] = false
is_plain (digit ∷ []) = true
is_plain (digit ∷ next ∷ digits) = not (digit == 48)

abbrev pub has_units : List ℕ → Bool
has_units [] = false
has_units (unit ∷ units) = true

-- a point, one to four digits, and nothing more
abbrev pub is_fraction : List ℕ → Bool
is_fraction [] = false
is_fraction (unit ∷ digits) = unit == point && (nat_le 1 (length digits) && (nat_le (length digits) 4 && not (has_units (behind_digits digits))))

-- an optional minus and plain digits
abbrev pub is_whole_field : List ℕ → Bool
is_whole_field text = let number = behind_minus text in is_plain (first_digits number) && not (has_units (behind_digits number))

-- the same, and a point with one to four digits
abbrev pub is_currency_field : List ℕ → Bool
is_currency_field text = let number = behind_minus text in is_plain (first_digits number) && is_fraction (behind_digits number)

-- a whole number as a cell: LongLong only where Long is too small
abbrev pub whole_cell : ℤ → CellValue
whole_cell z = if fits_signed 31 z then cell.Long z else cell.LongLong z

-- a number out of range is text
abbrev pub whole_or_text : List ℕ → Result ℤ ParseFault → CellValue
whole_or_text text (Ok z) = whole_cell z
whole_or_text text (Err fault) = cell.Text text

abbrev pub currency_or_text : List ℕ → Result ℤ ParseFault → CellValue
currency_or_text text (Ok count) = cell.Currency count
currency_or_text text (Err fault) = cell.Text text

-- the value of a field
abbrev pub value_of_field : List ℕ → CellValue
value_of_field text =
    if not (has_units text) then cell.Empty
    else if bytes_eq text (field_word true) then cell.Boolean true
    else if bytes_eq text (field_word false) then cell.Boolean false
    else if is_whole_field text then whole_or_text text (parsed 0 text)
    else if is_currency_field text then currency_or_text text (parsed 4 text)
    else cell.Text text

-- the text that a written cell is saved as
abbrev pub field_of_cell : CellValue → List ℕ
field_of_cell cell.Empty = []
field_of_cell (cell.Boolean b) = field_word b
field_of_cell (cell.Long z) = signed_decimal z
field_of_cell (cell.LongLong z) = signed_decimal z
field_of_cell (cell.Currency count) = printed count
field_of_cell (cell.Text text) = text

abbrev pub is_empty : CellValue → Bool
is_empty cell.Empty = true
is_empty (cell.Boolean b) = false
is_empty (cell.Long z) = false
is_empty (cell.LongLong z) = false
is_empty (cell.Currency count) = false
is_empty (cell.Text text) = false

abbrev pub is_text : CellValue → Bool
is_text cell.Empty = false
is_text (cell.Boolean b) = false
is_text (cell.Long z) = false
is_text (cell.LongLong z) = false
is_text (cell.Currency count) = false
is_text (cell.Text text) = true
