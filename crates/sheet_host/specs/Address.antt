-- Addresses of areas, as texts.
use Rattle.std.specs.Prelude.{◌≡◌, ℕ, ◌+◌, ◌-◌, ◌*◌, ◌/◌, ◌%◌, min, max, nat_lt, Bool, ◌&&◌, ◌==◌, if◌then◌else◌, List, [], ◌∷◌, ◌++◌, All, fold}
use Rattle.std.specs.Char.{IsAsciiDigit, is_ascii_alphabetic, to_ascii_uppercase}
use Rattle.std.specs.Bool.{IsTrue}
use Rattle.std.specs.Fmt.{decimal}
use Rattle.std.specs.Str.Parse.{digits_value}
use Rattle.sheet_host.specs.declared.area.Area.{Area}
use Rattle.sheet_host.specs.declared.area.SheetId.{SheetId}
use Rattle.sheet_host.specs.declared.corner.Corner.{Corner}
use Rattle.sheet_host.specs.Area.{bottom, right}
use Rattle.sheet_host.specs.Size.{IsInside}

abbrev pub dollar : ℕ
dollar = 36

abbrev pub colon : ℕ
colon = 58

-- a $ or none
abbrev pub dollar_text : Bool → List ℕ
dollar_text written = if written then dollar ∷ [] else []

-- A is 1 and Z is 26, in either case
abbrev pub letter_number : ℕ → ℕ
letter_number letter = to_ascii_uppercase letter - 64

-- the column that letters name: A is 1, Z is 26, AA is 27
abbrev pub column_of : List ℕ → ℕ
column_of letters = fold (λ column letter. column * 26 + letter_number letter) 0 letters

abbrev pub IsLetter : ℕ → Type 0
IsLetter unit = IsTrue (is_ascii_alphabetic unit)

-- a text names a cell of the sheet: letters for its column and digits for its row, each behind a $ or none
pub record NamesCell (text : List ℕ) (corner : Corner) : Type 0 where
  pub column_dollar : Bool
  pub letters : List ℕ
  pub row_dollar : Bool
  pub digits : List ℕ
  pub spelled : text ≡ dollar_text column_dollar ++ (letters ++ (dollar_text row_dollar ++ digits))
  pub are_letters : All IsLetter letters
  pub are_digits : All IsAsciiDigit digits
  pub column : corner.column ≡ column_of letters
  pub row : corner.row ≡ digits_value 10 digits
  pub inside : IsInside corner.row corner.column

-- a text names two cells: one, which counts twice, or two with a colon between them
pub data NamesCells (text : List ℕ) (first last : Corner) : Type 0 where
  one : NamesCell text first → last ≡ first → NamesCells text first last
  two : (before behind : List ℕ) → text ≡ before ++ colon ∷ behind → NamesCell before first → NamesCell behind last → NamesCells text first last

-- the smallest area that holds two cells
abbrev pub area_between : SheetId → Corner → Corner → Area
area_between sheet first last = record {
  sheet = sheet;
  top = min first.row last.row;
  left = min first.column last.column;
  rows = max first.row last.row - min first.row last.row + 1;
  columns = max first.column last.column - min first.column last.column + 1;
}

-- a text is an address of an area
pub record IsAddress (text : List ℕ) (area : Area) : Type 0 where
  pub first : Corner
  pub last : Corner
  pub named : NamesCells text first last
  pub between : area ≡ area_between area.sheet first last

-- the capital letter of one of 26 columns, which repeat
abbrev pub letter : ℕ → ℕ
letter place = 65 + place % 26

-- the letters of a column: one letter for the first 26, two for the next 26 * 26, three for the rest of the sheet
abbrev pub column_letters : ℕ → List ℕ
column_letters column =
    if nat_lt 702 column then letter ((column - 703) / 676) ∷ letter ((column - 27) / 26) ∷ letter (column - 1) ∷ []
    else if nat_lt 26 column then letter ((column - 27) / 26) ∷ letter (column - 1) ∷ []
    else letter (column - 1) ∷ []

-- $, the letters of the column, $, the digits of the row
abbrev pub cell_text : ℕ → ℕ → List ℕ
cell_text row column = dollar ∷ (column_letters column ++ dollar ∷ decimal row)

-- the address of an area as it is written: of its cell, or of its first and last cell with a colon between them
abbrev pub address_of : Area → List ℕ
address_of area =
    if area.rows == 1 && area.columns == 1 then cell_text area.top area.left
    else cell_text area.top area.left ++ colon ∷ cell_text (bottom area) (right area)
