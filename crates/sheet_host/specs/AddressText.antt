-- Serves the code: addresses, read from the front.
use Rattle.std.specs.Prelude.{ℕ, nat_le, Bool, ◌&&◌, ◌==◌, if◌then◌else◌, List, [], ◌∷◌, drop, take_while, Option, Some, None, Result, Ok, Err}
use Rattle.std.specs.Char.{is_ascii_alphabetic, is_ascii_digit}
use Rattle.std.specs.List.{prefix_len}
use Rattle.std.specs.Str.Parse.{digits_value}
use Rattle.vba_values.specs.declared.fault.Bad.{Bad}
use Rattle.sheet_host.specs.declared.area.Area.{Area}
use Rattle.sheet_host.specs.declared.area.SheetId.{SheetId}
use Rattle.sheet_host.specs.declared.corner.Corner.{Corner}
use Rattle.sheet_host.specs.Area.{host_error}
use Rattle.sheet_host.specs.Size.{sheet_rows, sheet_columns}
use Rattle.sheet_host.specs.Address.{dollar, colon, column_of, area_between}

-- a text without the $ that it begins with
abbrev pub behind_dollar : List ℕ → List ℕ
behind_dollar [] = []
behind_dollar (unit ∷ units) = if unit == dollar then units else unit ∷ units

-- what stands behind the units that a text begins with and that pass
abbrev pub behind : (ℕ → Bool) → List ℕ → List ℕ
behind passes text = drop (prefix_len passes text) text

-- the letters and the digits of the cell that a text begins with, and what stands behind each
abbrev pub first_letters : List ℕ → List ℕ
first_letters text = take_while is_ascii_alphabetic (behind_dollar text)

abbrev pub behind_letters : List ℕ → List ℕ
behind_letters text = behind is_ascii_alphabetic (behind_dollar text)

abbrev pub first_digits : List ℕ → List ℕ
first_digits text = take_while is_ascii_digit (behind_dollar (behind_letters text))

abbrev pub behind_corner : List ℕ → List ℕ
behind_corner text = behind is_ascii_digit (behind_dollar (behind_letters text))

-- a row or column, where the sheet has it
abbrev pub place_up_to : ℕ → ℕ → Option ℕ
place_up_to last place = if nat_le 1 place && nat_le place last then Some place else None

abbrev pub corner_at : Option ℕ → Option ℕ → Option Corner
corner_at (Some row) (Some column) = Some (record { row = row; column = column })
corner_at row column = None

-- the cell that a text begins with, where the sheet has it
abbrev pub corner_of : List ℕ → Option Corner
corner_of text = corner_at
    (place_up_to sheet_rows (digits_value 10 (first_digits text)))
    (place_up_to sheet_columns (column_of (first_letters text)))

-- the area from the first cell to the last, where that is one too
abbrev pub area_to : SheetId → Corner → Option Corner → Result Area Bad
area_to sheet first None = Err host_error
area_to sheet first (Some last) = Ok (area_between sheet first last)

-- what a whole text says
abbrev pub only : {X : Type 0} → Option X → List ℕ → Option X
only found [] = found
only found (unit ∷ units) = None

-- the last cell, from what stands behind the first: the first one where nothing does
abbrev pub last_corner : Corner → List ℕ → Option Corner
last_corner first [] = Some first
last_corner first (unit ∷ units) = if unit == colon then only (corner_of units) (behind_corner units) else None

abbrev pub area_from : SheetId → Option Corner → List ℕ → Result Area Bad
area_from sheet None rest = Err host_error
area_from sheet (Some first) rest = area_to sheet first (last_corner first rest)

-- the area that a text is the address of; 1004 where it is none
abbrev pub area_of_text : SheetId → List ℕ → Result Area Bad
area_of_text sheet text = area_from sheet (corner_of text) (behind_corner text)
