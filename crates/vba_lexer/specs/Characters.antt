-- The characters of a text, and where they stand in a source.
use Rattle.std.specs.Prelude.{ℕ, ◌+◌, ◌==◌, ◌<◌, ◌^◌, ◌&&◌, List, [], ◌∷◌, nat_le, slice_index, if◌then◌else◌}
use Rattle.std.specs.Char.Utf16.{is_high_surrogate, is_low_surrogate, surrogate_pair_char}
use Rattle.vba_base.specs.declared.place.Place.{Place}
use Rattle.vba_lexer.specs.declared.cursor.Cursor.{Cursor}

-- the numbers are units: they have 16 bits
abbrev pub AreUnits : List ℕ → Type 0
AreUnits units = (place : ℕ) → slice_index units place < 2 ^ 16

-- the characters that units spell; a surrogate without its partner counts as a character of its own
abbrev pub characters_of : List ℕ → List ℕ
characters_of [] = []
characters_of (unit ∷ []) = unit ∷ []
characters_of (unit ∷ next ∷ text) =
    if is_high_surrogate unit && is_low_surrogate next then surrogate_pair_char unit next ∷ characters_of text
    else unit ∷ characters_of (next ∷ text)

-- how many units a character takes
abbrev pub width : ℕ → ℕ
width character = if nat_le 0x10000 character then 2 else 1

-- how many units characters take
abbrev pub units_of : List ℕ → ℕ
units_of [] = 0
units_of (character ∷ characters) = width character + units_of characters

-- the place behind a character: a line end (LF) begins the next line
abbrev pub behind : Cursor → ℕ → Cursor
behind cursor character =
    if character == 10 then record { units = cursor.units + 1; line = cursor.line + 1; column = 1 }
    else record { units = cursor.units + width character; line = cursor.line; column = cursor.column + width character }

-- the place behind characters
abbrev pub past : Cursor → List ℕ → Cursor
past cursor [] = cursor
past cursor (character ∷ characters) = past (behind cursor character) characters

-- no number of a place grows out of its type over these characters
pub record HasRoom (cursor : Cursor) (characters : List ℕ) : Type 0 where
  pub units : cursor.units + units_of characters < 2 ^ 31
  pub line : cursor.line + units_of characters < 2 ^ 31
  pub column : cursor.column + units_of characters < 2 ^ 31

-- the place in the sources
abbrev pub place_of : ℕ → Cursor → Place
place_of module_number cursor = record { «module» = module_number; line = cursor.line; column = cursor.column }
