-- Characters and their codes: 16-bit units, and Windows-1252.
use Rattle.std.specs.Prelude.{ℕ, ◌+◌, ◌%◌, ◌==◌, nat_lt, nat_le, Bool, ◌&&◌, ◌||◌, ℤ, pos, negsuc, List, [], ◌∷◌, Option, Some, None, Result, Ok, Err, if◌then◌else◌}
use Rattle.std.specs.Int.{w16, cast_signed, cast_unsigned}
use Rattle.std.specs.List.{position}
use Rattle.vba_base.specs.Answer.{◌>>=◌}
use Rattle.vba_base.specs.Decode.{windows_1252, windows_1252_from_80}
use Rattle.vba_values.specs.declared.fault.Bad.{Bad}
use Rattle.vba_values.specs.declared.types.WholeKind.TheVariants as kind
use Rattle.vba_values.specs.Coerce.{text_of}
use Rattle.vba_values.specs.Val.{Val, empty, whole, text}
use Rattle.vba_lib.specs.Arguments.{invalid_call, long_of}
use Rattle.vba_lib.specs.Texts.{repeated}

-- a text of one unit
abbrev pub one_unit : ℕ → Val
one_unit unit = text (unit ∷ [])

-- ChrW: the unit of a number from -32768 to 65535; the negative ones are the units from 32768 on
abbrev pub is_unit_number : ℤ → Bool
is_unit_number (pos n) = nat_lt n 65536
is_unit_number (negsuc n) = nat_lt n 32768

abbrev pub chr_w : Val → Result Val Bad
chr_w value =
    long_of value >>= λ number. if is_unit_number number then Ok (one_unit (cast_unsigned w16 number)) else Err invalid_call

-- the first unit of a text
abbrev pub first_unit : List ℕ → Result ℕ Bad
first_unit [] = Err invalid_call
first_unit (unit ∷ units) = Ok unit

-- AscW: the number of the first unit as an Integer, so the units from 32768 on are negative
abbrev pub asc_w : Val → Result Val Bad
asc_w value = text_of value >>= λ units. first_unit units >>= λ unit. Ok (whole kind.Integer (cast_signed w16 unit))

-- Chr: the character of a code from 0 to 255 in Windows-1252
abbrev pub character_of : ℤ → Result Val Bad
character_of (pos code) = if nat_lt code 256 then Ok (one_unit (windows_1252 code)) else Err invalid_call
character_of (negsuc code) = Err invalid_call

abbrev pub chr : Val → Result Val Bad
chr value = long_of value >>= λ code. character_of code

-- the code of a unit in Windows-1252, and 63, which is that of a question mark, where it has none
abbrev pub code_from_80 : Option ℕ → ℕ
code_from_80 None = 63
code_from_80 (Some place) = 0x80 + place

unfoldable pub place_from_80 : ℕ → Option ℕ
place_from_80 unit = position (λ character. character == unit) windows_1252_from_80

abbrev pub code_of : ℕ → ℕ
code_of unit =
    if nat_lt unit 0x80 || (nat_le 0xA0 unit && nat_lt unit 0x100) then unit
    else code_from_80 (place_from_80 unit)

-- Asc: the code of the first unit
abbrev pub asc : Val → Result Val Bad
asc value = text_of value >>= λ units. first_unit units >>= λ unit. Ok (whole kind.Integer (pos (code_of unit)))

-- the unit of String: the first one of a text, or the character of a number's last eight bits
abbrev pub unit_of_code : ℤ → Result ℕ Bad
unit_of_code (pos code) = Ok (windows_1252 (code % 256))
unit_of_code (negsuc code) = Err invalid_call

abbrev pub unit_of : Val → Result ℕ Bad
unit_of empty = Err invalid_call
unit_of (text units) = first_unit units
unit_of value = long_of value >>= λ code. unit_of_code code

-- String: so many times one unit
abbrev pub repeated_unit : ℤ → Val → Result Val Bad
repeated_unit (pos count) value = unit_of value >>= λ unit. repeated count unit
repeated_unit (negsuc count) value = Err invalid_call

abbrev pub string : Val → Val → Result Val Bad
string count value = long_of count >>= λ number. repeated_unit number value
