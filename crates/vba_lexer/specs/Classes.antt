-- Classes of characters. A character is a code point; a surrogate without its partner counts as a character of its own.
use Rattle.std.specs.Prelude.{ℕ, Bool, false, List, [], ◌∷◌, ◌==◌, ◌||◌, ◌&&◌, not, nat_le, nat_lt, if◌then◌else◌}
use Rattle.std.specs.List.{list_any}
use Rattle.unicode_ident.specs.Ident.{is_xid_start, is_xid_continue}
use Rattle.vba_lexer.specs.declared.classes.Class.{Class}
use Rattle.vba_lexer.specs.declared.classes.Class.TheVariants.{NameStart, NamePart, Digit, HexadecimalDigit, OctalDigit, ExponentLetter, BracketPart, DatePart, Mark, Exactly, Either}

-- is the character one of these
abbrev pub is_one_of : ℕ → List ℕ → Bool
is_one_of character characters = list_any (λ one. one == character) characters

-- A to Z and a to z
abbrev pub is_letter : ℕ → Bool
is_letter character = (nat_le 65 character && nat_le character 90) || (nat_le 97 character && nat_le character 122)

-- 0 to 9
abbrev pub is_digit : ℕ → Bool
is_digit character = nat_le 48 character && nat_le character 57

-- 0 to 9, A to F and a to f
abbrev pub is_hexadecimal_digit : ℕ → Bool
is_hexadecimal_digit character =
    is_digit character || (nat_le 65 character && nat_le character 70) || (nat_le 97 character && nat_le character 102)

-- 0 to 7
abbrev pub is_octal_digit : ℕ → Bool
is_octal_digit character = nat_le 48 character && nat_le character 55

-- no surrogate, and no number above the last code point
abbrev pub is_scalar : ℕ → Bool
is_scalar character = nat_lt character 0xD800 || (nat_le 0xE000 character && nat_lt character 0x110000)

-- what begins a name: an XID start character; below 128 these are the letters
abbrev pub is_name_start : ℕ → Bool
is_name_start character = if nat_lt character 128 then is_letter character else (is_scalar character && is_xid_start character)

-- what a name has behind its first character: an XID continue character; below 128 these are letters, digits and `_`
abbrev pub is_name_part : ℕ → Bool
is_name_part character =
    if nat_lt character 128 then is_letter character || is_digit character || (character == 95)
    else (is_scalar character && is_xid_continue character)

-- white space: tab, and the Unicode class Zs
abbrev pub is_white : ℕ → Bool
is_white character =
    (character == 0x09) || (character == 0x20) || (character == 0xA0) || (character == 0x1680)
    || (nat_le 0x2000 character && nat_le character 0x200A)
    || (character == 0x202F) || (character == 0x205F) || (character == 0x3000)

-- what makes a `&`, `^` or `!` before it no suffix: an XID start character, a digit, `_`, `"` or `[`
abbrev pub begins_operand : List ℕ → Bool
begins_operand [] = false
begins_operand (character ∷ rest) =
    is_name_start character || is_digit character || (character == 95) || (character == 34) || (character == 91)

-- a type suffix, with what follows it on its line: % # @ $, and & ^ ! where no operand begins behind them
abbrev pub is_suffix : ℕ → List ℕ → Bool
is_suffix character rest =
    is_one_of character (37 ∷ 35 ∷ 64 ∷ 36 ∷ []) || (is_one_of character (38 ∷ 94 ∷ 33 ∷ []) && not (begins_operand rest))

-- the characters of a class
abbrev pub is_in : Class → ℕ → Bool
is_in NameStart character = is_name_start character
is_in NamePart character = is_name_part character
is_in Digit character = is_digit character
is_in HexadecimalDigit character = is_hexadecimal_digit character
is_in OctalDigit character = is_octal_digit character
-- E e D d
is_in ExponentLetter character = is_one_of character (69 ∷ 101 ∷ 68 ∷ 100 ∷ [])
-- all but `]` and the line end
is_in BracketPart character = not (character == 93) && not (character == 10)
-- all but `#` and `"`
is_in DatePart character = not (character == 35) && not (character == 34)
-- + - * / \ ^ & = < > ( ) , . : ; ! #
is_in Mark character =
    is_one_of character (43 ∷ 45 ∷ 42 ∷ 47 ∷ 92 ∷ 94 ∷ 38 ∷ 61 ∷ 60 ∷ 62 ∷ 40 ∷ 41 ∷ 44 ∷ 46 ∷ 58 ∷ 59 ∷ 33 ∷ 35 ∷ [])
is_in (Exactly only) character = character == only
is_in (Either one other) character = (character == one) || (character == other)
