-- The values of number literals, by their texts.
use Rattle.std.specs.Prelude.{ℕ, ◌+◌, ◌-◌, ◌*◌, ◌%◌, ℤ, pos, ◌-ℤ◌, Bool, false, ◌==◌, ◌&&◌, ◌||◌, not, nat_le, nat_lt, List, [], ◌∷◌, length, take, drop, slice_index, Option, Some, None, Result, Ok, Err, is_some, if◌then◌else◌}
use Rattle.std.specs.List.{list_all, list_any, prefix_len}
use Rattle.vba_lexer.specs.declared.number.TypeSuffix.{TypeSuffix}
use Rattle.vba_lexer.specs.declared.number.TypeSuffix.TheVariants as suffix
use Rattle.vba_lexer.specs.declared.number.NumberKind.{NumberKind}
use Rattle.vba_lexer.specs.declared.number.NumberKind.TheVariants.{Integer, Long, LongLong, Currency}
use Rattle.vba_lexer.specs.declared.number.Number.{Number}
use Rattle.vba_lexer.specs.declared.number.NumberFault.{NumberFault}
use Rattle.vba_lexer.specs.declared.number.NumberFault.TheVariants.{OutOfRange, Double}
use Rattle.vba_lexer.specs.Classes.{is_digit, is_one_of}

-- % & ^ ! # @ $
abbrev pub suffix_named : ℕ → Option TypeSuffix
suffix_named character =
    if character == 37 then Some suffix.Integer
    else if character == 38 then Some suffix.Long
    else if character == 94 then Some suffix.LongLong
    else if character == 33 then Some suffix.Single
    else if character == 35 then Some suffix.Double
    else if character == 64 then Some suffix.Currency
    else if character == 36 then Some suffix.Text
    else None

-- the suffix at the end of a word or a number
abbrev pub suffix_of : List ℕ → Option TypeSuffix
suffix_of [] = None
suffix_of (character ∷ text) = suffix_named (slice_index (character ∷ text) (length text))

-- a text without its suffix
abbrev pub without_suffix : List ℕ → List ℕ
without_suffix text = if is_some (suffix_of text) then take (length text - 1) text else text

-- 0 to 9, A to F, a to f
abbrev pub digit_value : ℕ → ℕ
digit_value character =
    if nat_le 48 character && nat_le character 57 then character - 48
    else if nat_le 65 character && nat_le character 70 then character - 55
    else if nat_le 97 character && nat_le character 102 then character - 87
    else 0

-- the number that digits of a base stand for, behind what was read before them
abbrev pub value_from : ℕ → ℕ → List ℕ → ℕ
value_from base before [] = before
value_from base before (digit ∷ digits) = value_from base (before * base + digit_value digit) digits

abbrev pub digits_value : ℕ → List ℕ → ℕ
digits_value base digits = value_from base 0 digits

-- a number up to a limit
abbrev pub up_to : ℕ → NumberKind → ℕ → Result Number NumberFault
up_to limit kind value = if nat_le value limit then Ok (record { kind = kind; value = pos value }) else Err OutOfRange

-- so many ten-thousandths
abbrev pub currency : ℕ → Result Number NumberFault
currency count = up_to 0x7FFF_FFFF_FFFF_FFFF Currency count

-- a number in decimal digits
abbrev pub decimal_number : Option TypeSuffix → ℕ → Result Number NumberFault
decimal_number None value =
    if nat_le value 32767 then Ok (record { kind = Integer; value = pos value })
    else if nat_le value 2147483647 then Ok (record { kind = Long; value = pos value })
    else Err Double
decimal_number (Some suffix.Integer) value = up_to 32767 Integer value
decimal_number (Some suffix.Long) value = up_to 2147483647 Long value
decimal_number (Some suffix.LongLong) value = up_to 0x7FFF_FFFF_FFFF_FFFF LongLong value
decimal_number (Some suffix.Single) value = Err Double
decimal_number (Some suffix.Double) value = Err Double
decimal_number (Some suffix.Currency) value = currency (value * 10000)
decimal_number (Some suffix.Text) value = Err OutOfRange

-- the signed number that has this number's bits, where so many numbers have them
abbrev pub signed : ℕ → ℕ → ℤ
signed size value = if nat_lt (value * 2) size then pos value else (pos value -ℤ pos size)

-- a number whose bits make so many numbers
abbrev pub of_bits : ℕ → NumberKind → ℕ → Result Number NumberFault
of_bits size kind value =
    if nat_lt value size then Ok (record { kind = kind; value = signed size value }) else Err OutOfRange

-- a number in hexadecimal or octal digits
abbrev pub based_number : Option TypeSuffix → ℕ → Result Number NumberFault
based_number None value = if nat_lt value 0x1_0000 then of_bits 0x1_0000 Integer value else of_bits 0x1_0000_0000 Long value
based_number (Some suffix.Integer) value = of_bits 0x1_0000 Integer value
based_number (Some suffix.Long) value = of_bits 0x1_0000_0000 Long value
based_number (Some suffix.LongLong) value = of_bits 0x1_0000_0000_0000_0000 LongLong value
based_number (Some suffix.Single) value = Err Double
based_number (Some suffix.Double) value = Err Double
based_number (Some suffix.Currency) value = Err OutOfRange
based_number (Some suffix.Text) value = Err OutOfRange

-- the digit at a place behind the point, 0 past the last one
abbrev pub digit_at : List ℕ → ℕ → ℕ
digit_at digits place = digit_value (slice_index digits place)

-- do these digits behind a count round it up: above half, or half and the count is odd
abbrev pub rounds_up : ℕ → List ℕ → Bool
rounds_up count [] = false
rounds_up count (digit ∷ digits) =
    nat_lt 53 digit || ((digit == 53) && (list_any (λ d. not (d == 48)) digits || (count % 2 == 1)))

-- the ten-thousandths of a number with these digits before and behind its point, without the digits behind the fourth
abbrev pub cut_count : List ℕ → List ℕ → ℕ
cut_count whole fraction =
    digits_value 10 whole * 10000
    + (digit_at fraction 0 * 1000 + digit_at fraction 1 * 100 + digit_at fraction 2 * 10 + digit_at fraction 3)

-- the ten-thousandths of a number with a point, rounded half to even
abbrev pub fixed_count : List ℕ → List ℕ → ℕ
fixed_count whole fraction =
    cut_count whole fraction + (if rounds_up (cut_count whole fraction) (drop 4 fraction) then 1 else 0)

-- the digits before the point, and those behind it
abbrev pub whole_part : List ℕ → List ℕ
whole_part text = take (prefix_len is_digit text) text

abbrev pub fraction_part : List ℕ → List ℕ
fraction_part text = drop (prefix_len is_digit text + 1) text

-- E e D d
abbrev pub has_exponent : List ℕ → Bool
has_exponent text = list_any (λ character. is_one_of character (69 ∷ 101 ∷ 68 ∷ 100 ∷ [])) text

-- a number with a point or an exponent
abbrev pub fixed_number : Option TypeSuffix → List ℕ → Result Number NumberFault
fixed_number None text = Err Double
fixed_number (Some suffix.Single) text = Err Double
fixed_number (Some suffix.Double) text = Err Double
fixed_number (Some suffix.Currency) text =
    if has_exponent text then Err OutOfRange else currency (fixed_count (whole_part text) (fraction_part text))
fixed_number (Some suffix.Integer) text = Err OutOfRange
fixed_number (Some suffix.Long) text = Err OutOfRange
fixed_number (Some suffix.LongLong) text = Err OutOfRange
fixed_number (Some suffix.Text) text = Err OutOfRange

-- the number behind `&`: hexadecimal behind H, and else octal, behind O or not
abbrev pub based_value : List ℕ → ℕ
based_value [] = 0
based_value (character ∷ digits) =
    if is_one_of character (72 ∷ 104 ∷ []) then digits_value 16 digits
    else if is_one_of character (79 ∷ 111 ∷ []) then digits_value 8 digits
    else digits_value 8 (character ∷ digits)

-- the number that a text without its suffix stands for
abbrev pub number_behind : Option TypeSuffix → List ℕ → Result Number NumberFault
number_behind type_suffix [] = fixed_number type_suffix []
number_behind type_suffix (character ∷ text) =
    if character == 38 then based_number type_suffix (based_value text)
    else if list_all is_digit (character ∷ text) then decimal_number type_suffix (digits_value 10 (character ∷ text))
    else fixed_number type_suffix (character ∷ text)

-- the number that a number literal stands for
abbrev pub number_of : List ℕ → Result Number NumberFault
number_of text = number_behind (suffix_of text) (without_suffix text)
