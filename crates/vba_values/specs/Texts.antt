-- Texts as numbers and Booleans, and values as texts.
use Rattle.std.specs.Prelude.{ℕ, ◌-◌, ◌==◌, ◌&&◌, ◌||◌, not, Bool, true, false, if◌then◌else◌, ℤ, pos, List, [], ◌∷◌, ◌++◌, length, take, replicate, codes, bytes_eq, Option, Some, None, Result, Ok, Err}
use Rattle.std.specs.Char.{is_ascii_digit}
use Rattle.std.specs.List.{list_any, list_all}
use Rattle.std.specs.Ordering.{is_eq}
use Rattle.currency.specs.NumberText.{Numeral, blank, read}
use Rattle.currency.specs.Parsed.{rounded, compare_numeral}
use Rattle.currency.specs.Range.{is_i64}
use Rattle.vba_base.specs.Fold.{folded}
use Rattle.vba_values.specs.declared.fault.Bad.{Bad}
use Rattle.vba_values.specs.declared.types.WholeKind.{WholeKind}
use Rattle.vba_values.specs.Errors.{overflow, type_mismatch, number_text}
use Rattle.vba_values.specs.Val.{Val, boolean, currency}
use Rattle.vba_values.specs.Whole.{ranged}

-- the characters besides digits with which VBA writes numbers: signs, points, thousands, exponents, money, brackets, percent
abbrev pub is_number_mark : ℕ → Bool
is_number_mark unit = list_any (λ mark. unit == mark) (codes "+-.,EeDd$()% ")

abbrev pub is_number_unit : ℕ → Bool
is_number_unit unit = is_ascii_digit unit || is_number_mark unit

-- as &H1F begins
abbrev pub begins_with_ampersand : List ℕ → Bool
begins_with_ampersand [] = false
begins_with_ampersand (unit ∷ units) = unit == 38

-- such a text may be a number to VBA: it begins with an ampersand, or has a digit and nothing that numbers aren't written with
abbrev pub looks_like_number : List ℕ → Bool
looks_like_number text = begins_with_ampersand text || (list_any is_ascii_digit text && list_all is_number_unit text)

-- what comes of a text that is no number text: the run stops where it looks like a number, and else Type mismatch
abbrev pub not_number : List ℕ → Bad
not_number text = if looks_like_number text then number_text else type_mismatch

-- a text as a whole number of a kind: what it writes, rounded half to even once
abbrev pub whole_of_numeral : WholeKind → List ℕ → Option Numeral → Result Val Bad
whole_of_numeral k text None = Err (not_number text)
whole_of_numeral k text (Some n) = ranged k (rounded 0 n)

abbrev pub whole_of_text : WholeKind → List ℕ → Result Val Bad
whole_of_text k text = whole_of_numeral k text (read text)

-- so many ten-thousandths as a Currency: Overflow where 64 bits don't hold them
abbrev pub amount : ℤ → Result Val Bad
amount count = if is_i64 count then Ok (currency count) else Err overflow

-- a text as a Currency: what it writes, rounded half to even to four decimals
abbrev pub currency_of_numeral : List ℕ → Option Numeral → Result Val Bad
currency_of_numeral text None = Err (not_number text)
currency_of_numeral text (Some n) = amount (rounded 4 n)

abbrev pub currency_of_text : List ℕ → Result Val Bad
currency_of_text text = currency_of_numeral text (read text)

-- a number text is True exactly where what it writes isn't 0, however small or large it is
abbrev pub boolean_of_numeral : List ℕ → Option Numeral → Result Val Bad
boolean_of_numeral text None = Err (not_number text)
boolean_of_numeral text (Some n) = Ok (boolean (not (is_eq (compare_numeral (pos 0) n))))

-- the words for the two Booleans
abbrev pub word_of : Bool → List ℕ
word_of b = if b then codes "True" else codes "False"

-- whether two texts are the same without case
abbrev pub is_same_word : List ℕ → List ℕ → Bool
is_same_word text word = bytes_eq (folded text) (folded word)

-- a text as a Boolean: the words True and False without case, and number texts
abbrev pub boolean_of_text : List ℕ → Result Val Bad
boolean_of_text text =
    if is_same_word text (word_of true) then Ok (boolean true)
    else if is_same_word text (word_of false) then Ok (boolean false)
    else boolean_of_numeral text (read text)

-- a text of exactly so many units: cut, or with blanks behind it
abbrev pub of_length : ℕ → List ℕ → List ℕ
of_length size text = take size text ++ replicate (size - length text) blank
