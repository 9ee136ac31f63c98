-- Number texts: blanks, a sign or none, digits, a point with or without digits behind it or none, blanks.
use Rattle.std.specs.Prelude.{◌≡◌, ℕ, ◌^◌, ◌<◌, nat_lt, ◌==◌, ◌&&◌, ◌||◌, Bool, true, false, if◌then◌else◌, ℤ, pos, neg_ℤ, List, [], ◌∷◌, ◌++◌, length, drop, replicate, All, take_while, Option, Some, None, unwrap_or}
use Rattle.std.specs.Char.{IsAsciiDigit, is_ascii_digit}
use Rattle.std.specs.List.{prefix_len, list_all}
use Rattle.std.specs.Str.Parse.{digits_value}

abbrev pub blank : ℕ
blank = 32

abbrev pub plus : ℕ
plus = 43

abbrev pub minus : ℕ
minus = 45

abbrev pub point : ℕ
point = 46

-- a decimal number: its sign, and its digits before and behind the point
pub record Numeral : Type 0 where
  pub negative : Bool
  pub whole : List ℕ
  pub fraction : List ℕ

-- a whole number with a sign
abbrev pub signed : Bool → ℕ → ℤ
signed negative size = if negative then neg_ℤ (pos size) else pos size

-- its value is the quotient of these two
abbrev pub numerator : Numeral → ℤ
numerator n = signed n.negative (digits_value 10 (n.whole ++ n.fraction))

abbrev pub denominator : Numeral → ℕ
denominator n = 10 ^ length n.fraction

-- the units that it names are digits
pub record HasDigits (n : Numeral) : Type 0 where
  pub whole : All IsAsciiDigit n.whole
  pub fraction : All IsAsciiDigit n.fraction

-- what may stand before the digits
pub data Sign : Type 0 where
  unsigned : Sign
  plus_sign : Sign
  minus_sign : Sign

abbrev pub sign_text : Sign → List ℕ
sign_text unsigned = []
sign_text plus_sign = plus ∷ []
sign_text minus_sign = minus ∷ []

abbrev pub is_minus : Sign → Bool
is_minus unsigned = false
is_minus plus_sign = false
is_minus minus_sign = true

-- the point with its digits, where there is one
abbrev pub fraction_text : Option (List ℕ) → List ℕ
fraction_text None = []
fraction_text (Some digits) = point ∷ digits

-- the text is a number text, and writes this number
pub record IsNumberText (text : List ℕ) (n : Numeral) : Type 0 where
  pub before : ℕ
  pub sign : Sign
  pub decimals : Option (List ℕ)
  pub after : ℕ
  pub spelled : text ≡ replicate before blank ++ (sign_text sign ++ (n.whole ++ (fraction_text decimals ++ replicate after blank)))
  pub negative : n.negative ≡ is_minus sign
  pub fraction : n.fraction ≡ unwrap_or decimals []
  pub some_digit : 0 < length n.whole
  pub digits : HasDigits n

-- the text is no number text
abbrev pub IsNoNumberText : List ℕ → Type 0
IsNoNumberText text = (n : Numeral) → ¬ (IsNumberText text n)

-- a text without its first blanks
abbrev pub is_blank : ℕ → Bool
is_blank unit = unit == blank

abbrev pub behind_blanks : List ℕ → List ℕ
behind_blanks text = drop (prefix_len is_blank text) text

-- whether a text begins with a minus, and what stands behind its sign
abbrev pub begins_with_minus : List ℕ → Bool
begins_with_minus [] = false
begins_with_minus (unit ∷ units) = unit == minus

abbrev pub behind_sign : List ℕ → List ℕ
behind_sign [] = []
behind_sign (unit ∷ units) = if unit == plus || unit == minus then units else unit ∷ units

-- the digits that a text begins with, and what stands behind them
abbrev pub first_digits : List ℕ → List ℕ
first_digits text = take_while is_ascii_digit text

abbrev pub behind_digits : List ℕ → List ℕ
behind_digits text = drop (prefix_len is_ascii_digit text) text

-- the digits behind the point that a text begins with, and what stands behind them
abbrev pub first_decimals : List ℕ → List ℕ
first_decimals [] = []
first_decimals (unit ∷ units) = if unit == point then first_digits units else []

abbrev pub behind_decimals : List ℕ → List ℕ
behind_decimals [] = []
behind_decimals (unit ∷ units) = if unit == point then behind_digits units else unit ∷ units

-- the number that a text without first blanks and sign writes, with this sign
unfoldable pub read_digits : Bool → List ℕ → Option Numeral
read_digits negative text =
    let rest = behind_digits text in
    if nat_lt 0 (prefix_len is_ascii_digit text) && list_all is_blank (behind_decimals rest)
    then Some (record { negative = negative; whole = first_digits text; fraction = first_decimals rest })
    else None

-- the number that a text writes, exactly where it is a number text
unfoldable pub read : List ℕ → Option Numeral
read text = let signed = behind_blanks text in read_digits (begins_with_minus signed) (behind_sign signed)
