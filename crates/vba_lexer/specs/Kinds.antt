-- The kinds of tokens: which slices of a line are of which kind. A slice is read with what follows it on its line.
use Rattle.std.specs.Prelude.{ℕ, Bool, true, false, List, [], ◌∷◌, ◌==◌, ◌||◌, ◌&&◌, not, Option, Some, None, if◌then◌else◌}
use Rattle.vba_lexer.specs.declared.token.TokenKind.{TokenKind}
use Rattle.vba_lexer.specs.declared.token.TokenKind.TheVariants.{Word, Whole, Fixed, Text, DateMark, Mark, BadMark}
use Rattle.vba_lexer.specs.declared.classes.Class.TheVariants as class
use Rattle.vba_lexer.specs.declared.forms.Piece.TheVariants.{Single, Run, Optional, Suffix}
use Rattle.vba_lexer.specs.Classes.{is_white}
use Rattle.vba_lexer.specs.Forms.{fits}

-- a name: an XID start character, then XID continue characters, then at most one suffix
abbrev pub is_name : List ℕ → List ℕ → Bool
is_name slice after = fits (Single class.NameStart ∷ Run class.NamePart ∷ Suffix ∷ []) slice after

-- `[`, one character or more other than `]` and line ends, `]`
abbrev pub is_bracketed : List ℕ → List ℕ → Bool
is_bracketed slice after =
    fits (Single (class.Exactly 91) ∷ Single class.BracketPart ∷ Run class.BracketPart ∷ Single (class.Exactly 93) ∷ []) slice after

abbrev pub is_word : List ℕ → List ℕ → Bool
is_word slice after = is_name slice after || is_bracketed slice after

-- digits, then at most one suffix
abbrev pub is_decimal : List ℕ → List ℕ → Bool
is_decimal slice after = fits (Single class.Digit ∷ Run class.Digit ∷ Suffix ∷ []) slice after

-- `&H` and hexadecimal digits, then at most one suffix
abbrev pub is_hexadecimal : List ℕ → List ℕ → Bool
is_hexadecimal slice after =
    fits
    (Single (class.Exactly 38) ∷ Single (class.Either 72 104) ∷ Single class.HexadecimalDigit ∷ Run class.HexadecimalDigit ∷ Suffix ∷ [])
    slice after

-- `&O` or `&`, and octal digits, then at most one suffix
abbrev pub is_octal : List ℕ → List ℕ → Bool
is_octal slice after =
    fits
    (Single (class.Exactly 38) ∷ Optional (class.Either 79 111) ∷ Single class.OctalDigit ∷ Run class.OctalDigit ∷ Suffix ∷ [])
    slice after

-- a whole number
abbrev pub is_whole : List ℕ → List ℕ → Bool
is_whole slice after = is_decimal slice after || is_hexadecimal slice after || is_octal slice after

-- digits with a point before, among or behind them, then at most one suffix
abbrev pub is_plain_fixed : List ℕ → List ℕ → Bool
is_plain_fixed slice after =
    fits (Single class.Digit ∷ Run class.Digit ∷ Single (class.Exactly 46) ∷ Run class.Digit ∷ Suffix ∷ []) slice after
    || fits (Single (class.Exactly 46) ∷ Single class.Digit ∷ Run class.Digit ∷ Suffix ∷ []) slice after

-- digits with a point or without, then `E` or `D`, an optional sign and digits, then at most one suffix
abbrev pub is_exponent : List ℕ → List ℕ → Bool
is_exponent slice after =
    fits
    (Single class.Digit ∷ Run class.Digit ∷ Optional (class.Exactly 46) ∷ Run class.Digit ∷ Single class.ExponentLetter
    ∷ Optional (class.Either 43 45) ∷ Single class.Digit ∷ Run class.Digit ∷ Suffix ∷ [])
    slice after
    || fits
    (Single (class.Exactly 46) ∷ Single class.Digit ∷ Run class.Digit ∷ Single class.ExponentLetter
    ∷ Optional (class.Either 43 45) ∷ Single class.Digit ∷ Run class.Digit ∷ Suffix ∷ [])
    slice after

-- a number with a point, an exponent or both
abbrev pub is_fixed : List ℕ → List ℕ → Bool
is_fixed slice after = is_plain_fixed slice after || is_exponent slice after

abbrev mutual
  -- behind the opening quote: any characters but line ends, each quote among them doubled, then the closing quote
  pub is_quoted : List ℕ → Bool
  is_quoted [] = false
  is_quoted (character ∷ slice) =
      if character == 34 then is_behind_quote slice else (not (character == 10) && is_quoted slice)

  -- behind a quote: the end, or its double and what goes on
  pub is_behind_quote : List ℕ → Bool
  is_behind_quote [] = true
  is_behind_quote (character ∷ slice) = (character == 34) && is_quoted slice

-- a text: a quote, any characters on one physical line where "" is a quote, and a quote
abbrev pub is_text : List ℕ → Bool
is_text [] = false
is_text (first ∷ slice) = (first == 34) && is_quoted slice

-- a date, where it is not the first token of its line: `#`, up to the next `#`, with no `"` between
abbrev pub is_date : Bool → List ℕ → List ℕ → Bool
is_date is_first slice after =
    not is_first && fits (Single (class.Exactly 35) ∷ Run class.DatePart ∷ Single (class.Exactly 35) ∷ []) slice after

-- a mark: one character by itself, or <= <>, >=, =< =>, :=
abbrev pub is_mark : List ℕ → List ℕ → Bool
is_mark slice after =
    fits (Single class.Mark ∷ []) slice after
    || fits (Single (class.Exactly 60) ∷ Single (class.Either 61 62) ∷ []) slice after
    || fits (Single (class.Exactly 62) ∷ Single (class.Exactly 61) ∷ []) slice after
    || fits (Single (class.Exactly 61) ∷ Single (class.Either 60 62) ∷ []) slice after
    || fits (Single (class.Exactly 58) ∷ Single (class.Exactly 61) ∷ []) slice after

-- white space, or the line end of a continuation
abbrev pub is_gap : ℕ → Bool
is_gap character = is_white character || (character == 10)

-- one character that is no gap; it is a bad mark where it is nothing else
abbrev pub is_single : List ℕ → Bool
is_single [] = false
is_single (character ∷ []) = not (is_gap character)
is_single (character ∷ next ∷ slice) = false

-- the kind of a slice, where it has one; `is_first` says that no token stands before it on its line
abbrev pub kind_of : Bool → List ℕ → List ℕ → Option TokenKind
kind_of is_first slice after =
    if is_word slice after then Some Word
    else if is_whole slice after then Some Whole
    else if is_fixed slice after then Some Fixed
    else if is_text slice then Some Text
    else if is_date is_first slice after then Some DateMark
    else if is_mark slice after then Some Mark
    else if is_single slice then Some BadMark
    else None
