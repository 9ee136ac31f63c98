-- What tokens are for the grammar.
use Rattle.std.specs.Prelude.{ℕ, ◌-◌, Bool, true, false, ◌==◌, ◌&&◌, ◌||◌, not, List, [], ◌∷◌, length, take, codes, Option, Some, None, Result, Ok, Err, if◌then◌else◌}
use Rattle.std.specs.List.{list_all}
use Rattle.std.specs.Str.{bytes_eq}
use Rattle.vba_base.specs.Fold.{folded}
use Rattle.vba_lexer.specs.declared.token.Token.{Token}
use Rattle.vba_lexer.specs.declared.token.TokenKind.{TokenKind}
use Rattle.vba_lexer.specs.declared.token.TokenKind.TheVariants as kind
use Rattle.vba_lexer.specs.declared.number.Number.{Number}
use Rattle.vba_lexer.specs.declared.number.NumberFault.{NumberFault}
use Rattle.vba_lexer.specs.declared.number.TypeSuffix.{TypeSuffix}
use Rattle.vba_lexer.specs.Classes.{is_digit}
use Rattle.vba_lexer.specs.Numbers.{number_of, suffix_of, without_suffix}
use Rattle.vba_lexer.specs.Texts.{text_of}
use Rattle.vba_words.specs.declared.keyword.Keyword.{Keyword}
use Rattle.vba_words.specs.declared.keyword.Keyword.TheVariants as keyword
use Rattle.vba_words.specs.declared.mark.Mark.{Mark}
use Rattle.vba_words.specs.declared.mark.Mark.TheVariants.{Dot, WithDot, RightParenthesis, Colon}
use Rattle.vba_words.specs.declared.reading.Reading.{Reading}
use Rattle.vba_words.specs.declared.reading.Reading.TheVariants as reading
use Rattle.vba_words.specs.declared.reading.ReadToken.{ReadToken}
use Rattle.vba_words.specs.Keywords.{keyword_of}
use Rattle.vba_words.specs.declared.context.Context.{Context}
use Rattle.vba_words.specs.Marks.{mark_of}
use Rattle.vba_words.specs.Words.{is_word}

abbrev mutual
  -- what stands between the quotes of a string literal, each doubled quote once; from behind the opening quote
  pub between_quotes : List ℕ → List ℕ
  between_quotes [] = []
  between_quotes (unit ∷ text) = if unit == 34 then behind_quote text else unit ∷ between_quotes text

  -- behind a quote: nothing more, or the quote's double and what goes on
  pub behind_quote : List ℕ → List ℕ
  behind_quote [] = []
  behind_quote (unit ∷ text) = unit ∷ between_quotes text

-- the text that a string literal stands for
abbrev pub quoted_text : List ℕ → List ℕ
quoted_text [] = []
quoted_text (quote ∷ text) = between_quotes text

-- a word's name: its case fold
abbrev pub named : List ℕ → Option TypeSuffix → Reading
named text suffix = reading.Name (folded text) suffix false

-- a word without brackets: a kept word is no name but behind a dot, and no kept word where it has a suffix
abbrev pub word_reading : Bool → List ℕ → Option TypeSuffix → Reading
word_reading behind_dot text suffix =
    if behind_dot then named text suffix else at (keyword_of (folded text)) suffix
  where
    at : Option Keyword → Option TypeSuffix → Reading
    at None suffix = named text suffix
    at (Some keyword) None = reading.Keyword keyword
    at (Some keyword) (Some suffix) = reading.Other

-- a word
abbrev pub bracket_or_word : Bool → List ℕ → Reading
bracket_or_word behind_dot [] = word_reading behind_dot [] None
bracket_or_word behind_dot (unit ∷ text) =
    if unit == 91 then reading.Name (folded (take (length text - 1) text)) None true
    else word_reading behind_dot (without_suffix (unit ∷ text)) (suffix_of (unit ∷ text))

-- a number literal
abbrev pub number_reading : Bool → Result Number NumberFault → Reading
number_reading is_plain (Ok number) = reading.Number number is_plain
number_reading is_plain (Err fault) = reading.Other

-- a mark: a dot goes on with what stands before it, or begins a place of a With block
abbrev pub mark_reading : Bool → List ℕ → Reading
mark_reading goes_on text =
    if bytes_eq text (codes ".") then reading.Mark (if goes_on then Dot else WithDot) else at (mark_of text)
  where
    at : Option Mark → Reading
    at None = reading.Other
    at (Some mark) = reading.Mark mark

-- what a token of this kind and text is; `behind_dot`: a dot stands before it; `goes_on`: it would go on with what stands before it
abbrev pub reading_of : Bool → Bool → TokenKind → List ℕ → Reading
reading_of behind_dot goes_on kind.Word text = bracket_or_word behind_dot text
reading_of behind_dot goes_on kind.Whole text = number_reading (list_all is_digit text) (number_of text)
reading_of behind_dot goes_on kind.Fixed text = number_reading false (number_of text)
reading_of behind_dot goes_on kind.Text text = reading.Text (quoted_text text)
reading_of behind_dot goes_on kind.DateMark text = reading.Other
reading_of behind_dot goes_on kind.Mark text = mark_reading goes_on text
reading_of behind_dot goes_on kind.BadMark text = reading.Other

-- a dot
abbrev pub is_dot : Reading → Bool
is_dot (reading.Mark Dot) = true
is_dot (reading.Mark WithDot) = true
is_dot _ = false

-- the words that are values or the object itself
abbrev pub is_value_word : Keyword → Bool
is_value_word keyword.Empty = true
is_value_word keyword.False = true
is_value_word keyword.Me = true
is_value_word keyword.Nothing = true
is_value_word keyword.Null = true
is_value_word keyword.True = true
is_value_word other = false

-- may a place or primary end with it: a name, a literal, Me or `)`
abbrev pub ends_primary : Reading → Bool
ends_primary (reading.Keyword word) = is_value_word word
ends_primary (reading.Name name suffix is_bracketed) = true
ends_primary (reading.Number number is_plain) = true
ends_primary (reading.Text text) = true
ends_primary (reading.Mark RightParenthesis) = true
ends_primary (reading.Mark other) = false
ends_primary reading.Other = false

-- no white space stands between two tokens, or a continuation does
abbrev pub adjoins : Token → Token → Bool
adjoins before token = (before.end == token.start) || not (before.place.line == token.place.line)

-- behind a word To of the same statement
abbrev pub behind_to : Bool → Reading → Bool
behind_to is_behind (reading.Keyword keyword.To) = true
behind_to is_behind (reading.Keyword keyword.Then) = false
behind_to is_behind (reading.Keyword keyword.Else) = false
behind_to is_behind (reading.Mark Colon) = false
behind_to is_behind _ = is_behind

-- ReDim
abbrev pub is_redim : Reading → Bool
is_redim (reading.Keyword keyword.ReDim) = true
is_redim _ = false

-- a token ends what may go on with a dot: a place or primary, and no word of the grammar
abbrev pub may_go_on : Context → Reading → Bool
may_go_on context before = ends_primary before && not context.is_word

-- a name behind another token is a word of the grammar where it is Preserve behind ReDim, or the Step of a For line, which
-- stands behind To and what may end its limit
abbrev pub becomes_word : Context → Reading → Reading → Bool
becomes_word context before meant =
    (is_redim before && is_word meant (codes "preserve")) || (context.is_behind_to && (may_go_on context before && is_word meant (codes "step")))

-- what tokens behind a token have to know: whether a To of their statement stands before them, and whether the name that
-- the last token seems to be is a word of the grammar
abbrev pub context_behind : Context → Option ReadToken → Reading → Context
context_behind context None meant = record { is_behind_to = behind_to false meant; is_word = false }
context_behind context (Some before) meant =
    record { is_behind_to = behind_to context.is_behind_to meant; is_word = becomes_word context before.reading meant }

abbrev pub nothing_before : Context
nothing_before = record { is_behind_to = false; is_word = false }

-- what a token is behind another one, or first on its line
abbrev pub reading_behind : Context → Option ReadToken → Token → List ℕ → Reading
reading_behind context None token text = reading_of false false token.kind text
reading_behind context (Some before) token text =
    reading_of (is_dot before.reading) (may_go_on context before.reading && adjoins before.token token) token.kind text

-- a token of a source, behind another one or first on its line
abbrev pub read_token : List ℕ → Context → Option ReadToken → Token → ReadToken
read_token source context before token = record { token = token; reading = reading_behind context before token (text_of source token) }

-- the tokens of a source behind another one, or from the front of a line
abbrev pub read_behind : List ℕ → Context → Option ReadToken → List Token → List ReadToken
read_behind source context before [] = []
read_behind source context before (token ∷ tokens) =
    let next = read_token source context before token in
    next ∷ read_behind source (context_behind context before next.reading) (Some next) tokens

-- the tokens of a line of a source as the grammar reads them
abbrev pub read_line : List ℕ → List Token → List ReadToken
read_line source tokens = read_behind source nothing_before None tokens
