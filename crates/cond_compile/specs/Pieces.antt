-- Serves the code: the tokens of an expression as the grammar reads them.
use Rattle.std.specs.Prelude.{ℕ, ◌==◌, nat_lt, Bool, true, false, ◌&&◌, List, [], ◌∷◌, codes, Option, Some, None, is_some, if◌then◌else◌, bytes_eq}
use Rattle.vba_base.specs.Fold.{folded}
use Rattle.vba_lexer.specs.declared.token.Token.{Token}
use Rattle.vba_lexer.specs.declared.token.TokenKind.{TokenKind}
use Rattle.vba_lexer.specs.declared.token.TokenKind.TheVariants as kind
use Rattle.vba_lexer.specs.Numbers.{number_of, suffix_of, without_suffix}
use Rattle.vba_lexer.specs.Texts.{text_of}
use Rattle.vba_values.specs.declared.object.ObjRef.TheVariants.{Nothing}
use Rattle.vba_values.specs.Val.{Val, empty, null, boolean, text, object}
use Rattle.cond_compile.specs.declared.operator.Operator.{Operator}
use Rattle.cond_compile.specs.declared.operator.Operator.TheVariants as op
use Rattle.vba_words.specs.Readings.{quoted_text}
use Rattle.cond_compile.specs.Literals.{value_of_number}
use Rattle.cond_compile.specs.Words.{is_among, kept_words, name_in}

-- a token as the grammar of expressions reads it: a literal keeps its value, where it has one, and a name its fold
pub data Piece : Type 0 where
  literal : Option Val → Piece
  name : List ℕ → Piece
  me : Piece
  operator : Operator → Piece
  not_ : Piece
  new_ : Piece
  type_of : Piece
  left : Piece
  right : Piece
  comma : Piece
  dot : Piece
  apart_dot : Piece
  gets : Piece
  then_ : Piece
  other : Piece

abbrev pub is_then : Piece → Bool
is_then then_ = true
is_then piece = false

-- a word that is a literal
abbrev pub literal_word : List ℕ → Option Val
literal_word word =
    if bytes_eq word (codes "true") then Some (boolean true)
    else if bytes_eq word (codes "false") then Some (boolean false)
    else if bytes_eq word (codes "null") then Some null
    else if bytes_eq word (codes "empty") then Some empty
    else if bytes_eq word (codes "nothing") then Some (object Nothing)
    else None

-- a word that is an operator of two operands
abbrev pub operator_word : List ℕ → Option Operator
operator_word word =
    if bytes_eq word (codes "mod") then Some op.Mod
    else if bytes_eq word (codes "is") then Some op.Is
    else if bytes_eq word (codes "and") then Some op.And
    else if bytes_eq word (codes "or") then Some op.Or
    else if bytes_eq word (codes "xor") then Some op.Xor
    else if bytes_eq word (codes "eqv") then Some op.Eqv
    else if bytes_eq word (codes "imp") then Some op.Imp
    else None

-- another word that is no name, with a place in an expression or without
abbrev pub grammar_word : List ℕ → Option Piece
grammar_word word =
    if bytes_eq word (codes "me") then Some me
    else if bytes_eq word (codes "not") then Some not_
    else if bytes_eq word (codes "new") then Some new_
    else if bytes_eq word (codes "typeof") then Some type_of
    else if bytes_eq word (codes "then") then Some then_
    else if is_among kept_words word then Some other
    else None

abbrev pub operator_or : Option Operator → List ℕ → Option Piece
operator_or (Some o) word = Some (operator o)
operator_or None word = grammar_word word

abbrev pub literal_or : Option Val → List ℕ → Option Piece
literal_or (Some value) word = Some (literal (Some value))
literal_or None word = operator_or (operator_word word) word

-- a word that is no name
abbrev pub kept_piece : List ℕ → Option Piece
kept_piece word = literal_or (literal_word word) word

-- a word, which is a name where it is none of these; one of these with a suffix is no token of an expression
abbrev pub word_piece : List ℕ → Piece
word_piece spelled = at (kept_piece (folded (without_suffix spelled))) (is_some (suffix_of spelled))
  where
    at : Option Piece → Bool → Piece
    at None has_suffix = name (name_in spelled)
    at (Some kept) has_suffix = if has_suffix then other else kept

-- a mark of one character
abbrev pub single_mark : ℕ → Piece
single_mark unit =
    if unit == 43 then operator op.Plus
    else if unit == 45 then operator op.Minus
    else if unit == 42 then operator op.Times
    else if unit == 47 then operator op.Divide
    else if unit == 92 then operator op.IntDivide
    else if unit == 94 then operator op.Power
    else if unit == 38 then operator op.Join
    else if unit == 61 then operator op.Equal
    else if unit == 60 then operator op.Less
    else if unit == 62 then operator op.Greater
    else if unit == 40 then left
    else if unit == 41 then right
    else if unit == 44 then comma
    else if unit == 46 then dot
    else other

-- a mark of two characters: <= =< <> >= => :=
abbrev pub double_mark : ℕ → ℕ → Piece
double_mark unit next =
    if (unit == 60) && (next == 61) then operator op.LessEqual
    else if (unit == 61) && (next == 60) then operator op.LessEqual
    else if (unit == 60) && (next == 62) then operator op.Unequal
    else if (unit == 62) && (next == 61) then operator op.GreaterEqual
    else if (unit == 61) && (next == 62) then operator op.GreaterEqual
    else if (unit == 58) && (next == 61) then gets
    else other

abbrev pub mark_piece : List ℕ → Piece
mark_piece [] = other
mark_piece (unit ∷ []) = single_mark unit
mark_piece (unit ∷ next ∷ []) = double_mark unit next
mark_piece (unit ∷ next ∷ more ∷ units) = other

-- a dot with white space before it on its line stands apart; it continues nothing
abbrev pub is_apart : Token → Token → Bool
is_apart previous token = nat_lt previous.end token.start && (previous.place.line == token.place.line)

abbrev pub spaced : Bool → Piece → Piece
spaced true dot = apart_dot
spaced apart piece = piece

-- a word behind a token: behind a dot every word is a name
abbrev pub word_behind : List ℕ → List ℕ → Piece
word_behind previous spelled = if bytes_eq previous (codes ".") then name (name_in spelled) else word_piece spelled

-- a token that stands behind another one
abbrev pub piece_behind : List ℕ → Token → Token → Piece
piece_behind source previous token = of_kind token.kind
  where
    spelled : List ℕ
    spelled = text_of source token

    of_kind : TokenKind → Piece
    of_kind kind.Word = word_behind (text_of source previous) spelled
    of_kind kind.Whole = literal (value_of_number (number_of spelled))
    of_kind kind.Fixed = literal (value_of_number (number_of spelled))
    of_kind kind.Text = literal (Some (text (quoted_text spelled)))
    of_kind kind.DateMark = literal None
    of_kind kind.Mark = spaced (is_apart previous token) (mark_piece spelled)
    of_kind kind.BadMark = other

-- the tokens that stand behind a token
abbrev pub pieces_behind : List ℕ → Token → List Token → List Piece
pieces_behind source previous [] = []
pieces_behind source previous (token ∷ tokens) = piece_behind source previous token ∷ pieces_behind source token tokens
