-- Serves the code: reading the statements of a line, by turns: a stack of frames holds the single-line Ifs that
-- are open.
use Rattle.std.specs.Prelude.{ℕ, zero, suc, Bool, true, ◌||◌, ◌&&◌, not, List, [], ◌∷◌, length, Option, Some, None, if◌then◌else◌}
use Rattle.vba_lexer.specs.declared.token.Token.{Token}
use Rattle.vba_words.specs.declared.keyword.Keyword.TheVariants as keyword
use Rattle.vba_words.specs.declared.reading.Reading.{Reading}
use Rattle.vba_words.specs.declared.reading.Reading.TheVariants as reading
use Rattle.vba_words.specs.declared.reading.ReadToken.{ReadToken}
use Rattle.vba_expression.specs.Tree.{Expr}
use Rattle.vba_tree.specs.Tree.{BlockLine, block_line, if_line, Stmt, simple, if_then, if_else, Stmts, nothing, one, gap, more}
use Rattle.vba_grammar.specs.Front.{◌>>=◌, is_colon, is_else, is_then, token_at, whole_at}
use Rattle.vba_grammar.specs.Statements.{simple_at}

-- where a statement goes
pub data Where : Type 0 where
  -- first on the line
  at_line : Where
  -- behind Then or Else
  in_list : Where
  -- behind a colon
  behind : Stmts → Token → Where

abbrev pub put : Where → Stmt → Stmts
put at_line s = one s
put in_list s = one s
put (behind before colon) s = more before colon s

-- an open If: where it stands, its word, condition and Then; and its list and Else behind it
pub data Frame : Type 0 where
  then_frame : Where → Token → Expr → Token → Frame
  else_frame : Where → Token → Expr → Token → Stmts → Token → Frame

pub data State : Type 0 where
  -- a statement may stand here
  need : Where → List Frame → State
  -- a statement was read
  got : Stmts → List Frame → State

-- an Else belongs to the nearest If that has none
abbrev pub with_else : Stmts → List Frame → Token → Option State
with_else ss [] token = None
with_else ss (then_frame place if_word condition then_word ∷ frames) token =
    Some (need in_list (else_frame place if_word condition then_word ss token ∷ frames))
with_else ss (else_frame place if_word condition then_word then_list else_word ∷ frames) token =
    with_else (put place (if_else if_word condition then_word then_list else_word ss)) frames token

-- the line ends all that is open
abbrev pub closed : Stmts → List Frame → Stmts
closed ss [] = ss
closed ss (then_frame place if_word condition then_word ∷ frames) = closed (put place (if_then if_word condition then_word ss)) frames
closed ss (else_frame place if_word condition then_word then_list else_word ∷ frames) =
    closed (put place (if_else if_word condition then_word then_list else_word ss)) frames

-- an Else before these tokens is a line of a block: no statement follows
abbrev pub is_else_line : List ReadToken → Bool
is_else_line [] = true
is_else_line (t ∷ ts) = is_colon t.reading || (is_else t.reading && not (is_else_line ts))

abbrev pub Turn : Type 0
Turn = Option (State × List ReadToken)

abbrev pub with_tokens : List ReadToken → Option State → Turn
with_tokens ts None = None
with_tokens ts (Some state) = Some (state, ts)

-- a line of a block as a statement
abbrev pub put_block : Where → BlockLine → Stmts
put_block place line = put place (simple (block_line line))

-- behind Then: the If is a line of a block where no statement follows, or where an Else follows that belongs to an If outside
abbrev pub behind_then : Where → Token → Expr → Token → List Frame → List ReadToken → Turn
behind_then place if_word condition then_word frames [] = Some (got (put_block place (if_line if_word condition then_word)) frames, [])
behind_then place if_word condition then_word frames (t ∷ ts) = at t.reading
  where
    line : State
    line = got (put_block place (if_line if_word condition then_word)) frames

    opened : State
    opened = need in_list (then_frame place if_word condition then_word ∷ frames)

    at : Reading → Turn
    at (reading.Keyword keyword.Else) = Some (if is_else_line ts then opened else line, t ∷ ts)
    at meant = Some (if is_colon meant then line else opened, t ∷ ts)

-- a single-line If up to its Then
abbrev pub header_at : Where → Token → List Frame → List ReadToken → Turn
header_at place if_word frames ts =
    whole_at ts >>= λ condition rest. token_at is_then rest >>= λ then_word behind. behind_then place if_word condition then_word frames behind

-- a statement other than an If
abbrev pub statement_at : Where → List Frame → List ReadToken → Turn
statement_at place frames ts = simple_at ts >>= λ s rest. Some (got (put place (simple s)) frames, rest)

-- where a statement may stand
abbrev pub needed : Where → List Frame → ReadToken → List ReadToken → Reading → Turn
needed place frames t ts (reading.Keyword keyword.If) = header_at place t.token frames ts
needed (behind before colon) frames t ts (reading.Keyword keyword.Else) =
    if is_else_line ts then statement_at (behind before colon) frames (t ∷ ts) else with_tokens ts (with_else (gap before colon) frames t.token)
needed (behind before colon) frames t ts meant =
    if is_colon meant then Some (need (behind (gap before colon) t.token) frames, ts) else statement_at (behind before colon) frames (t ∷ ts)
needed at_line frames t ts meant =
    if is_colon meant then Some (need (behind nothing t.token) frames, ts) else statement_at at_line frames (t ∷ ts)
needed in_list frames t ts _ = statement_at in_list frames (t ∷ ts)

-- behind a statement
abbrev pub had : Stmts → List Frame → ReadToken → List ReadToken → Reading → Turn
had ss frames t ts (reading.Keyword keyword.Else) = with_tokens ts (with_else ss frames t.token)
had ss frames t ts meant = if is_colon meant then Some (need (behind ss t.token) frames, ts) else None

abbrev pub turn : State → ReadToken → List ReadToken → Turn
turn (need place frames) t ts = needed place frames t ts t.reading
turn (got ss frames) t ts = had ss frames t ts t.reading

-- the line ends
abbrev pub finish : State → Option Stmts
finish (got ss frames) = Some (closed ss frames)
finish (need (behind before colon) frames) = Some (closed (gap before colon) frames)
finish (need at_line frames) = Some nothing
finish (need in_list frames) = None

-- so many turns
abbrev pub run : ℕ → State → List ReadToken → Option Stmts
run n state [] = finish state
run zero state (t ∷ ts) = None
run (suc n) state (t ∷ ts) = turn state t ts >>= run n

-- the statements of a line; each turn reads a token at least, but for an If whose line a block has
abbrev pub statements_of : List ReadToken → Option Stmts
statements_of ts = run (length ts) (need at_line []) ts
