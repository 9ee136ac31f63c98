-- Serves the code: what stands behind a place: a value for it, or the arguments of its call.
use Rattle.std.specs.Prelude.{ℕ, zero, suc, Bool, true, false, ◌||◌, List, [], ◌∷◌, ◌++◌, length, Some, None, if◌then◌else◌}
use Rattle.vba_lexer.specs.declared.token.Token.{Token}
use Rattle.vba_words.specs.declared.mark.Mark.TheVariants as mark
use Rattle.vba_words.specs.declared.reading.Reading.{Reading}
use Rattle.vba_words.specs.declared.reading.Reading.TheVariants as reading
use Rattle.vba_words.specs.declared.reading.ReadToken.{ReadToken}
use Rattle.vba_expression.specs.Tree.{Expr, Args}
use Rattle.vba_expression.specs.Reader.{arguments_at}
use Rattle.vba_tree.specs.Forms.{begins_attribute, begins_print}
use Rattle.vba_tree.specs.Tree.{Simple, call}
use Rattle.vba_grammar.specs.Front.{Found, ◌>>=◌, found_as, is_equal, token_at, whole_at, place_at, ending}
use Rattle.vba_grammar.specs.Places.{calls_at}
use Rattle.vba_statements.specs.declared.call.Start.{Start}
use Rattle.vba_statements.specs.declared.call.Turn.{Turn}
use Rattle.vba_statements.specs.declared.call.Turn.TheVariants as turn

-- `=` and a value
abbrev pub equal_value : Token → Expr → Token × Expr
equal_value equal value = (equal, value)

-- the same, where the statement ends behind them
abbrev pub equal_value_at : List ReadToken → Found (Token × Expr)
equal_value_at ts = ending (token_at is_equal ts >>= λ equal rest. found_as (equal_value equal) (whole_at rest))

-- what a token does to brackets and members
abbrev pub turn_of : Reading → Turn
turn_of (reading.Mark mark.LeftParenthesis) = turn.Opens
turn_of (reading.Mark mark.RightParenthesis) = turn.Closes
turn_of (reading.Mark mark.Dot) = turn.Dots
turn_of _ = turn.Stays

-- how many brackets are open behind it
abbrev pub depth_behind : Turn → ℕ → ℕ
depth_behind turn.Opens depth = suc depth
depth_behind turn.Closes zero = zero
depth_behind turn.Closes (suc depth) = depth
depth_behind other depth = depth

-- a member or a bracket that begins with it, outside of brackets, where so many tokens are left
abbrev pub start_at : Turn → ℕ → ℕ → List Start
start_at turn.Opens zero count = record { left = count; is_bracket = true } ∷ []
start_at turn.Dots zero count = record { left = count; is_bracket = false } ∷ []
start_at other depth count = []

-- where members and brackets begin, outside of brackets
abbrev pub starts : ℕ → List ReadToken → List Start
starts depth [] = []
starts depth (t ∷ ts) =
    start_at (turn_of t.reading) depth (suc (length ts)) ++ starts (depth_behind (turn_of t.reading) depth) ts

-- the call of the place that is these tokens
abbrev pub with_target : Args → List ReadToken → Found Expr → Found Simple
with_target arguments rest None = None
with_target arguments rest (Some place) = Some (call place.0 arguments, rest)

abbrev pub call_by : List ReadToken → List ReadToken → Found Simple
call_by spelled ts =
    if begins_attribute spelled || begins_print spelled then None
    else (ending (arguments_at ts) >>= λ arguments rest. with_target arguments rest (place_at spelled))

-- the same, unless the place ends in a bracket
abbrev pub call_unless : Bool → List ReadToken → List ReadToken → Found Simple
call_unless is_bracket spelled ts = if is_bracket then None else call_by spelled ts

-- the calls of what begins the place at the front, the longest first
abbrev pub place_calls : List ReadToken → Found Simple
place_calls ts = place_at ts >>= calls_at
