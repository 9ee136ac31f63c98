-- Serves the code: reading an assignment or a call: what is assigned to or called is as long as it can be.
use Rattle.std.specs.Prelude.{Bool, ◌||◌, List, ◌∷◌, ◌++◌, Option, None, if◌then◌else◌}
use Rattle.vba_lexer.specs.declared.token.Token.{Token}
use Rattle.vba_words.specs.declared.mark.Mark.TheVariants as mark
use Rattle.vba_words.specs.declared.reading.ReadToken.{ReadToken}
use Rattle.vba_words.specs.Spelling.{marked, naming}
use Rattle.vba_expression.specs.Tree.{Expr, name, me, with_member, member, index}
use Rattle.vba_expression.specs.Spelling.{spell, spell_args}
use Rattle.vba_expression.specs.Reader.{arguments_at}
use Rattle.vba_tree.specs.Forms.{begins_attribute, begins_print}
use Rattle.vba_tree.specs.Tree.{Simple, assignment, call}
use Rattle.vba_grammar.specs.Front.{Found, ◌>>=◌, or_else, found_as, is_equal, token_at, whole_at, place_at, ending}

-- `=` and a value, behind a place
abbrev pub assigned_at : Option Token → Expr → List ReadToken → Found Simple
assigned_at let_word place ts = ending (token_at is_equal ts >>= λ equal rest. found_as (assignment let_word place equal) (whole_at rest))

-- what a statement can't call: what begins with Attribute or Debug.Print
abbrev pub is_no_call : Expr → Bool
is_no_call called = begins_attribute (spell called) || begins_print (spell called)

-- a call with arguments, where the statement ends behind them
abbrev pub called_at : Expr → List ReadToken → Found Simple
called_at called ts = if is_no_call called then None else ending (found_as (call called) (arguments_at ts))

-- the calls of what begins a place, the longest first; what is not called stands before the rest again
abbrev pub calls_at : Expr → List ReadToken → Found Simple
calls_at (name identifier) rest = called_at (name identifier) rest
calls_at (me token) rest = called_at (me token) rest
calls_at (with_member dot identifier) rest = called_at (with_member dot identifier) rest
calls_at (member base dot identifier) rest =
    or_else (called_at (member base dot identifier) rest) (calls_at base (marked dot mark.Dot ∷ naming identifier ∷ rest))
calls_at (index base left arguments right) rest =
    calls_at base (marked left mark.LeftParenthesis ∷ (spell_args arguments ++ marked right mark.RightParenthesis ∷ rest))
calls_at _ rest = None

-- an assignment or a call
abbrev pub behind_place : Expr → List ReadToken → Found Simple
behind_place place rest = or_else (assigned_at None place rest) (calls_at place rest)

abbrev pub assignment_or_call_at : List ReadToken → Found Simple
assignment_or_call_at ts = place_at ts >>= behind_place
