-- Serves the code: reading an expression token by token: a stack of frames holds what waits for an operand, so
-- nothing is read twice.
use Rattle.std.specs.Prelude.{ℕ, suc, List, [], ◌∷◌, Option, Some, None, option_map, Bool, true, nat_lt, if◌then◌else◌}
use Rattle.vba_lexer.specs.declared.token.Token.{Token}
use Rattle.vba_lexer.specs.declared.number.TypeSuffix.{TypeSuffix}
use Rattle.vba_words.specs.declared.identifier.Identifier.{Identifier}
use Rattle.vba_words.specs.declared.reading.ReadToken.{ReadToken}
use Rattle.vba_expression.specs.declared.operator.UnaryOperator.{UnaryOperator}
use Rattle.vba_expression.specs.declared.operator.UnaryOperator.TheVariants as unary_op
use Rattle.vba_expression.specs.declared.operator.BinaryOperator.{BinaryOperator}
use Rattle.vba_expression.specs.declared.operator.BinaryOperator.TheVariants as op
use Rattle.vba_expression.specs.declared.tree.TypeName.{TypeName}
use Rattle.vba_expression.specs.declared.tree.TypeQualifier.{TypeQualifier}
use Rattle.vba_expression.specs.declared.part.Part.{Part}
use Rattle.vba_expression.specs.declared.part.Part.TheVariants as part
use Rattle.vba_expression.specs.Tree.{Expr, literal, me, name, with_member, member, index, parenthesised, new, type_of, unary, binary, Args, no_args, missing, plain, named}
use Rattle.vba_expression.specs.Fitting.{unary_level, binary_level}
use Rattle.vba_expression.specs.Parts.{part_of}

-- what arguments belong to: a call statement, or what stands before their bracket
pub data Head : Type 0 where
  call : Head
  behind : Expr → Token → Head

-- what waits for an operand, by what the operand will be
pub data Frame : Type 0 where
  -- the whole expression, below this level
  whole : ℕ → Frame
  -- the right operand, behind the left one and its operator
  right_operand : Expr → BinaryOperator → Token → Frame
  unary_operand : UnaryOperator → Token → Frame
  -- what stands in parentheses
  inner : Token → Frame
  type_of_operand : Token → Frame
  -- an argument, behind those before it and its comma
  argument : Head → Args → Option Token → Frame
  named_argument : Head → Args → Option Token → Identifier → Token → Frame

-- what was read, the last frame first
pub data State : Type 0 where
  -- an operand is wanted
  want : List Frame → State
  -- a primary was read
  have : Expr → List Frame → State
  -- and a dot behind it
  dotted : Expr → Token → List Frame → State
  -- a dot of a With block was read
  with_dotted : Token → List Frame → State
  -- New was read
  new_wanted : Token → List Frame → State
  -- TypeOf, its operand and Is were read
  class_wanted : Token → Expr → Token → List Frame → State

-- an operand has a level below this one
abbrev pub room : List Frame → ℕ
room (whole limit ∷ frames) = limit
room (right_operand left operator token ∷ frames) = binary_level operator
room (unary_operand operator token ∷ frames) = suc (unary_level operator)
room (type_of_operand token ∷ frames) = 1
room other = 15

-- an operator of this level ends the operands of operators that are as tight or tighter
abbrev pub reduce : ℕ → Expr → List Frame → Expr × List Frame
reduce k e [] = (e, [])
reduce k e (right_operand left operator token ∷ frames) =
    if nat_lt k (binary_level operator) then (e, right_operand left operator token ∷ frames)
    else reduce k (binary left operator token e) frames
reduce k e (unary_operand operator token ∷ frames) =
    if nat_lt k (suc (unary_level operator)) then (e, unary_operand operator token ∷ frames)
    else reduce k (unary operator token e) frames
reduce k e (whole limit ∷ frames) = (e, whole limit ∷ frames)
reduce k e (inner left ∷ frames) = (e, inner left ∷ frames)
reduce k e (type_of_operand word ∷ frames) = (e, type_of_operand word ∷ frames)
reduce k e (argument head before comma ∷ frames) = (e, argument head before comma ∷ frames)
reduce k e (named_argument head before comma identifier colon_equal ∷ frames) =
    (e, named_argument head before comma identifier colon_equal ∷ frames)

-- does the operand on top go on at an operator of this level?
abbrev pub stays_open : ℕ → List Frame → Bool
stays_open k (right_operand left operator token ∷ frames) = nat_lt k (binary_level operator)
stays_open k (unary_operand operator token ∷ frames) = nat_lt k (suc (unary_level operator))
stays_open k other = true

-- the operation that waits in a frame, with its last operand
abbrev pub operation : Frame → Expr → Expr
operation (right_operand left operator token) e = binary left operator token e
operation (unary_operand operator token) e = unary operator token e
operation other e = e

-- the loosest level: a bracket, a comma and the end of the expression end every operand
abbrev pub loosest : ℕ
loosest = 14

-- a type of one name
abbrev pub short_type : Identifier → TypeName
short_type identifier = record { qualifier = None; name = identifier }

-- a type of two names
abbrev pub long_type : Identifier → Token → Identifier → TypeName
long_type first dot last = record { qualifier = Some (record { name = first; dot = dot }); name = last }

-- a dot and a name behind New and a type: behind a type of one name they belong to the type, if the name has no suffix
abbrev pub new_behind_dot : Token → Option TypeQualifier → Identifier → Token → Identifier → Option TypeSuffix → Expr
new_behind_dot word None first dot last None = new word (long_type first dot last)
new_behind_dot word qualifier first dot last suffix = member (new word (record { qualifier = qualifier; name = first })) dot last

-- the same behind TypeOf
abbrev pub type_of_behind_dot : Token → Expr → Token → Option TypeQualifier → Identifier → Token → Identifier → Option TypeSuffix → Expr
type_of_behind_dot word operand is_word None first dot last None = type_of word operand is_word (long_type first dot last)
type_of_behind_dot word operand is_word qualifier first dot last suffix =
    member (type_of word operand is_word (record { qualifier = qualifier; name = first })) dot last

-- a dot and a name behind a primary
abbrev pub behind_dot : Expr → Token → Identifier → Expr
behind_dot (new word class) dot last = new_behind_dot word class.qualifier class.name dot last last.suffix
behind_dot (type_of word operand is_word class) dot last =
    type_of_behind_dot word operand is_word class.qualifier class.name dot last last.suffix
behind_dot e dot last = member e dot last

-- the arguments behind the last comma: where nothing stands behind it, one that isn't written
abbrev pub last_missing : Args → Option Token → Args
last_missing before None = before
last_missing before (Some comma) = missing before (Some comma)

-- an operator behind its left operand
abbrev pub with_operator : Expr → List Frame → BinaryOperator → Token → Option State
with_operator e frames operator token =
    if nat_lt (binary_level operator) (room frames) then Some (want (right_operand e operator token ∷ frames)) else None

-- a binary operator behind the operand that it ends; the Is of TypeOf is no operator
abbrev pub operated : Expr → List Frame → BinaryOperator → Token → Option State
operated e (type_of_operand word ∷ frames) op.Is token = Some (class_wanted word e token frames)
operated e frames operator token = with_operator e frames operator token

-- a unary operator before the operand that is wanted
abbrev pub operating : List Frame → UnaryOperator → Token → Option State
operating frames operator token =
    if nat_lt (unary_level operator) (room frames) then Some (want (unary_operand operator token ∷ frames)) else None

-- a comma behind an argument
abbrev pub next_argument : Expr → List Frame → Token → Option State
next_argument e (argument head before comma ∷ frames) token =
    Some (want (argument head (plain before comma e) (Some token) ∷ frames))
next_argument e (named_argument head before comma identifier colon_equal ∷ frames) token =
    Some (want (argument head (named before comma identifier colon_equal e) (Some token) ∷ frames))
next_argument e other token = None

-- a comma where an argument may stand
abbrev pub missing_argument : List Frame → Token → Option State
missing_argument (argument head before comma ∷ frames) token =
    Some (want (argument head (missing before comma) (Some token) ∷ frames))
missing_argument other token = None

-- `)` behind an operand
abbrev pub closed : Expr → List Frame → Token → Option State
closed e (inner left ∷ frames) right = Some (have (parenthesised left e right) frames)
closed e (argument (behind base left) before comma ∷ frames) right =
    Some (have (index base left (plain before comma e) right) frames)
closed e (named_argument (behind base left) before comma identifier colon_equal ∷ frames) right =
    Some (have (index base left (named before comma identifier colon_equal e) right) frames)
closed e other right = None

-- `)` where an argument may stand
abbrev pub closed_early : List Frame → Token → Option State
closed_early (argument (behind base left) before comma ∷ frames) right =
    Some (have (index base left (last_missing before comma) right) frames)
closed_early other right = None

-- the name that an expression is
abbrev pub name_in : Expr → Option Identifier
name_in (name identifier) = Some identifier
name_in other = None

-- `:=` behind a name that stands where an argument may stand
abbrev pub naming_argument : Expr → List Frame → Token → Option State
naming_argument (name identifier) (argument head before comma ∷ frames) token =
    Some (want (named_argument head before comma identifier token ∷ frames))
naming_argument other frames token = None

-- where an operand is wanted
abbrev pub wanted : List Frame → Token → Part → Option State
wanted frames token (part.Literal value) = Some (have (literal (record { token = token; value = value })) frames)
wanted frames token (part.Name identifier) = Some (have (name identifier) frames)
wanted frames token part.Me = Some (have (me token) frames)
wanted frames token part.New = Some (new_wanted token frames)
wanted frames token part.TypeOf = Some (want (type_of_operand token ∷ frames))
wanted frames token part.Not = operating frames unary_op.Not token
wanted frames token (part.Operator op.Subtract) = operating frames unary_op.Minus token
wanted frames token part.LeftParenthesis = Some (want (inner token ∷ frames))
wanted frames token part.RightParenthesis = closed_early frames token
wanted frames token part.Comma = missing_argument frames token
wanted frames token part.WithDot = Some (with_dotted token frames)
wanted frames token other = None

-- behind a primary
abbrev pub had : Expr → List Frame → Token → Part → Option State
had e frames token (part.Operator operator) =
    let p = reduce (binary_level operator) e frames in operated p.0 p.1 operator token
had e frames token part.LeftParenthesis = Some (want (argument (behind e token) no_args None ∷ frames))
had e frames token part.Dot = Some (dotted e token frames)
had e frames token part.Comma = let p = reduce loosest e frames in next_argument p.0 p.1 token
had e frames token part.RightParenthesis = let p = reduce loosest e frames in closed p.0 p.1 token
had e frames token part.ColonEqual = naming_argument e frames token
had e frames token other = None

-- the name that a part is
abbrev pub name_of : Part → Option Identifier
name_of (part.Name identifier) = Some identifier
name_of other = None

-- the state that a name leads to
abbrev pub named_by : (Identifier → State) → Part → Option State
named_by next p = option_map next (name_of p)

-- what there is where no suffix stands
abbrev pub unless_suffixed : {A : Type 0} → Option TypeSuffix → A → Option A
unless_suffixed None found = Some found
unless_suffixed (Some suffix) found = None

-- the name that a part is, if it has no suffix
abbrev pub plain_name_of : Part → Option Identifier
plain_name_of (part.Name identifier) = unless_suffixed identifier.suffix identifier
plain_name_of other = None

-- the state that the name of a type leads to, which has no suffix
abbrev pub classed_by : (Identifier → State) → Part → Option State
classed_by next p = option_map next (plain_name_of p)

-- the state that a token leads to, if it can be read
abbrev pub after : State → Token → Part → Option State
after (want frames) token p = wanted frames token p
after (have e frames) token p = had e frames token p
after (dotted e dot frames) token p = named_by (λ identifier. have (behind_dot e dot identifier) frames) p
after (with_dotted dot frames) token p = named_by (λ identifier. have (with_member dot identifier) frames) p
after (new_wanted word frames) token p = classed_by (λ identifier. have (new word (short_type identifier)) frames) p
after (class_wanted word operand is_word frames) token p =
    classed_by (λ identifier. have (type_of word operand is_word (short_type identifier)) frames) p

abbrev pub step : State → ReadToken → Option State
step state t = after state t.token (part_of t)

abbrev pub next : {A : Type 0} → Option State → (State → A) → A → A
next (Some state) go stop = go state
next None go stop = stop

-- as far as tokens can be read, and what is left of them
abbrev pub run : State → List ReadToken → State × List ReadToken
run state [] = (state, [])
run state (t ∷ ts) = next (step state t) (λ s. run s ts) (state, t ∷ ts)

-- every operand is ended but those in brackets, as before what can't be read
abbrev pub settled : State → State
settled (have e frames) = let p = reduce loosest e frames in have p.0 p.1
settled other = other

-- the whole expression, where no other operand is waited for
abbrev pub finished : State → Option Expr
finished (have e (whole limit ∷ [])) = Some e
finished other = None

-- the arguments of a call statement, where no other operand is waited for
abbrev pub finished_arguments : State → Option Args
finished_arguments (have e (argument call before comma ∷ [])) = Some (plain before comma e)
finished_arguments (have e (named_argument call before comma identifier colon_equal ∷ [])) =
    Some (named before comma identifier colon_equal e)
finished_arguments (want (argument call before comma ∷ [])) = Some (last_missing before comma)
finished_arguments other = None

abbrev pub with_rest : {A : Type 0} → List ReadToken → Option A → Option (A × List ReadToken)
with_rest rest None = None
with_rest rest (Some tree) = Some (tree, rest)

-- the expression below a level at the front of tokens, as long as it can be, and the tokens behind it
abbrev pub expression_at : ℕ → List ReadToken → Option (Expr × List ReadToken)
expression_at limit ts = let r = run (want (whole limit ∷ [])) ts in with_rest r.1 (finished (settled r.0))

-- the arguments of a call statement at the front of tokens, as many as there can be, and the tokens behind them
abbrev pub arguments_at : List ReadToken → Option (Args × List ReadToken)
arguments_at ts = let r = run (want (argument call no_args None ∷ [])) ts in with_rest r.1 (finished_arguments (settled r.0))
