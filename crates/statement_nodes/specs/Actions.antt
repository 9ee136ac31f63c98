-- Serves the code: what a statement does, by the scope of its part.
use Rattle.std.specs.Prelude.{◌≡◌, Bool, true, false, List, [], ◌∷◌, Option, Some, IfSome, IsSome, is_some, option_map, option_and_then}
use Rattle.vba_base.specs.declared.place.Place.{Place}
use Rattle.vba_values.specs.Types.{Declared}
use Rattle.vba_values.specs.Types as type
use Rattle.vba_module.specs.Parts.{place_of}
use Rattle.vba_module.specs.Headers.{all_of}
use Rattle.vba_words.specs.declared.identifier.Identifier.{Identifier}
use Rattle.vba_lexer.specs.declared.token.Token.{Token}
use Rattle.vba_expression.specs.Tree.{Expr}
use Rattle.vba_tree.specs.Tree as tree
use Rattle.vba_tree.specs.Tree.{BlockLine, Simple}
use Rattle.bound_project.specs.declared.declared_type.DeclaredType.{DeclaredType}
use Rattle.bound_project.specs.declared.statement.ActionKind.{ActionKind}
use Rattle.bound_project.specs.declared.statement.ActionKind.TheVariants as kind
use Rattle.bound_project.specs.Expressions as bound
use Rattle.bound_project.specs.Statements as to
use Rattle.bound_project.specs.Statements.{Action}
use Rattle.bound_project.specs.Bodies.{action_of}
use Rattle.bound_project.specs.Drafts.{Drafted, ActionNamed, no_tables}
use Rattle.bound_project.specs.Pieces.{Piece, an_expr}
use Rattle.bound_project.specs.View.{declared_view}
use Rattle.bound_calls.specs.bound_declarations.specs.constant_values.specs.declared_names.specs.binder.specs.Options.{from_two}
use Rattle.bound_calls.specs.bound_declarations.specs.constant_values.specs.declared_names.specs.binder.specs.Constants.{compare_in, place_of_expression}
use Rattle.bound_calls.specs.bound_declarations.specs.constant_values.specs.declared_names.specs.binder.specs.Numbering.{Opened, Standing, Sought, here, an_arm, behind_block, sought_behind}
use Rattle.bound_calls.specs.bound_forms.specs.Terms as terms
use Rattle.bound_calls.specs.bound_forms.specs.Operands.{may_be_instance, place_told}
use Rattle.bound_calls.specs.bound_forms.specs.ExpressionsBound.{bound_as_given, bound_operand, givens, term_of}
use Rattle.bound_calls.specs.bound_forms.specs.Targets.{assigned_to, set_given, value_given}
use Rattle.bound_calls.specs.bound_forms.specs.StatementsBound.{Around, called_place, called_with, event_arguments, event_raised, redim_arrays, erased_arrays, value_shown, items_shown, ends_line, simple_action, block_action, loop_variable, if_broken, cannot_count, for_each_of, is_other_name, name_place, loop_name, next_action, loop_action, for_action, step_value, step_place, case_tests, selected, line_of, walked, with_action}
use Rattle.bound_calls.specs.bound_declarations.specs.constant_values.specs.declared_names.specs.binder.specs.Blocks.{header_of}
use Rattle.bound_calls.specs.Standing.{PushedIs}

-- a condition of a line: where it holds, control goes to the first statement of its block
abbrev pub branch_in : terms.Env → Standing → Sought → Expr → Option Action
branch_in env s elsewhere e = option_map (λ c. to.test true c (sought_behind here s) (sought_behind elsewhere s)) (bound_operand env e)

abbrev pub case_in : terms.Env → Around → Standing → List tree.CaseTest → Option Action
case_in env a s tests =
    from_two (λ v ts. to.case_of ts (header_of s.around) (bound.operand_type v) (compare_in env.scope) (sought_behind here s) (sought_behind (an_arm 0) s))
    (selected a s.around) (case_tests env tests)

-- a For with this variable
abbrev pub counted_in : terms.Env → Standing → Option bound.Variable → (start limit : Expr) → Option tree.StepClause → Option Action
counted_in env s x start limit step =
    for_action x env (bound_operand env start) (bound_operand env limit) (step_value env (place_of s.part) step) (place_of_expression limit) (step_place step)
    (sought_behind here s) (sought_behind (behind_block 0) s)

abbrev pub for_in : terms.Env → Standing → Identifier → (start limit : Expr) → Option tree.StepClause → Option Action
for_in env s x start limit step = if_broken (cannot_count (loop_variable env x)) 29 x.token.place (counted_in env s (loop_variable env x) start limit step)

abbrev pub each_in : terms.Env → Standing → Identifier → Expr → Option Action
each_in env s x group =
    option_and_then (λ v. option_map (for_each_of env v x.token.place (place_told group) (sought_behind here s) (sought_behind (behind_block 0) s)) (bound_as_given env group)) (loop_variable env x)

abbrev pub next_in : terms.Env → Standing → Option Identifier → Option Action
next_in env s x = if_broken (is_other_name x (loop_name s.around)) 29 (name_place x) (next_action env s.around)

-- a line of a block, in this scope
abbrev pub block_in : terms.Env → Around → Standing → BlockLine → Option Action
block_in env a s (tree.if_line if_word e then_word) = branch_in env s (an_arm 0) e
block_in env a s (tree.else_if_line else_if_word e then_word) = branch_in env s (an_arm 0) e
block_in env a s (tree.select_case select_word case_word e) = option_map (λ v. to.select v (sought_behind (an_arm 0) s)) (bound_as_given env e)
block_in env a s (tree.case_line case_word tests) = case_in env a s (all_of tests)
block_in env a s (tree.for_line for_word x equal start to_word limit step) = for_in env s x start limit step
block_in env a s (tree.for_each for_word each_word x in_word group) = each_in env s x group
block_in env a s (tree.next_line next_word x) = next_in env s x
block_in env a s (tree.do_line do_word c) = loop_action env c (sought_behind here s) (sought_behind (behind_block 0) s)
block_in env a s (tree.loop_line loop_word c) = loop_action env c (header_of s.around) (sought_behind here s)
block_in env a s (tree.while_line while_word e) = branch_in env s (behind_block 0) e
block_in env a s (tree.with_line with_word e) = with_action (term_of env e) env (place_told e)
block_in env a s line = block_action a s line

-- a statement other than a single-line If, in this scope
abbrev pub simple_in : terms.Env → Around → Standing → Simple → Option Action
simple_in env a s (tree.assignment let_word x equal e) = option_and_then (assigned_to env x) (value_given env x e)
simple_in env a s (tree.set_assignment set_word x equal e) = option_and_then (set_given env set_word.place x) (bound_as_given env e)
simple_in env a s (tree.call_place call_word e) = called_place env e
simple_in env a s (tree.call e args) = called_with env e (givens env args)
simple_in env a s (tree.re_dim redim_word preserve_word arrays) = option_map (to.redim (is_some preserve_word)) (redim_arrays env (all_of arrays))
simple_in env a s (tree.erase erase_word places) = option_map to.erase (erased_arrays env (all_of places))
simple_in env a s (tree.debug_print debug_word dot print_word e items) =
    option_map (λ ps. to.print ps (ends_line items)) (value_shown env e (items_shown env items))
simple_in env a s (tree.raise_event raise_word x arguments) = event_raised env x (event_arguments env arguments)
simple_in env a s (tree.block_line line) = block_in env a s line
simple_in env a s x = simple_action a s x

-- kinds that take no values
abbrev pub is_alone : ActionKind → Bool
is_alone (kind.GoTo to) = true
is_alone (kind.GoSub to) = true
is_alone kind.Return = true
is_alone (kind.ExitTo end) = true
is_alone (kind.OnError handling) = true
is_alone kind.EndHandler = true
is_alone kind.ResumeAgain = true
is_alone kind.ResumeNext = true
is_alone (kind.ResumeAt to) = true
is_alone kind.Stop = true
is_alone kind.End = true
is_alone (kind.Next counter header first) = true
is_alone (kind.NextEach control header first) = true
is_alone (kind.ExitEach header to) = true
is_alone (kind.EndWith header) = true
is_alone k = false

-- what they do
abbrev pub done_alone : ActionKind → Option Action
done_alone k = action_of no_tables k []

-- the nodes of a statement fit what it does
pub record KindFits (k : ActionKind) (d : Drafted) : Type 0 where
  pub named : ActionNamed d.tables k
  pub fits : IsSome (action_of d.tables k d.pieces)

-- a value has this type as an operand
pub record OperandIs (found : Option bound.Expr) (of : DeclaredType) : Type 0 where
  pub value : bound.Expr
  pub is : found ≡ Some value
  pub operand : bound.operand_type value ≡ declared_view of

-- this is the value of the Select Case that stands open
pub record Selects (around : List Opened) (e : Expr) : Type 0 where
  pub outside : List Opened
  pub header : Opened
  pub select_word : Token
  pub case_word : Token
  pub is : around ≡ header ∷ outside
  pub opened : line_of header.line ≡ Some (tree.select_case select_word case_word e)

-- ---- drafts of which only the pieces change, beside the tables

pub record OnlyPieces (d e : Drafted) : Type 0 where
  pub statements : e.statements ≡ d.statements
  pub bodies : e.bodies ≡ d.bodies

-- a value was pushed, of this type as an operand
pub record ValuePushed (found : Option bound.Expr) (of : DeclaredType) (d e : Drafted) : Type 0 where
  pub same : OnlyPieces d e
  pub pushed : PushedIs of found e.pieces d.pieces

-- the values of a For were pushed, of these types as operands
pub record ForValues (start last step : Option bound.Expr) (to_type by : DeclaredType) (d g : Drafted) : Type 0 where
  pub of : DeclaredType
  pub behind_start : Drafted
  pub behind_last : Drafted
  pub start_pushed : ValuePushed start of d behind_start
  pub last_pushed : ValuePushed last to_type behind_start behind_last
  pub step_pushed : ValuePushed step by behind_last g

-- a value was pushed as it is, of this type and told at this place, and whether it may be an object of a class, where that
-- is known
pub record GroupPushed (env : terms.Env) (e : Expr) (of : DeclaredType) (place : Place) (may : Option Bool) (d f : Drafted) : Type 0 where
  pub pushed : ValuePushed (bound_as_given env e) of d f
  pub place_is : place ≡ place_told e
  pub may_is : IfSome may (λ (b : Bool). may_be_instance env pushed.pushed.made ≡ b)

-- a type of arrays of a Type's values
abbrev pub holds_types : Declared → Bool
holds_types (type.array_of of) = terms.is_user_type of
holds_types of = false

-- whether a value of a type, which may be an object of a class or not, is walked by what its enumerator gives
abbrev pub is_enumerated : Declared → (may : Bool) → Bool
is_enumerated (type.array_of of) may = false
is_enumerated of may = may

-- what a For Each goes over was pushed, and behind it what it is walked by
pub record Walks (may : Bool) (of : DeclaredType) (place : Place) (d e : Drafted) : Type 0 where
  pub same : OnlyPieces d e
  pub stands : (env : terms.Env) (made : bound.Expr) (below : List Piece) → may_be_instance env made ≡ may → bound.operand_type made ≡ declared_view of → d.pieces ≡ an_expr made ∷ below → e.pieces ≡ an_expr (walked env place made) ∷ below
