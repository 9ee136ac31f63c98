-- What the statements of a procedure say, in text order: what they declare, the names of types and labels, and the
-- expressions, each by how it stands there.
use Rattle.std.specs.Prelude.{Bool, ◌||◌, List, [], ◌∷◌, ◌++◌, map, flat_map, Option, Some, None, is_some}
use Rattle.vba_lexer.specs.declared.token.Token.{Token}
use Rattle.vba_words.specs.declared.identifier.Identifier.{Identifier}
use Rattle.vba_expression.specs.declared.tree.TypeName.{TypeName}
use Rattle.vba_expression.specs.Tree.{Expr, name, Args, no_args, missing, plain}
use Rattle.vba_expression.specs.Tree as expr
use Rattle.vba_tree.specs.declared.simple.LabelName.{LabelName}
use Rattle.vba_tree.specs.declared.simple.ErrorHandling.{ErrorHandling}
use Rattle.vba_tree.specs.declared.simple.ErrorHandling.TheVariants as handling
use Rattle.vba_tree.specs.declared.simple.ResumeTarget.{ResumeTarget}
use Rattle.vba_tree.specs.declared.simple.ResumeTarget.TheVariants as target
use Rattle.vba_tree.specs.Tree.{Listed, DeclaredType, named, fixed_text, TypeClause, NewTypeClause, Dim, upper, Dims, Variable, Constant, Parameter, DefaultValue, ResultType, CaseTest, value, comparison, StepClause, LoopCondition, BlockLine, if_line, else_if_line, select_case, case_line, for_line, for_each, do_line, loop_line, while_line, with_line, ReDimArray, EventArguments, Simple, variables, constants, assignment, set_assignment, call_place, call, re_dim, erase, go_to, go_sub, on_error, resume, raise_event, debug_print, block_line, Stmt, simple, if_then, if_else, Stmts, nothing, one, gap, more}
use Rattle.vba_module.specs.Parts.{Part, statement}
use Rattle.vba_module.specs.Headers.{all_of}
use Rattle.binder.specs.Declarations.{Written, FieldWritten, What, a_variable, a_constant, an_enum, a_member, a_type, an_event, a_procedure, Local, a_local, a_local_constant, is_static_word}

pub data Said : Type 0 where
  declares : Local → Said
  type_named : TypeName → Said
  -- behind As New
  new_named : TypeName → Said
  constant_expression : Expr → Said
  -- an expression that is evaluated, a place that is written, or a variable of a loop
  expression : Expr → Said
  -- what a statement calls, without its arguments
  called : Expr → Said
  redimmed : Expr → Option TypeClause → Said
  goes_to : LabelName → Said
  raises : Identifier → Said

-- ---- types, bounds and declarations

abbrev pub type_said : DeclaredType → List Said
type_said (named t) = type_named t ∷ []
type_said (fixed_text string_word times e) = constant_expression e ∷ []

abbrev pub clause_said : Option TypeClause → List Said
clause_said None = []
clause_said (Some c) = type_said c.declared_type

abbrev pub with_new : Option Token → DeclaredType → List Said
with_new (Some token) (named t) = new_named t ∷ []
with_new new_word t = type_said t

abbrev pub new_clause_said : Option NewTypeClause → List Said
new_clause_said None = []
new_clause_said (Some c) = with_new c.new_word c.declared_type

abbrev pub dim_said : (Expr → Said) → Dim → List Said
dim_said said_as (upper e) = said_as e ∷ []
dim_said said_as (Dim.range low to_word high) = said_as low ∷ said_as high ∷ []

abbrev pub listed : {A : Type 0} → Option (Listed A) → List A
listed None = []
listed (Some l) = all_of l

abbrev pub dims_of : Option Dims → List Dim
dims_of None = []
dims_of (Some d) = listed d.dims

abbrev pub dims_said : Option Dims → List Said
dims_said ds = flat_map (dim_said constant_expression) (dims_of ds)

-- the bounds and the type of a variable
abbrev pub variable_said : Variable → List Said
variable_said v = dims_said v.dims ++ new_clause_said v.type_clause

abbrev pub constant_said : Constant → List Said
constant_said c = clause_said c.type_clause ++ constant_expression c.value ∷ []

abbrev pub default_said : Option DefaultValue → List Said
default_said None = []
default_said (Some d) = constant_expression d.value ∷ []

abbrev pub parameter_said : Parameter → List Said
parameter_said p = clause_said p.type_clause ++ default_said p.default

abbrev pub result_said : Option ResultType → List Said
result_said None = []
result_said (Some r) = type_said r.declared_type

abbrev pub header_said : Written → List Said
header_said p = flat_map parameter_said p.parameters ++ result_said p.result

abbrev pub field_said : FieldWritten → List Said
field_said f = dims_said f.dims ++ type_said f.type_clause.declared_type

abbrev pub value_said : Option Expr → List Said
value_said None = []
value_said (Some e) = constant_expression e ∷ []

-- what an entry of a module says; what a procedure says stands in its own scope
abbrev pub entry_said : What → List Said
entry_said (a_variable v) = variable_said v
entry_said (a_constant c) = constant_said c
entry_said an_enum = []
entry_said (a_member e steps) = value_said e
entry_said (a_type fields) = flat_map field_said fields
entry_said (an_event ps) = flat_map parameter_said ps
entry_said (a_procedure p) = []

-- ---- statements

abbrev pub test_said : CaseTest → List Said
test_said (value e) = expression e ∷ []
test_said (CaseTest.range low to_word high) = expression low ∷ expression high ∷ []
test_said (comparison is_word operator token e) = expression e ∷ []

abbrev pub step_said : Option StepClause → List Said
step_said None = []
step_said (Some s) = expression s.value ∷ []

abbrev pub condition_said : Option LoopCondition → List Said
condition_said None = []
condition_said (Some c) = expression c.condition ∷ []

abbrev pub block_said : BlockLine → List Said
block_said (if_line if_word e then_word) = expression e ∷ []
block_said (else_if_line else_if_word e then_word) = expression e ∷ []
block_said (select_case select_word case_word e) = expression e ∷ []
block_said (case_line case_word tests) = flat_map test_said (all_of tests)
block_said (for_line for_word x equal start to_word limit step) =
    expression (name x) ∷ expression start ∷ expression limit ∷ step_said step
block_said (for_each for_word each_word x in_word group) = expression (name x) ∷ expression group ∷ []
block_said (do_line do_word c) = condition_said c
block_said (loop_line loop_word c) = condition_said c
block_said (while_line while_word e) = expression e ∷ []
block_said (with_line with_word e) = expression e ∷ []
-- the name behind Next is compared alone
block_said line = []

-- bounds and lengths of a ReDim are evaluated
abbrev pub redim_type_said : Option TypeClause → List Said
redim_type_said None = []
redim_type_said (Some c) = at c.declared_type
  where
    at : DeclaredType → List Said
    at (named t) = type_named t ∷ []
    at (fixed_text string_word times e) = expression e ∷ []

abbrev pub array_said : ReDimArray → List Said
array_said a = redimmed a.place a.type_clause ∷ (flat_map (dim_said expression) (all_of a.dims) ++ redim_type_said a.type_clause)

abbrev pub handling_said : ErrorHandling → List Said
handling_said (handling.GoTo goto_word l) = goes_to l ∷ []
handling_said other = []

abbrev pub target_said : Option ResumeTarget → List Said
target_said (Some (target.Label l)) = goes_to l ∷ []
target_said other = []

-- the arguments, as an expression that is evaluated
abbrev pub arguments_said : Args → List Said
arguments_said no_args = []
arguments_said (missing before comma) = arguments_said before
arguments_said (plain before comma e) = arguments_said before ++ expression e ∷ []
arguments_said (expr.named before comma x mark e) = arguments_said before ++ expression e ∷ []

abbrev pub event_said : Option EventArguments → List Said
event_said None = []
event_said (Some a) = arguments_said a.arguments

abbrev pub shown_said : Option Expr → List Said
shown_said None = []
shown_said (Some e) = expression e ∷ []

abbrev pub variable_declared : Bool → Variable → List Said
variable_declared static v = declares (record { name = v.name; own = a_local v static }) ∷ variable_said v

abbrev pub constant_declared : Constant → List Said
constant_declared c = declares (record { name = c.name; own = a_local_constant c }) ∷ constant_said c

-- a simple statement, in a Static procedure or not
abbrev pub simple_said : Bool → Simple → List Said
simple_said static (variables word token vs) = flat_map (variable_declared (static || is_static_word word)) (all_of vs)
simple_said static (constants access_word const_word cs) = flat_map constant_declared (all_of cs)
simple_said static (assignment let_word x equal e) = expression x ∷ expression e ∷ []
simple_said static (set_assignment set_word x equal e) = expression x ∷ expression e ∷ []
simple_said static (call_place call_word e) = called e ∷ []
simple_said static (call e arguments) = called e ∷ arguments_said arguments
simple_said static (re_dim redim_word preserve_word arrays) = flat_map array_said (all_of arrays)
simple_said static (erase erase_word places) = map expression (all_of places)
simple_said static (go_to goto_word l) = goes_to l ∷ []
simple_said static (go_sub gosub_word l) = goes_to l ∷ []
simple_said static (on_error on_word error_word h) = handling_said h
simple_said static (resume resume_word t) = target_said t
simple_said static (raise_event raise_word x arguments) = raises x ∷ event_said arguments
simple_said static (debug_print debug_word dot print_word e items) = shown_said e ++ flat_map (λ i. shown_said i.value) items
simple_said static (block_line line) = block_said line
simple_said static s = []

abbrev mutual
  pub said : Bool → Stmt → List Said
  said static (simple s) = simple_said static s
  said static (if_then if_word e then_word ss) = expression e ∷ said_in_list static ss
  said static (if_else if_word e then_word ss else_word es) = expression e ∷ (said_in_list static ss ++ said_in_list static es)

  pub said_in_list : Bool → Stmts → List Said
  said_in_list static nothing = []
  said_in_list static (one s) = said static s
  said_in_list static (gap before colon) = said_in_list static before
  said_in_list static (more before colon s) = said_in_list static before ++ said static s

abbrev pub said_in_part : Bool → Part → List Said
said_in_part static (statement s) = said static s
said_in_part static part = []

-- the body of a procedure
abbrev pub said_in_body : Written → List Said
said_in_body p = flat_map (said_in_part (is_some p.static_word)) p.body
