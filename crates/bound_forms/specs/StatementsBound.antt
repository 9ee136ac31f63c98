-- The statements of a procedure in one list ([MS-VBAL] 5.4).
use Rattle.std.specs.Prelude.{ℕ, zero, suc, ◌+◌, ◌==◌, Bool, true, false, ◌&&◌, ◌||◌, not, bytes_eq, pos, List, ◌∷◌, ◌++◌, length, codes, Option, Some, None, is_some, option_map, option_and_then, unwrap_or, if◌then◌else◌, []}
use Rattle.vba_base.specs.declared.place.Place.{Place}
use Rattle.vba_values.specs.Comparison.{is_number}
use Rattle.vba_values.specs.Types.{Declared}
use Rattle.vba_values.specs.Types as type
use Rattle.vba_values.specs.Val.{Val, missing, whole}
use Rattle.vba_values.specs.Coerce.{is_same_type}
use Rattle.vba_words.specs.declared.identifier.Identifier.{Identifier}
use Rattle.vba_expression.specs.Tree.{Expr, name, index}
use Rattle.vba_tree.specs.declared.block.LoopWord.{LoopWord}
use Rattle.vba_tree.specs.declared.simple.ExitKind.{ExitKind}
use Rattle.vba_tree.specs.declared.simple.ErrorHandling.{ErrorHandling}
use Rattle.vba_tree.specs.declared.simple.ResumeTarget.{ResumeTarget}
use Rattle.vba_tree.specs.declared.simple.PrintMark.{PrintMark}
use Rattle.vba_tree.specs.Tree.{TypeClause, Dim, upper, CaseTest, value, comparison, StepClause, LoopCondition, BlockLine, if_line, else_if_line, select_case, case_line, for_line, for_each, next_line, do_line, loop_line, while_line, wend, with_line, end_with, ReDimArray, PrintItem, Simple, assignment, set_assignment, call_place, call, re_dim, erase, go_to, go_sub, return_from, exit, end, on_error, resume, debug_print, raise_event, EventArguments, block_line, Stmt, simple, if_then, if_else, Stmts, nothing, one, gap, more}
use Rattle.vba_tree.specs.Tree as tree
use Rattle.vba_module.specs.Parts.{Part, statement, place_of}
use Rattle.vba_module.specs.Blocks.{for_loop, do_loop, same_kind}
use Rattle.vba_module.specs.Headers.{all_of}
use Rattle.vba_module.specs.Misplaced.{statement_place}
use Rattle.bound_project.specs.Expressions.{Variable, constant, enumerated, Lvalue, variable, Exprs, no_exprs, also, Prints, no_prints, shown, zone, item, element, field, kept_place, object_field, as_new, element_along, late_field, value_place}
use Rattle.bound_project.specs.Expressions as bound
use Rattle.bound_project.specs.Statements.{Statement, Action, Tests, no_tests, test_is, test_range, passed_on, skipped, handled_at, Resizes, no_resizes, resize, Arrays, no_arrays, an_array}
use Rattle.bound_project.specs.Statements as to
use Rattle.bound_project.specs.Project.{Parameter, DeclaredEvent, nowhere}
use Rattle.binder.specs.Sources.{base_of}
use Rattle.binder.specs.Options.{or_else, from_two, from_three}
use Rattle.binder.specs.Scopes.{first_at}
use Rattle.binder.specs.Constants.{is_variant, operator_kind, compare_in, home, place_of_expression, known_length}
use Rattle.binder.specs.Types.{written_type, is_object}
use Rattle.binder.specs.Numbering.{count, count_list, simple_count, here, an_arm, behind_block, behind_kind, Opened, Standing, sought_behind}
use Rattle.bound_forms.specs.Terms.{Within, Env, Term, a_place, a_value, a_routine, a_host_member, err_raise, err_clear, error_word, expression_of, broken_rule, is_user_type, Given, bound_arguments, has_names, a_method}
use Rattle.bound_forms.specs.ClassDefaults.{breaks}
use Rattle.binder.specs.EventTables.{declared_events}
use Rattle.binder.specs.Blocks.{label_number, next_number, header_of}
use Rattle.vba_values.specs.declared.types.OpKind.TheVariants as op
use Rattle.vba_values.specs.declared.types.WholeKind.TheVariants as kind
use Rattle.vba_tree.specs.declared.block.LoopWord.TheVariants as loop_word
use Rattle.vba_tree.specs.declared.simple.ExitKind.TheVariants as exits
use Rattle.vba_tree.specs.declared.simple.ErrorHandling.TheVariants as handling
use Rattle.vba_tree.specs.declared.simple.ResumeTarget.TheVariants as target
use Rattle.vba_tree.specs.declared.simple.PrintMark.TheVariants as print_mark
use Rattle.bound_forms.specs.Operands.{place_told, may_be_instance, alone, given_as, argument_of}
use Rattle.bound_forms.specs.Members.{item_of}
use Rattle.bound_forms.specs.ExpressionsBound.{indexed, callee, term_of, givens, bound_as_given, bound_operand}
use Rattle.bound_forms.specs.Targets.{untaken, assigned_to, value_given, set_given}

-- ---- the procedure round a statement

-- its scope, its parts, and the number of its end
pub record Around : Type 0 where
  pub env : Env
  pub parts : List Standing
  pub end : ℕ

-- ---- With blocks

-- what the With block with this header keeps
abbrev pub keeps : ℕ → Term → Option Within
keeps header (a_place x of bounds lends makes) = Some (record { header = header; of = of; lends = lends })
keeps header (a_value node of) = Some (record { header = header; of = of; lends = false })
keeps header other = None

abbrev pub with_object : Part → Option Expr
with_object (statement (simple (block_line (with_line with_word e)))) = Some e
with_object part = None

-- a block by what it keeps, where it is a With, or else what stands round it
abbrev pub with_or : Option Expr → Env → ℕ → Option Within → Option Within
with_or None env header outside = outside
with_or (Some e) env header outside = keeps header (alone env (place_told e) (term_of (record env { within = outside }) e))

-- the nearest With block of those that stand open
abbrev pub within : Env → List Opened → Option Within
within env [] = None
within env (o ∷ os) = with_or (with_object o.line) env o.header (within env os)

-- the scope of a part
abbrev pub env_at : Around → Standing → Env
env_at a s = record a.env { within = within a.env s.around }

-- ---- simple statements

-- what is called with arguments
abbrev pub raise_parameter : List ℕ → Declared → Option Val → Parameter
raise_parameter fold of default = record { name = record { spelling = fold; fold = fold }; of = of; by_reference = false; default = default; many = false }

-- Err.Raise Number, [Source], [Description]
abbrev pub raise_parameters : List Parameter
raise_parameters =
    raise_parameter (codes "number") type.long None ∷ raise_parameter (codes "source") type.text (Some missing)
    ∷ raise_parameter (codes "description") type.text (Some missing) ∷ []

abbrev pub raised : Env → Place → List Given → Option Action
raised env place gs =
    or_else (option_map to.raise (bound_arguments (argument_of env) raise_parameters gs)) (option_map (λ es. to.evaluate (broken_rule 25 place es)) (untaken env raise_parameters gs))

-- Error has the number alone
abbrev pub is_one : List Given → Bool
is_one gs = length gs == 1 && not (has_names gs)

abbrev pub called_term : Env → Place → Term → List Given → Option Action
called_term env place err_raise gs = raised env place gs
called_term env place err_clear [] = Some to.clear_err
called_term env place error_word gs = if is_one gs then raised env place gs else None
called_term env place (a_routine space number p) gs = option_map to.evaluate (given_as env (indexed env place (a_routine space number p) gs) place)
called_term env place (a_method base space number p) gs = option_map to.evaluate (given_as env (indexed env place (a_method base space number p) gs) place)
called_term env place t [] = option_map to.evaluate (given_as env t place)
called_term env place t gs = option_map to.evaluate (given_as env (indexed env place (item_of env place t) gs) place)

abbrev pub called_with : Env → Expr → List Given → Option Action
called_with env e gs = called_term env (place_told e) (callee env e (term_of env e)) gs

-- Call place: the last brackets have the arguments
abbrev pub called_place : Env → Expr → Option Action
called_place env (index base left args right) = called_with env base (givens env args)
called_place env e = called_with env e []

-- RaiseEvent: an event of the own class, by its number, with what its parameters take; S25 where they don't take it
abbrev pub event_arguments : Env → Option EventArguments → List Given
event_arguments env None = []
event_arguments env (Some a) = givens env a.arguments

abbrev pub event_with : Env → Place → List Given → ℕ × DeclaredEvent → Option Action
event_with env place gs found =
    or_else (option_map (λ args. to.raise_event found.0 args) (bound_arguments (argument_of env) found.1.parameters gs))
    (option_map (λ es. to.evaluate (broken_rule 25 place es)) (untaken env found.1.parameters gs))

abbrev pub event_raised : Env → Identifier → List Given → Option Action
event_raised env x gs =
    option_and_then (event_with env x.token.place gs)
    (first_at (λ (e : DeclaredEvent). bytes_eq e.name.fold x.name) 0 (declared_events (home env.scope env.scope.here) env.scope.here.entries))

-- ReDim: the base of the module where no low bound is written
abbrev pub integer : Place → ℕ → bound.Expr
integer place n = expression_of (constant (whole kind.Integer (pos n))) place type.integer

abbrev pub redim_bounds : Env → List Dim → Option Exprs
redim_bounds env [] = Some no_exprs
redim_bounds env (upper e ∷ ds) =
    from_two (λ high es. also (integer (place_of_expression e) (base_of env.scope.here.source)) (also high es)) (bound_operand env e) (redim_bounds env ds)
redim_bounds env (Dim.range low to_word high ∷ ds) = from_three (λ a b es. also a (also b es)) (bound_operand env low) (bound_operand env high) (redim_bounds env ds)

abbrev pub redim_type : Env → Option TypeClause → Option Declared
redim_type env None = None
redim_type env (Some c) = Some (written_type (known_length env.scope) env.scope c.declared_type)

abbrev pub place_in : Term → Option Lvalue
place_in (a_place x of bounds lends makes) = Some x
place_in (a_host_member e m) = if m.late then Some (late_field e m.name) else None
place_in other = None

-- S27: only an array of the elements that are written, and a Variant, gets others
abbrev pub may_resize : Term → Option Declared → Bool
may_resize (a_place x (type.array_of of) bounded lends makes) None = true
may_resize (a_place x (type.array_of of) bounded lends makes) (Some written) = is_same_type written of
may_resize (a_place x type.variant bounded lends makes) written = true
may_resize (a_host_member e m) written = m.late
may_resize t written = false

-- what is no place is a value that no variable has
abbrev pub resized_place : Place → Term → Lvalue
resized_place place (a_value node of) = value_place (expression_of node place of)
resized_place place t = unwrap_or (place_in t) (value_place (broken_rule 27 place no_exprs))

-- the last bound stands for what breaks a rule
abbrev pub last_broken : Place → Exprs → Exprs
last_broken place no_exprs = no_exprs
last_broken place (also e no_exprs) = also (broken_rule 27 place (also e no_exprs)) no_exprs
last_broken place (also e es) = also e (last_broken place es)

abbrev pub resized_by : Env → ReDimArray → Exprs → Exprs
resized_by env a es = if may_resize (term_of env a.place) (redim_type env a.type_clause) then es else last_broken (place_told a.place) es

abbrev pub redim_arrays : Env → List ReDimArray → Option Resizes
redim_arrays env [] = Some no_resizes
redim_arrays env (a ∷ others) =
    from_two (λ es rs. resize (resized_place (place_told a.place) (term_of env a.place)) (resized_by env a es) (redim_type env a.type_clause) rs) (redim_bounds env (all_of a.dims)) (redim_arrays env others)

abbrev pub erased_arrays : Env → List Expr → Option Arrays
erased_arrays env [] = Some no_arrays
erased_arrays env (e ∷ es) = from_two an_array (place_in (term_of env e)) (erased_arrays env es)

-- Debug.Print
abbrev pub value_shown : Env → Option Expr → Option Prints → Option Prints
value_shown env None ps = ps
value_shown env (Some e) ps = from_two shown (bound_operand env e) ps

abbrev pub mark_shown : PrintMark → Option Prints → Option Prints
mark_shown print_mark.Semicolon ps = ps
mark_shown print_mark.Comma ps = option_map zone ps

abbrev pub items_shown : Env → List PrintItem → Option Prints
items_shown env [] = Some no_prints
items_shown env (i ∷ is) = mark_shown i.mark (value_shown env i.value (items_shown env is))

-- a mark at the end leaves the line open
abbrev pub ends_line : List PrintItem → Bool
ends_line [] = true
ends_line (i ∷ []) = is_some i.value
ends_line (i ∷ is) = ends_line is

abbrev pub on_handling : Around → ErrorHandling → Option Action
on_handling a (handling.GoTo goto_word l) = option_map (λ n. to.on_error (handled_at n)) (label_number a.parts l)
on_handling a (handling.GoToZero goto_word digit) = Some (to.on_error passed_on)
on_handling a (handling.GoToMinusOne goto_word minus digit) = Some to.end_handler
on_handling a (handling.ResumeNext resume_word next_word) = Some (to.on_error skipped)

abbrev pub on_resume : Around → Option ResumeTarget → Option Action
on_resume a None = Some to.resume_again
on_resume a (Some (target.Zero token)) = Some to.resume_again
on_resume a (Some (target.Next token)) = Some to.resume_next
on_resume a (Some (target.Label l)) = option_map to.resume_at (label_number a.parts l)

-- the nearest For that stands open, where it is a For Each
abbrev pub for_each_header : List Opened → Option ℕ
for_each_header [] = None
for_each_header (o ∷ os) = if same_kind for_loop o.kind then at o.line else for_each_header os
  where
    at : Part → Option ℕ
    at (statement (simple (block_line (for_each for_word each_word x in_word group)))) = Some o.header
    at part = None

abbrev pub exit_for : Option ℕ → ℕ → Action
exit_for None n = to.go_to n
exit_for (Some header) n = to.exit_each header n

abbrev pub exit_action : Around → Standing → ExitKind → Action
exit_action a s exits.For = exit_for (for_each_header s.around) (sought_behind (behind_kind for_loop 0) s)
exit_action a s exits.Do = to.go_to (sought_behind (behind_kind do_loop 0) s)
exit_action a s kind = to.exit_to a.end

-- ---- lines of blocks ([MS-VBAL] 5.4.2)

abbrev pub plain_variable : Term → Option Variable
plain_variable (a_place (variable x) of bounded lends makes) = Some x
plain_variable other = None

-- the variable of a loop, by its line
abbrev pub counter_of : BlockLine → Option Identifier
counter_of (for_line for_word x equal start to_word limit step) = Some x
counter_of (for_each for_word each_word x in_word group) = Some x
counter_of line = None

abbrev pub loop_variable : Env → Identifier → Option Variable
loop_variable env x = plain_variable (term_of env (name x))

-- a statement that breaks a static rule, or else what it does
abbrev pub if_broken : Bool → (rule : ℕ) → Place → Option Action → Option Action
if_broken true rule place action = Some (to.evaluate (broken_rule rule place no_exprs))
if_broken false rule place action = action

-- S29: a For counts with a number or a Variant
abbrev pub is_counting : Declared → Bool
is_counting type.boolean = false
is_counting of = is_variant of || is_number of

abbrev pub cannot_count : Option Variable → Bool
cannot_count None = false
cannot_count (Some x) = not (is_counting x.of)

-- a For Each goes over an array with a Variant, and over other things also with an object
abbrev pub goes_over : (control group : Declared) → Bool
goes_over control (type.array_of of) = is_variant control
goes_over control group = is_variant control || is_object control

-- S27: the elements of an array of a Type would be given to a Variant. An object of a class is walked by its enumerator
abbrev pub walked : Env → Place → bound.Expr → bound.Expr
walked env place e = at (bound.operand_type e)
  where
    at : Declared → bound.Expr
    at (type.array_of of) = if is_user_type of then broken_rule 27 place (also e no_exprs) else e
    at of = if may_be_instance env e then expression_of (enumerated e) place type.variant else e

abbrev pub for_each_of : Env → Variable → (place group : Place) → (first behind : ℕ) → bound.Expr → Action
for_each_of env x place group first behind e =
    if goes_over x.of (bound.operand_type e) then to.for_each x (walked env group e) first behind else to.evaluate (broken_rule 29 place (also e no_exprs))

-- a name behind Next is that of the loop
abbrev pub is_other_name : Option Identifier → Option Identifier → Bool
is_other_name (Some x) (Some y) = not (bytes_eq x.name y.name)
is_other_name x y = false

abbrev pub name_place : Option Identifier → Place
name_place None = nowhere
name_place (Some x) = x.token.place

-- a For without Step adds an Integer 1
abbrev pub step_value : Env → Place → Option StepClause → Option bound.Expr
step_value env place None = Some (integer place 1)
step_value env place (Some s) = bound_operand env s.value

abbrev pub for_action : Option Variable → Env → Option bound.Expr → Option bound.Expr → Option bound.Expr → (last_at : Place) → (step_at : Option Place) → (first behind : ℕ) → Option Action
for_action counter env start last step last_at step_at first behind =
    option_and_then (λ x. from_three (λ a b c. to.for_to x (compare_in env.scope) a b c last_at step_at first behind) start last step) counter

-- the first token of a step
abbrev pub step_place : Option StepClause → Option Place
step_place step = option_map (λ (s : StepClause). place_of_expression s.value) step

-- the line that opened the innermost block
abbrev pub line_of : Part → Option BlockLine
line_of (statement (simple (block_line line))) = Some line
line_of part = None

abbrev pub next_action : Env → List Opened → Option Action
next_action env [] = None
next_action env (o ∷ os) = option_and_then at (line_of o.line)
  where
    at : BlockLine → Option Action
    at (for_line for_word x equal start to_word limit step) = option_map (λ v. to.next v o.header o.first) (loop_variable env x)
    at (for_each for_word each_word x in_word group) = option_map (λ v. to.next_each v o.header o.first) (loop_variable env x)
    at line = None

-- the name of the loop that stands open
abbrev pub loop_name : List Opened → Option Identifier
loop_name [] = None
loop_name (o ∷ os) = option_and_then counter_of (line_of o.line)

-- Do, Loop and their conditions: where it is as told, and where it isn't
abbrev pub is_while : LoopWord → Bool
is_while loop_word.While = true
is_while loop_word.Until = false

abbrev pub loop_action : Env → Option LoopCondition → (on behind : ℕ) → Option Action
loop_action env None on behind = Some (to.go_to on)
loop_action env (Some c) on behind = option_map (λ e. to.test (is_while c.word) e on behind) (bound_operand env c.condition)

abbrev pub case_tests : Env → List CaseTest → Option Tests
case_tests env [] = Some no_tests
case_tests env (value e ∷ ts) = from_two (test_is op.Eq (place_of_expression e)) (bound_operand env e) (case_tests env ts)
case_tests env (CaseTest.range low to_word high ∷ ts) =
    from_three (λ a b us. test_range a b (place_of_expression low) (place_of_expression high) us) (bound_operand env low) (bound_operand env high) (case_tests env ts)
case_tests env (comparison is_word o token e ∷ ts) = from_three (λ k x us. test_is k token.place x us) (operator_kind o) (bound_operand env e) (case_tests env ts)

-- the value of the Select Case that stands open, as an operand
abbrev pub selected : Around → List Opened → Option bound.Expr
selected a [] = None
selected a (o ∷ os) = option_and_then at (line_of o.line)
  where
    env : Env
    env = record a.env { within = within a.env os }

    at : BlockLine → Option bound.Expr
    at (select_case select_word case_word e) = bound_operand env e
    at line = None

-- a variable of another object, or a part of one
abbrev pub is_of_object : Lvalue → Bool
is_of_object (variable x) = false
is_of_object (item x es) = false
is_of_object (element x es) = is_of_object x
is_of_object (element_along x es) = is_of_object x
is_of_object (field x i of bounded) = is_of_object x
is_of_object (kept_place i) = false
is_of_object (object_field e i of bounded) = true
is_of_object (as_new number x) = is_of_object x
is_of_object (late_field e x) = true
is_of_object (value_place e) = true

-- an object is kept as a value, and so is what another object has; any other place as one
abbrev pub with_action : Term → Env → Place → Option Action
with_action (a_place x of bounds lends makes) env place =
    if is_object of || (is_variant of || is_of_object x) then option_map to.with_value (given_as env (a_place x of bounds lends makes) place) else Some (to.with_place x)
with_action t env place = option_map to.with_value (given_as env t place)

abbrev pub block_action : Around → Standing → BlockLine → Option Action
block_action a s line = at line
  where
    env : Env
    env = env_at a s

    -- the block's first statement, what stands behind it, and its next arm
    first : ℕ
    first = sought_behind here s

    behind : ℕ
    behind = sought_behind (behind_block 0) s

    next_arm : ℕ
    next_arm = sought_behind (an_arm 0) s

    at : BlockLine → Option Action
    at (if_line if_word e then_word) = option_map (λ c. to.test true c first next_arm) (bound_operand env e)
    at (else_if_line else_if_word e then_word) = option_map (λ c. to.test true c first next_arm) (bound_operand env e)
    at (select_case select_word case_word e) = option_map (λ v. to.select v next_arm) (bound_as_given env e)
    at (case_line case_word tests) =
        from_two (λ v ts. to.case_of ts (header_of s.around) (bound.operand_type v) (compare_in env.scope) first next_arm) (selected a s.around) (case_tests env (all_of tests))
    at (for_line for_word x equal start to_word limit step) =
        if_broken (cannot_count (loop_variable env x)) 29 x.token.place
        (for_action (loop_variable env x) env (bound_operand env start) (bound_operand env limit) (step_value env (place_of s.part) step)
        (place_of_expression limit) (step_place step) first behind)
    at (for_each for_word each_word x in_word group) =
        option_and_then (λ v. option_map (for_each_of env v x.token.place (place_told group) first behind) (bound_as_given env group)) (loop_variable env x)
    at (next_line next_word x) = if_broken (is_other_name x (loop_name s.around)) 29 (name_place x) (next_action env s.around)
    at (do_line do_word c) = loop_action env c first behind
    at (loop_line loop_word c) = loop_action env c (header_of s.around) first
    at (while_line while_word e) = option_map (λ c. to.test true c first behind) (bound_operand env e)
    at (wend wend_word) = Some (to.go_to (header_of s.around))
    at (with_line with_word e) = with_action (term_of env e) env (place_told e)
    at (end_with end_word with_word) = Some (to.end_with (header_of s.around))
    at line = None

-- ---- statements

abbrev pub simple_action : Around → Standing → Simple → Option Action
simple_action a s (assignment let_word x equal e) = option_and_then (assigned_to (env_at a s) x) (value_given (env_at a s) x e)
simple_action a s (set_assignment set_word x equal e) = option_and_then (set_given (env_at a s) set_word.place x) (bound_as_given (env_at a s) e)
simple_action a s (call_place call_word e) = called_place (env_at a s) e
simple_action a s (call e args) = called_with (env_at a s) e (givens (env_at a s) args)
simple_action a s (re_dim redim_word preserve_word arrays) = option_map (to.redim (is_some preserve_word)) (redim_arrays (env_at a s) (all_of arrays))
simple_action a s (erase erase_word places) = option_map to.erase (erased_arrays (env_at a s) (all_of places))
simple_action a s (go_to goto_word l) = option_map to.go_to (label_number a.parts l)
simple_action a s (go_sub gosub_word l) = option_map to.go_sub (label_number a.parts l)
simple_action a s (return_from return_word) = Some to.return_sub
simple_action a s (exit exit_word kind kind_word) = Some (exit_action a s kind)
simple_action a s (end end_word) = Some to.end_run
simple_action a s (tree.Simple.stop stop_word) = Some to.stop
simple_action a s (on_error on_word word h) = on_handling a h
simple_action a s (resume resume_word t) = on_resume a t
simple_action a s (debug_print debug_word dot print_word e items) =
    option_map (λ ps. to.print ps (ends_line items)) (value_shown (env_at a s) e (items_shown (env_at a s) items))
simple_action a s (raise_event raise_word x arguments) = event_raised (env_at a s) x (event_arguments (env_at a s) arguments)
simple_action a s (block_line line) = block_action a s line
simple_action a s other = None

abbrev pub both : Option (List Statement) → Option (List Statement) → Option (List Statement)
both xs ys = from_two (λ a b. a ++ b) xs ys

abbrev pub one_statement : Place → (next : ℕ) → Option Action → Option (List Statement)
one_statement place next action = option_map (λ x. record { action = x; place = place; next = next } ∷ []) action

-- a declaration is no statement
abbrev pub unless_none : ℕ → Option (List Statement) → Option (List Statement)
unless_none zero ss = Some []
unless_none (suc k) ss = ss

-- the first of so many statements, or what stands behind where there are none
abbrev pub first_or : ℕ → (first behind : ℕ) → ℕ
first_or zero first behind = behind
first_or (suc k) first behind = first

abbrev mutual
  -- a statement with this number, behind which that one runs
  pub bound_statement : Around → Standing → Stmt → (number behind : ℕ) → Option (List Statement)
  bound_statement a s (simple x) number behind = unless_none (simple_count x) (one_statement (statement_place (simple x)) behind (simple_action a s x))
  bound_statement a s (if_then if_word e then_word ss) number behind =
      let first = first_or (count_list ss) (suc number) behind in
      both (one_statement if_word.place first (option_map (λ c. to.test true c first behind) (bound_operand (env_at a s) e))) (bound_list a s ss (suc number) behind)
  bound_statement a s (if_else if_word e then_word ss else_word es) number behind =
      let first = first_or (count_list ss) (suc number) behind in
      let other = suc number + count_list ss in
      both (one_statement if_word.place first (option_map (λ c. to.test true c first (first_or (count_list es) other behind)) (bound_operand (env_at a s) e)))
      (both (bound_list a s ss (suc number) behind) (bound_list a s es other behind))

  pub bound_list : Around → Standing → Stmts → (number behind : ℕ) → Option (List Statement)
  bound_list a s nothing number behind = Some []
  bound_list a s (one x) number behind = bound_statement a s x number behind
  bound_list a s (gap before colon) number behind = bound_list a s before number behind
  bound_list a s (more before colon x) number behind =
      let middle = number + count_list before in
      both (bound_list a s before number (first_or (count x) middle behind)) (bound_statement a s x middle behind)

-- the statements of a part; none where it isn't built
abbrev pub part_statements : Around → Standing → Option (List Statement)
part_statements a s = at s.part
  where
    at : Part → Option (List Statement)
    at (statement (simple x)) = unless_none (simple_count x) (one_statement (place_of s.part) (next_number s) (simple_action a s x))
    at (statement x) = bound_statement a s x s.number (next_number s)
    at part = Some []

abbrev pub all_statements : Around → List Standing → Option (List Statement)
all_statements a [] = Some []
all_statements a (s ∷ ss) = both (part_statements a s) (all_statements a ss)
