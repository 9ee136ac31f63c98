-- Serves the code: the plain statements, bodies and projects that lists of nodes stand for.
use Rattle.std.specs.Prelude.{ℕ, ◌+◌, ◌≤◌, if◌then◌else◌, length, IsSome, List, [], ◌∷◌, map, Option, Some, None, take, drop}
use Rattle.vba_values.specs.View.{view as value_view}
use Rattle.bound_project.specs.declared.statement.Handling.{Handling}
use Rattle.bound_project.specs.declared.statement.Handling.TheVariants.{PassedOn, Skipped, HandledAt}
use Rattle.bound_project.specs.declared.statement.ActionKind.{ActionKind}
use Rattle.bound_project.specs.declared.statement.ActionKind.TheVariants as kind
use Rattle.bound_project.specs.declared.statement.StatementNode.{StatementNode}
use Rattle.bound_project.specs.declared.node.LateUse.TheVariants.{Assigning, Setting}
use Rattle.bound_project.specs.declared.node.Node.{Node}
use Rattle.bound_project.specs.declared.project.Block.{Block}
use Rattle.bound_project.specs.declared.project.Body.{Body}
use Rattle.bound_project.specs.declared.project.Project.{Project}
use Rattle.bound_project.specs.Expressions.{Expr, Lvalue, Args, no_args, in_order, Given, none_given, Exprs, no_exprs, no_prints}
use Rattle.bound_project.specs.Statements.{no_tests, no_resizes, no_arrays, Action, assign, assign_item, set, assign_default, assign_member, set_member, assign_through, assign_element, set_element, assign_late, set_late, evaluate, let_property, set_property, let_method, set_method, raise_event, print, raise, test, go_to, for_to, next, for_each, next_each, exit_each, select, case_of, redim, erase, with_place, with_value, end_with, go_sub, return_sub, exit_to, on_error, end_handler, clear_err, resume_again, resume_next, resume_at, stop, end_run}
use Rattle.bound_project.specs.Statements as plain
use Rattle.bound_project.specs.Project as project
use Rattle.bound_project.specs.View.{declared_view, variable_view, declarations_view}
use Rattle.bound_project.specs.Pieces.{Piece, an_expr, a_place, a_member, an_object, a_late, Sought, is_member, is_late, Tables, name_in, order_in, sought_in, exprs_off, arguments_off, given_off, prints_off, tests_off, resizes_off, arrays_off, as_operand, pieces}

abbrev pub handling_view : Handling → plain.Handling
handling_view PassedOn = plain.passed_on
handling_view Skipped = plain.skipped
handling_view (HandledAt i) = plain.handled_at i

-- what is made of parts that are all that is there
abbrev pub whole : {A : Type 0} → Option (A × List Piece) → (A → Action) → Option Action
whole None go = None
whole (Some (a, [])) go = Some (go a)
whole (Some (a, p ∷ st)) go = None

-- one value, and one place, which are all that is there
abbrev pub one_value : List Piece → (Expr → Action) → Option Action
one_value (an_expr e ∷ []) go = Some (go e)
one_value st go = None

abbrev pub one_place : List Piece → (Lvalue → Action) → Option Action
one_place (a_place x ∷ []) go = Some (go x)
one_place st go = None

-- arguments behind a value
abbrev pub behind_value : Option (Args × List Piece) → (Args → Expr → Action) → Option Action
behind_value None go = None
behind_value (Some (args, st)) go = one_value st (go args)

-- arguments of a procedure of an object, behind a value
abbrev pub behind_object : Option (Args × List Piece) → (Expr → Args → Expr → Action) → Option Action
behind_object None go = None
behind_object (Some (args, an_object base ∷ st)) go = one_value st (go base args)
behind_object (Some (args, st)) go = None

-- arguments behind a member that was looked for, behind a value
abbrev pub behind_member : (name : List ℕ) → Exprs → List Piece → Option Action
behind_member name es (a_member base other given ∷ an_expr e ∷ []) = if is_member name other given es then Some (assign_member base name es e) else None
behind_member name es st = None

abbrev pub member_found : (name : List ℕ) → Option (Exprs × List Piece) → Option Action
member_found name None = None
member_found name (Some (es, st)) = behind_member name es st

-- numbers behind a value of which they mean an item, behind a value
abbrev pub behind_base : Exprs → List Piece → Option Action
behind_base es (an_expr base ∷ an_expr e ∷ []) = Some (assign_item base es e)
behind_base es st = None

abbrev pub item_found : Option (Exprs × List Piece) → Option Action
item_found None = None
item_found (Some (es, st)) = behind_base es st

-- numbers behind a place, behind a value
abbrev pub behind_place : (Lvalue → Exprs → Expr → Action) → Exprs → List Piece → Option Action
behind_place make es (a_place x ∷ an_expr e ∷ []) = Some (make x es e)
behind_place make es st = None

abbrev pub element_found : (Lvalue → Exprs → Expr → Action) → Option (Exprs × List Piece) → Option Action
element_found make None = None
element_found make (Some (es, st)) = behind_place make es st

-- arguments behind a late-bound member that was looked up, behind a value
abbrev pub behind_late : Sought → (Expr → Given → Expr → Action) → Given → List Piece → Option Action
behind_late s make given (a_late base other ∷ an_expr e ∷ []) = if is_late s other given then Some (make base given e) else None
behind_late s make given st = None

abbrev pub late_found : Sought → (Expr → Given → Expr → Action) → Option (Given × List Piece) → Option Action
late_found s make None = None
late_found s make (Some (given, st)) = behind_late s make given st

abbrev pub late_assigned : Sought → ℕ → List Piece → Option Action
late_assigned s count st = late_found s (λ base given e. assign_late base s.name s.by given e) (given_off s count st none_given)

abbrev pub late_set : Sought → ℕ → List Piece → Option Action
late_set s count st = late_found s (λ base given e. set_late base s.name s.by given e) (given_off s count st none_given)

-- nothing is there
abbrev pub alone : List Piece → Action → Option Action
alone [] a = Some a
alone (p ∷ st) a = None

-- what a statement of this kind does with these pieces, if they fit
abbrev pub action_of : Tables → ActionKind → List Piece → Option Action
action_of t kind.Assign (a_place x ∷ an_expr e ∷ []) = Some (assign x e)
action_of t kind.Assign st = None
action_of t (kind.AssignItem count) st = item_found (exprs_off count st no_exprs)
action_of t kind.Set (a_place x ∷ an_expr e ∷ []) = Some (set x e)
action_of t kind.Set st = None
action_of t kind.AssignDefault (an_expr x ∷ an_expr e ∷ []) = Some (assign_default x e)
action_of t kind.AssignDefault st = None
action_of t (kind.AssignMember i count) st = member_found (name_in t i) (exprs_off count st no_exprs)
action_of t kind.SetMember (an_expr x ∷ an_expr e ∷ []) = Some (set_member x e)
action_of t kind.SetMember st = None
action_of t kind.AssignThrough (an_expr x ∷ an_expr e ∷ []) = Some (assign_through x e)
action_of t kind.AssignThrough st = None
action_of t (kind.AssignElement count) st = element_found (λ x es e. assign_element x es e) (exprs_off count st no_exprs)
action_of t (kind.SetElement count) st = element_found (λ x es e. set_element x es e) (exprs_off count st no_exprs)
action_of t (kind.AssignLate m) st = late_assigned (sought_in t Assigning m) m.arguments st
action_of t (kind.SetLate m) st = late_set (sought_in t Setting m) m.arguments st
action_of t kind.Evaluate st = one_value st (λ e. evaluate e)
action_of t (kind.LetProperty p count of) st = behind_value (arguments_off count st no_args) (λ args e. let_property p args e (declared_view of))
action_of t (kind.LetPropertyInOrder p count order of) st =
    behind_value (arguments_off count st no_args) (λ args e. let_property p (in_order (order_in t order) args) e (declared_view of))
action_of t (kind.SetProperty p count of) st = behind_value (arguments_off count st no_args) (λ args e. set_property p args e (declared_view of))
action_of t (kind.SetPropertyInOrder p count order of) st =
    behind_value (arguments_off count st no_args) (λ args e. set_property p (in_order (order_in t order) args) e (declared_view of))
action_of t (kind.LetMethod p count of) st = behind_object (arguments_off count st no_args) (λ base args e. let_method base p args e (declared_view of))
action_of t (kind.LetMethodInOrder p count order of) st =
    behind_object (arguments_off count st no_args) (λ base args e. let_method base p (in_order (order_in t order) args) e (declared_view of))
action_of t (kind.SetMethod p count of) st = behind_object (arguments_off count st no_args) (λ base args e. set_method base p args e (declared_view of))
action_of t (kind.SetMethodInOrder p count order of) st =
    behind_object (arguments_off count st no_args) (λ base args e. set_method base p (in_order (order_in t order) args) e (declared_view of))
action_of t (kind.RaiseEvent event count) st = whole (arguments_off count st no_args) (λ args. raise_event event args)
action_of t (kind.RaiseEventInOrder event count order) st = whole (arguments_off count st no_args) (λ args. raise_event event (in_order (order_in t order) args))
action_of t (kind.Print count ends) st = whole (prints_off count st no_prints) (λ ps. print ps ends)
action_of t (kind.Raise count) st = whole (arguments_off count st no_args) (λ args. raise args)
action_of t (kind.RaiseInOrder count order) st = whole (arguments_off count st no_args) (λ args. raise (in_order (order_in t order) args))
action_of t (kind.Test sense to other) st = one_value st (λ e. test sense e to other)
action_of t (kind.GoTo to) st = alone st (go_to to)
action_of t (kind.For x compare last step last_at step_at first behind) (an_expr c ∷ an_expr b ∷ an_expr a ∷ []) =
    Some (for_to (variable_view x) compare a (as_operand last b) (as_operand step c) last_at step_at first behind)
action_of t (kind.For x compare last step last_at step_at first behind) st = None
action_of t (kind.Next x header first) st = alone st (next (variable_view x) header first)
action_of t (kind.ForEach x first behind) st = one_value st (λ e. for_each (variable_view x) e first behind)
action_of t (kind.NextEach x header first) st = alone st (next_each (variable_view x) header first)
action_of t (kind.ExitEach header to) st = alone st (exit_each header to)
action_of t (kind.Select first) st = one_value st (λ e. select e first)
action_of t (kind.Case count header of compare first other) st =
    whole (tests_off count st no_tests) (λ ts. case_of ts header (declared_view of) compare first other)
action_of t (kind.ReDim preserve count) st = whole (resizes_off count st no_resizes) (λ rs. redim preserve rs)
action_of t (kind.Erase count) st = whole (arrays_off count st no_arrays) (λ xs. erase xs)
action_of t kind.WithPlace st = one_place st (λ x. with_place x)
action_of t kind.WithValue st = one_value st (λ e. with_value e)
action_of t (kind.EndWith header) st = alone st (end_with header)
action_of t (kind.GoSub to) st = alone st (go_sub to)
action_of t kind.Return st = alone st return_sub
action_of t (kind.ExitTo end) st = alone st (exit_to end)
action_of t (kind.OnError handling) st = alone st (on_error (handling_view handling))
action_of t kind.EndHandler st = alone st end_handler
action_of t kind.ClearErr st = alone st clear_err
action_of t kind.ResumeAgain st = alone st resume_again
action_of t kind.ResumeNext st = alone st resume_next
action_of t (kind.ResumeAt to) st = alone st (resume_at to)
action_of t kind.Stop st = alone st stop
action_of t kind.End st = alone st end_run

-- ---- statements, bodies and projects

abbrev pub part : List Node → (first count : ℕ) → List Node
part ns first count = take count (drop first ns)

abbrev pub action_or : Option Action → Action
action_or None = stop
action_or (Some a) = a

abbrev pub statement_view : Tables → List Node → StatementNode → plain.Statement
statement_view t ns s = record {
  action = action_or (action_of t s.action (pieces t (part ns s.first_node s.nodes)));
  place = s.place;
  next = s.next;
}

-- a statement's nodes are there, and fit what it does
abbrev pub StatementFits : Tables → List Node → StatementNode → Type 0
StatementFits t ns s = (s.first_node + s.nodes ≤ length ns) × IsSome (action_of t s.action (pieces t (part ns s.first_node s.nodes)))

abbrev pub AllFit : Tables → List Node → List StatementNode → Type 0
AllFit t ns [] = Unit {0}
AllFit t ns (s ∷ ss) = StatementFits t ns s × AllFit t ns ss

abbrev pub block_view : Block → plain.Block
block_view b = record { opening = b.opening; arms = b.arms.items; closing = b.closing; behind = b.behind }

abbrev pub body_view : Tables → Body → project.Body
body_view t b = record { statements = map (statement_view t b.nodes.items) b.statements.items; blocks = map block_view b.blocks.items }

abbrev pub tables_of : Project → Tables
tables_of pr = record { constants = map value_view pr.constants.items; orders = map (λ order. order.items) pr.orders.items }

-- each statement of each body fits
abbrev pub BodiesFit : Tables → List Body → Type 0
BodiesFit t [] = Unit {0}
BodiesFit t (b ∷ bs) = AllFit t b.nodes.items b.statements.items × BodiesFit t bs

abbrev pub Fits : Project → Type 0
Fits pr = BodiesFit (tables_of pr) pr.bodies.items

-- the plain project that a project stands for
abbrev pub project_view : Project → project.Project
project_view pr = record { declared = declarations_view pr.declared; bodies = map (body_view (tables_of pr)) pr.bodies.items; startup = pr.startup }
