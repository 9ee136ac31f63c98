-- The static rules that a bound project breaks: S24, where an operator or a comparison has a Double result by the
-- declared types of its operands, and what is marked. They are told in the order in which they are evaluated; the least
-- by module, place and rule counts.
use Rattle.std.specs.Prelude.{◌≡◌, ℕ, Bool, true, not, ◌&&◌, ◌||◌, ◌==◌, nat_lt, nat_le, List, [], ◌∷◌, ◌++◌, flat_map, All, Contains, Option, Some, None, is_some, if◌then◌else◌}
use Rattle.vba_base.specs.declared.place.Place.{Place}
use Rattle.vba_base.specs.declared.place.Refusal.{Refusal}
use Rattle.vba_values.specs.declared.types.OpKind.{OpKind}
use Rattle.vba_values.specs.declared.types.OpKind.TheVariants as op
use Rattle.vba_values.specs.StaticTypes.{static_of}
use Rattle.vba_values.specs.Types.{Declared}
use Rattle.vba_values.specs.Types as type
use Rattle.bound_project.specs.Expressions.{Expr, expr, Node, not_given, constant, load, load_made, element_value, field_value, unary, binary, call, err_value, default_of, default_if_any, same, is_type, library, bound_of, host_object, active_sheet, host_member, named_member, this, new_object, method, late_member, late_item, enumerated, Lvalue, variable, item, element, field, kept_place, object_field, as_new, element_along, late_field, value_place, Args, no_args, by_place, by_copy, by_default, by_list, in_order, Given, none_given, place_given, expr_given, Exprs, no_exprs, also, Prints, no_prints, shown, zone, operand_type, marked}
use Rattle.bound_project.specs.Statements.{Tests, no_tests, test_is, test_range, Resizes, no_resizes, resize, Arrays, no_arrays, an_array, Action, assign, assign_item, set, assign_default, assign_member, set_member, assign_through, assign_element, set_element, assign_late, set_late, evaluate, let_property, set_property, let_method, set_method, raise_event, print, raise, test, for_to, for_each, select, case_of, redim, erase, with_place, with_value, Statement}
use Rattle.bound_project.specs.Project.{Body, Project}

-- whether an operator gives a Double by the types of its operands; one of one operand has that one's type twice
abbrev pub is_double : OpKind → (left right : Declared) → Bool
is_double o left right = not (is_some (static_of o left right))

-- the place of an operator that gives a Double
abbrev pub double_at : Place → OpKind → (left right : Declared) → List Refusal
double_at at o left right = if is_double o left right then record { rule = 24; place = at } ∷ [] else []

-- ---- expressions

abbrev mutual
  pub broken : Expr → List Refusal
  broken (expr node place of operand) = node_broken place node

  pub node_broken : Place → Node → List Refusal
  node_broken at not_given = []
  node_broken at (constant v) = []
  node_broken at (load x) = place_broken x
  node_broken at (load_made x) = place_broken x
  node_broken at (element_value e es) = broken e ++ list_broken es
  node_broken at (field_value e i) = broken e
  node_broken at (unary o a) = broken a ++ double_at at o (operand_type a) (operand_type a)
  node_broken at (binary o compare a b) = broken a ++ (broken b ++ double_at at o (operand_type a) (operand_type b))
  node_broken at (call procedure args) = args_broken args
  node_broken at (err_value member) = []
  node_broken at (default_of e) = broken e
  node_broken at (default_if_any e) = broken e
  node_broken at (same a b) = broken a ++ broken b
  node_broken at (is_type e of) = broken e
  node_broken at (library f text_form es compare base) = list_broken es
  node_broken at (marked rule es) = list_broken es ++ rule ∷ []
  node_broken at (bound_of upper x dimension) = place_broken x
  node_broken at (host_object reference) = []
  node_broken at active_sheet = []
  node_broken at (host_member e name es) = broken e ++ list_broken es
  node_broken at (named_member e name by es) = broken e ++ list_broken es
  node_broken at this = []
  node_broken at (new_object class) = []
  node_broken at (method e procedure args) = broken e ++ args_broken args
  node_broken at (late_member e name by given) = broken e ++ given_broken given
  node_broken at (late_item e es) = broken e ++ list_broken es
  node_broken at (enumerated e) = broken e

  pub place_broken : Lvalue → List Refusal
  place_broken (variable x) = []
  place_broken (item x es) = list_broken es
  place_broken (element x es) = place_broken x ++ list_broken es
  place_broken (field x i of bounded) = place_broken x
  place_broken (kept_place header) = []
  place_broken (object_field e i of bounded) = broken e
  place_broken (as_new class x) = place_broken x
  place_broken (element_along x es) = place_broken x ++ list_broken es
  place_broken (late_field e name) = broken e
  place_broken (value_place e) = broken e

  pub args_broken : Args → List Refusal
  args_broken no_args = []
  args_broken (by_place x args) = place_broken x ++ args_broken args
  args_broken (by_copy e of args) = broken e ++ args_broken args
  args_broken (by_default v args) = args_broken args
  args_broken (by_list es args) = list_broken es ++ args_broken args
  args_broken (in_order order args) = args_broken args

  pub given_broken : Given → List Refusal
  given_broken none_given = []
  given_broken (place_given x given) = place_broken x ++ given_broken given
  given_broken (expr_given e given) = broken e ++ given_broken given

  pub list_broken : Exprs → List Refusal
  list_broken no_exprs = []
  list_broken (also e es) = broken e ++ list_broken es

-- ---- statements

abbrev pub prints_broken : Prints → List Refusal
prints_broken no_prints = []
prints_broken (shown e ps) = broken e ++ prints_broken ps
prints_broken (zone ps) = prints_broken ps

-- the comparisons of a Select Case's value, of this type, with what a test has
abbrev pub range_broken : (of : Declared) → (low high : Expr) → (low_at high_at : Place) → List Refusal
range_broken of low high low_at high_at = double_at low_at op.Ge of (operand_type low) ++ double_at high_at op.Le of (operand_type high)

abbrev pub tests_broken : (of : Declared) → Tests → List Refusal
tests_broken of no_tests = []
tests_broken of (test_is o at e ts) = (broken e ++ double_at at o of (operand_type e)) ++ tests_broken of ts
tests_broken of (test_range low high low_at high_at ts) = (broken low ++ (broken high ++ range_broken of low high low_at high_at)) ++ tests_broken of ts

abbrev pub resizes_broken : Resizes → List Refusal
resizes_broken no_resizes = []
resizes_broken (resize x bounds of rs) = (place_broken x ++ list_broken bounds) ++ resizes_broken rs

abbrev pub arrays_broken : Arrays → List Refusal
arrays_broken no_arrays = []
arrays_broken (an_array x xs) = place_broken x ++ arrays_broken xs

-- a For compares its counter with its end, and a step that is written with 0, and adds the step to the counter
abbrev pub step_broken : (counter step : Declared) → Option Place → List Refusal
step_broken counter step None = []
step_broken counter step (Some at) = double_at at op.Add counter step ++ double_at at op.Ge step type.integer

abbrev pub loop_broken : (counter last step : Declared) → (last_at : Place) → (step_at : Option Place) → List Refusal
loop_broken counter last step last_at step_at = double_at last_at op.Le counter last ++ step_broken counter step step_at

abbrev pub action_broken : Action → List Refusal
action_broken (assign x e) = broken e ++ place_broken x
action_broken (assign_item base es e) = broken e ++ (broken base ++ list_broken es)
action_broken (set x e) = broken e ++ place_broken x
action_broken (assign_default x e) = broken e ++ broken x
action_broken (assign_member base name es e) = broken e ++ (broken base ++ list_broken es)
action_broken (set_member base e) = broken e ++ broken base
action_broken (assign_through x e) = broken e ++ broken x
action_broken (assign_element x es e) = broken e ++ (place_broken x ++ list_broken es)
action_broken (set_element x es e) = broken e ++ (place_broken x ++ list_broken es)
action_broken (assign_late base name by given e) = broken e ++ (broken base ++ given_broken given)
action_broken (set_late base name by given e) = broken e ++ (broken base ++ given_broken given)
action_broken (evaluate e) = broken e
action_broken (let_property procedure args e of) = broken e ++ args_broken args
action_broken (set_property procedure args e of) = broken e ++ args_broken args
action_broken (let_method base procedure args e of) = broken e ++ (broken base ++ args_broken args)
action_broken (set_method base procedure args e of) = broken e ++ (broken base ++ args_broken args)
action_broken (raise_event event args) = args_broken args
action_broken (print ps ends) = prints_broken ps
action_broken (raise args) = args_broken args
action_broken (test sense e to other) = broken e
action_broken (for_to x compare start last step last_at step_at first behind) =
    broken start ++ (broken last ++ (broken step ++ loop_broken x.of (operand_type last) (operand_type step) last_at step_at))
action_broken (for_each x e first behind) = broken e
action_broken (select e first) = broken e
action_broken (case_of ts header of compare first other) = tests_broken of ts
action_broken (redim preserve rs) = resizes_broken rs
action_broken (erase xs) = arrays_broken xs
action_broken (with_place x) = place_broken x
action_broken (with_value e) = broken e
action_broken a = []

-- ---- projects

abbrev pub body_broken : Body → List Refusal
body_broken b = flat_map (λ (s : Statement). action_broken s.action) b.statements

abbrev pub project_broken : Project → List Refusal
project_broken pr = flat_map body_broken pr.bodies

-- ---- the least of them

-- four numbers are at most four others, by the first, then by the second, and so on
abbrev pub at_most : (a b c d : ℕ) → (e f g h : ℕ) → Bool
at_most a b c d e f g h =
    nat_lt a e || ((a == e) && (nat_lt b f || ((b == f) && (nat_lt c g || ((c == g) && nat_le d h)))))

-- of two: by module, line, column and rule
abbrev pub not_later : Refusal → Refusal → Bool
not_later one other =
    at_most one.place.«module» one.place.line one.place.column one.rule other.place.«module» other.place.line other.place.column other.rule

-- the lesser of what was found and one more
abbrev pub lesser : Option Refusal → Refusal → Refusal
lesser None refusal = refusal
lesser (Some found) refusal = if not_later found refusal then found else refusal

-- the least of what was found and more
abbrev pub least_of : Option Refusal → List Refusal → Option Refusal
least_of found [] = found
least_of found (refusal ∷ refusals) = least_of (Some (lesser found refusal)) refusals

-- the first rule that a project breaks, by module, place and rule
abbrev pub first_broken : Project → Option Refusal
first_broken pr = least_of None (project_broken pr)

-- one of the refusals, after none of them
pub record IsLeast (refusals : List Refusal) (least : Refusal) : Type 0 where
  pub among : Contains refusals least
  pub first : All (λ other. not_later least other ≡ true) refusals

-- the least of the refusals; none exactly where there are none
abbrev pub IsLeastOf : List Refusal → Option Refusal → Type 0
IsLeastOf refusals None = refusals ≡ []
IsLeastOf refusals (Some least) = IsLeast refusals least
