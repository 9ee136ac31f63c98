-- Statements without their places, to compare them.
use Rattle.std.specs.Prelude.{List, [], ◌∷◌, option_map}
use Rattle.bound_project.specs.Expressions.{Expr, expr, Node, not_given, constant, load, load_made, element_value, field_value, unary, binary, call, err_value, default_of, default_if_any, enumerated, host_object, active_sheet, host_member, named_member, this, new_object, method, late_member, late_item, same, is_type, library, bound_of, Lvalue, variable, item, element, field, kept_place, object_field, as_new, element_along, late_field, value_place, Args, no_args, by_place, by_copy, by_default, by_list, in_order, Given, none_given, place_given, expr_given, Exprs, no_exprs, also, Prints, no_prints, shown, zone, marked}
use Rattle.bound_project.specs.Statements.{Tests, no_tests, test_is, test_range, Action, assign, assign_item, set, assign_default, assign_member, set_member, assign_through, assign_element, set_element, assign_late, set_late, evaluate, let_property, let_method, set_method, raise_event, print, raise, test, for_to, for_each, select, case_of, with_place, with_value, redim, Resizes, no_resizes, resize, Statement}
use Rattle.bound_project.specs.Project.{nowhere}

abbrev mutual
  pub bare : Expr → Expr
  bare (expr node place of operand) = expr (bare_node node) nowhere of operand

  pub bare_node : Node → Node
  bare_node not_given = not_given
  bare_node (constant v) = constant v
  bare_node (load x) = load (bare_place x)
  bare_node (load_made x) = load_made (bare_place x)
  bare_node (element_value e es) = element_value (bare e) (bare_exprs es)
  bare_node (field_value e i) = field_value (bare e) i
  bare_node (unary o a) = unary o (bare a)
  bare_node (binary o compare a b) = binary o compare (bare a) (bare b)
  bare_node (call p args) = call p (bare_args args)
  bare_node (err_value m) = err_value m
  bare_node (default_of e) = default_of (bare e)
  bare_node (default_if_any e) = default_if_any (bare e)
  bare_node (enumerated e) = enumerated (bare e)
  bare_node (host_object o) = host_object o
  bare_node active_sheet = active_sheet
  bare_node (host_member e name es) = host_member (bare e) name (bare_exprs es)
  bare_node (named_member e name by es) = named_member (bare e) name by (bare_exprs es)
  bare_node this = this
  bare_node (new_object c) = new_object c
  bare_node (method e p args) = method (bare e) p (bare_args args)
  bare_node (late_member e name by given) = late_member (bare e) name by (bare_given given)
  bare_node (late_item e es) = late_item (bare e) (bare_exprs es)
  bare_node (same a b) = same (bare a) (bare b)
  bare_node (is_type e of) = is_type (bare e) of
  bare_node (marked broken es) = marked broken (bare_exprs es)
  bare_node (library f text_form es compare base) = library f text_form (bare_exprs es) compare base
  bare_node (bound_of upper x dimension) = bound_of upper (bare_place x) dimension

  pub bare_place : Lvalue → Lvalue
  bare_place (variable x) = variable x
  bare_place (item x es) = item x (bare_exprs es)
  bare_place (element x es) = element (bare_place x) (bare_exprs es)
  bare_place (field x i of bounded) = field (bare_place x) i of bounded
  bare_place (kept_place i) = kept_place i
  bare_place (object_field e i of bounded) = object_field (bare e) i of bounded
  bare_place (as_new c x) = as_new c (bare_place x)
  bare_place (late_field e name) = late_field (bare e) name
  bare_place (value_place e) = value_place (bare e)
  bare_place (element_along x es) = element_along (bare_place x) (bare_exprs es)

  pub bare_args : Args → Args
  bare_args no_args = no_args
  bare_args (by_place x args) = by_place (bare_place x) (bare_args args)
  bare_args (by_copy e of args) = by_copy (bare e) of (bare_args args)
  bare_args (by_default v args) = by_default v (bare_args args)
  bare_args (by_list es args) = by_list (bare_exprs es) (bare_args args)
  bare_args (in_order is args) = in_order is (bare_args args)

  pub bare_given : Given → Given
  bare_given none_given = none_given
  bare_given (place_given x given) = place_given (bare_place x) (bare_given given)
  bare_given (expr_given e given) = expr_given (bare e) (bare_given given)

  pub bare_exprs : Exprs → Exprs
  bare_exprs no_exprs = no_exprs
  bare_exprs (also e es) = also (bare e) (bare_exprs es)

abbrev pub bare_prints : Prints → Prints
bare_prints no_prints = no_prints
bare_prints (shown e ps) = shown (bare e) (bare_prints ps)
bare_prints (zone ps) = zone (bare_prints ps)

abbrev pub bare_tests : Tests → Tests
bare_tests no_tests = no_tests
bare_tests (test_is o at e ts) = test_is o nowhere (bare e) (bare_tests ts)
bare_tests (test_range a b a_at b_at ts) = test_range (bare a) (bare b) nowhere nowhere (bare_tests ts)

abbrev pub bare_resizes : Resizes → Resizes
bare_resizes no_resizes = no_resizes
bare_resizes (resize x es of rs) = resize (bare_place x) (bare_exprs es) of (bare_resizes rs)

abbrev pub bare_action : Action → Action
bare_action (assign x e) = assign (bare_place x) (bare e)
bare_action (assign_item x es e) = assign_item (bare x) (bare_exprs es) (bare e)
bare_action (set_member x e) = set_member (bare x) (bare e)
bare_action (set x e) = set (bare_place x) (bare e)
bare_action (assign_default x e) = assign_default (bare x) (bare e)
bare_action (assign_member base name es e) = assign_member (bare base) name (bare_exprs es) (bare e)
bare_action (assign_through target e) = assign_through (bare target) (bare e)
bare_action (assign_element x es e) = assign_element (bare_place x) (bare_exprs es) (bare e)
bare_action (set_element x es e) = set_element (bare_place x) (bare_exprs es) (bare e)
bare_action (assign_late base name by given e) = assign_late (bare base) name by (bare_given given) (bare e)
bare_action (set_late base name by given e) = set_late (bare base) name by (bare_given given) (bare e)
bare_action (evaluate e) = evaluate (bare e)
bare_action (let_property p args e of) = let_property p (bare_args args) (bare e) of
bare_action (let_method base p args e of) = let_method (bare base) p (bare_args args) (bare e) of
bare_action (set_method base p args e of) = set_method (bare base) p (bare_args args) (bare e) of
bare_action (raise_event event args) = raise_event event (bare_args args)
bare_action (print ps ends) = print (bare_prints ps) ends
bare_action (raise args) = raise (bare_args args)
bare_action (test sense e to other) = test sense (bare e) to other
bare_action (for_to x compare a b c last_at step_at first behind) = for_to x compare (bare a) (bare b) (bare c) nowhere (option_map (λ at. nowhere) step_at) first behind
bare_action (for_each x e first behind) = for_each x (bare e) first behind
bare_action (select e first) = select (bare e) first
bare_action (case_of ts header of compare first other) = case_of (bare_tests ts) header of compare first other
bare_action (with_place x) = with_place (bare_place x)
bare_action (with_value e) = with_value (bare e)
bare_action (redim preserves rs) = redim preserves (bare_resizes rs)
bare_action other = other

abbrev pub bare_statements : List Statement → List Statement
bare_statements [] = []
bare_statements (s ∷ ss) = record { action = bare_action s.action; place = nowhere; next = s.next } ∷ bare_statements ss
