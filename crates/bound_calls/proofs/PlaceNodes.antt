-- Where the last node of a place is no element of a Variant variable, and none to which arguments lead, neither is the place.
use Rattle.std.proofs.Common.{◌≡◌, Bool, true, false, not, List, [], ◌∷◌, Option, Some, None, option_map, refl, sym, ap, ◌∙◌}
use Rattle.bound_project.specs.declared.node.Node.{Node}
use Rattle.bound_project.specs.declared.node.NodeKind.{NodeKind}
use Rattle.bound_project.specs.declared.node.NodeKind.TheVariants as node
use Rattle.bound_project.specs.declared.node.LateUse.TheVariants.{Reading}
use Rattle.bound_project.specs.Expressions.{Expr, load, element_value, field_value, unary, binary, call, default_of, default_if_any, enumerated, same, is_type, library, bound_of, host_member, named_member, late_item, late_member, no_args, in_order, Exprs, no_exprs, none_given, Lvalue, item, element, field, late_field, value_place, marked, load_made, method, object_field, as_new}
use Rattle.bound_project.specs.Pieces.{Piece, nothing, an_expr, a_place, a_member, a_named_member, an_argument, place_lent, value_copied, values_listed, a_value_shown, a_zone, a_test_begun, a_test_is, a_test_range, a_resize, an_erased, a_late, a_given, Tables, arguments_off, as_operand, expr_of, exprs_off, given_off, misfit, by_name_in, name_in, order_in, of_test, of_range, of_place_found, put_kind, an_object, place_there, sought_in, value_there}
use Rattle.bound_project.specs.View.{base_view, declared_view, variable_view}
use Rattle.bound_forms.specs.Terms as plain
use Rattle.bound_calls.specs.Standing.{PlaceEnds}
use Rattle.bound_calls.specs.Calls.{may_be_item}
use Rattle.bound_calls.proofs.LastNodes.{value_passes, place_passes, both_pass, found_passes, value_found_passes, member_found_passes, named_found_passes, any_node, object_found_passes, late_found_passes}

-- ---- tests of pieces that misfits pass

test_passes : (test : List Piece → Bool) → test misfit ≡ true → (make : Expr → Piece) → ((e : Expr) (st : List Piece) → test (make e ∷ st) ≡ true) → (st : List Piece) → test (of_test make st) ≡ true
test_passes test m make h [] = m
test_passes test m make h (nothing ∷ st) = m
test_passes test m make h (an_expr y ∷ []) = m
test_passes test m make h (an_expr y ∷ nothing ∷ st) = m
test_passes test m make h (an_expr y ∷ (an_expr a) ∷ st) = m
test_passes test m make h (an_expr y ∷ (a_place a) ∷ st) = m
test_passes test m make h (an_expr y ∷ (an_object a) ∷ st) = m
test_passes test m make h (an_expr y ∷ (a_member a b c) ∷ st) = m
test_passes test m make h (an_expr y ∷ (a_named_member a b c d) ∷ st) = m
test_passes test m make h (an_expr y ∷ (an_argument a) ∷ st) = m
test_passes test m make h (an_expr y ∷ (a_value_shown a) ∷ st) = m
test_passes test m make h (an_expr y ∷ a_zone ∷ st) = m
test_passes test m make h (an_expr y ∷ a_test_begun ∷ st) = h y st
test_passes test m make h (an_expr y ∷ (a_test_is a b c) ∷ st) = m
test_passes test m make h (an_expr y ∷ (a_test_range a b c d) ∷ st) = m
test_passes test m make h (an_expr y ∷ (a_resize a b c) ∷ st) = m
test_passes test m make h (an_expr y ∷ (an_erased a) ∷ st) = m
test_passes test m make h (an_expr y ∷ (a_late a b) ∷ st) = m
test_passes test m make h (an_expr y ∷ (a_given a b c) ∷ st) = m
test_passes test m make h ((a_place a) ∷ st) = m
test_passes test m make h ((an_object a) ∷ st) = m
test_passes test m make h ((a_member a b c) ∷ st) = m
test_passes test m make h ((a_named_member a b c d) ∷ st) = m
test_passes test m make h ((an_argument a) ∷ st) = m
test_passes test m make h ((a_value_shown a) ∷ st) = m
test_passes test m make h (a_zone ∷ st) = m
test_passes test m make h (a_test_begun ∷ st) = m
test_passes test m make h ((a_test_is a b c) ∷ st) = m
test_passes test m make h ((a_test_range a b c d) ∷ st) = m
test_passes test m make h ((a_resize a b c) ∷ st) = m
test_passes test m make h ((an_erased a) ∷ st) = m
test_passes test m make h ((a_late a b) ∷ st) = m
test_passes test m make h ((a_given a b c) ∷ st) = m

range_passes : (test : List Piece → Bool) → test misfit ≡ true → (make : Expr → Expr → Piece) → ((a b : Expr) (st : List Piece) → test (make a b ∷ st) ≡ true) → (st : List Piece) → test (of_range make st) ≡ true
range_passes test m make h [] = m
range_passes test m make h (nothing ∷ st) = m
range_passes test m make h (an_expr y ∷ []) = m
range_passes test m make h (an_expr y ∷ nothing ∷ st) = m
range_passes test m make h (an_expr y ∷ an_expr x ∷ []) = m
range_passes test m make h (an_expr y ∷ an_expr x ∷ nothing ∷ st) = m
range_passes test m make h (an_expr y ∷ an_expr x ∷ (an_expr a) ∷ st) = m
range_passes test m make h (an_expr y ∷ an_expr x ∷ (a_place a) ∷ st) = m
range_passes test m make h (an_expr y ∷ an_expr x ∷ (an_object a) ∷ st) = m
range_passes test m make h (an_expr y ∷ an_expr x ∷ (a_member a b c) ∷ st) = m
range_passes test m make h (an_expr y ∷ an_expr x ∷ (a_named_member a b c d) ∷ st) = m
range_passes test m make h (an_expr y ∷ an_expr x ∷ (an_argument a) ∷ st) = m
range_passes test m make h (an_expr y ∷ an_expr x ∷ (a_value_shown a) ∷ st) = m
range_passes test m make h (an_expr y ∷ an_expr x ∷ a_zone ∷ st) = m
range_passes test m make h (an_expr y ∷ an_expr x ∷ a_test_begun ∷ st) = h x y st
range_passes test m make h (an_expr y ∷ an_expr x ∷ (a_test_is a b c) ∷ st) = m
range_passes test m make h (an_expr y ∷ an_expr x ∷ (a_test_range a b c d) ∷ st) = m
range_passes test m make h (an_expr y ∷ an_expr x ∷ (a_resize a b c) ∷ st) = m
range_passes test m make h (an_expr y ∷ an_expr x ∷ (an_erased a) ∷ st) = m
range_passes test m make h (an_expr y ∷ an_expr x ∷ (a_late a b) ∷ st) = m
range_passes test m make h (an_expr y ∷ an_expr x ∷ (a_given a b c) ∷ st) = m
range_passes test m make h (an_expr y ∷ (a_place a) ∷ st) = m
range_passes test m make h (an_expr y ∷ (an_object a) ∷ st) = m
range_passes test m make h (an_expr y ∷ (a_member a b c) ∷ st) = m
range_passes test m make h (an_expr y ∷ (a_named_member a b c d) ∷ st) = m
range_passes test m make h (an_expr y ∷ (an_argument a) ∷ st) = m
range_passes test m make h (an_expr y ∷ (a_value_shown a) ∷ st) = m
range_passes test m make h (an_expr y ∷ a_zone ∷ st) = m
range_passes test m make h (an_expr y ∷ a_test_begun ∷ st) = m
range_passes test m make h (an_expr y ∷ (a_test_is a b c) ∷ st) = m
range_passes test m make h (an_expr y ∷ (a_test_range a b c d) ∷ st) = m
range_passes test m make h (an_expr y ∷ (a_resize a b c) ∷ st) = m
range_passes test m make h (an_expr y ∷ (an_erased a) ∷ st) = m
range_passes test m make h (an_expr y ∷ (a_late a b) ∷ st) = m
range_passes test m make h (an_expr y ∷ (a_given a b c) ∷ st) = m
range_passes test m make h ((a_place a) ∷ st) = m
range_passes test m make h ((an_object a) ∷ st) = m
range_passes test m make h ((a_member a b c) ∷ st) = m
range_passes test m make h ((a_named_member a b c d) ∷ st) = m
range_passes test m make h ((an_argument a) ∷ st) = m
range_passes test m make h ((a_value_shown a) ∷ st) = m
range_passes test m make h (a_zone ∷ st) = m
range_passes test m make h (a_test_begun ∷ st) = m
range_passes test m make h ((a_test_is a b c) ∷ st) = m
range_passes test m make h ((a_test_range a b c d) ∷ st) = m
range_passes test m make h ((a_resize a b c) ∷ st) = m
range_passes test m make h ((an_erased a) ∷ st) = m
range_passes test m make h ((a_late a b) ∷ st) = m
range_passes test m make h ((a_given a b c) ∷ st) = m

pub place_found_passes : (test : List Piece → Bool) → test misfit ≡ true → (make : Lvalue → Exprs → Piece) → ((x : Lvalue) (es : Exprs) (st : List Piece) → test (make x es ∷ st) ≡ true) → (o : Option (Exprs × List Piece))
    → test (of_place_found make o) ≡ true
place_found_passes test m make h None = m
place_found_passes test m make h (Some found) = place_passes test m (λ x. make x found.0) (λ x st. h x found.0 st) found.1

-- ---- a place

-- one on top is no element of a Variant variable, and none to which arguments lead
no_item_on_top : List Piece → Bool
no_item_on_top (a_place x ∷ st) = not (plain.may_be_item x)
no_item_on_top st = true

kind_no_item : (t : Tables) (n : Node) (k : NodeKind) (st : List Piece) → may_be_item k ≡ false → no_item_on_top (put_kind t n k st) ≡ true
unfolding no_item_on_top
kind_no_item t n node.NotGiven st h = refl
kind_no_item t n (node.Constant i) st h = refl
kind_no_item t n (node.Variable x) st h = refl
kind_no_item t n (node.Item x count) st h = found_passes no_item_on_top refl (λ es. a_place (item (variable_view x) es)) (λ es rest. ap not h) (exprs_off count st no_exprs)
kind_no_item t n (node.Element count) st h = place_found_passes no_item_on_top refl (λ x es. a_place (element x es)) (λ x es rest. refl) (exprs_off count st no_exprs)
kind_no_item t n (node.Field i of bounded) st h = place_passes no_item_on_top refl (λ x. a_place (field x i (declared_view of) bounded)) (λ x rest. refl) st
kind_no_item t n (node.KeptPlace header) st h = refl
kind_no_item t n node.Load st h = place_passes no_item_on_top refl (λ x. expr_of n (load x)) (λ x rest. refl) st
kind_no_item t n (node.ObjectField i of bounded) st h = value_passes no_item_on_top refl (λ e. a_place (object_field e i (declared_view of) bounded)) (λ e rest. refl) st
kind_no_item t n (node.NewVariable x c) st h = refl
kind_no_item t n (node.AsNew c) st h = place_passes no_item_on_top refl (λ x. a_place (as_new c x)) (λ x rest. refl) st
kind_no_item t n node.LoadMade st h = place_passes no_item_on_top refl (λ x. expr_of n (load_made x)) (λ x rest. refl) st
kind_no_item t n node.This st h = refl
kind_no_item t n (node.NewObject c) st h = refl
kind_no_item t n node.ObjectThere st h = value_passes no_item_on_top refl (λ e. an_object e) (λ e rest. refl) st
kind_no_item t n (node.Method p count) st h = object_found_passes no_item_on_top refl (λ e args. expr_of n (method e p args)) (λ e args rest. refl) (arguments_off count st no_args)
kind_no_item t n (node.MethodInOrder p count order) st h =
    object_found_passes no_item_on_top refl (λ e args. expr_of n (method e p (in_order (order_in t order) args))) (λ e args rest. refl) (arguments_off count st no_args)
kind_no_item t n (node.ElementValue count) st h = value_found_passes no_item_on_top refl (λ e es. expr_of n (element_value e es)) (λ e es rest. refl) (exprs_off count st no_exprs)
kind_no_item t n (node.FieldValue i) st h = value_passes no_item_on_top refl (λ e. expr_of n (field_value e i)) (λ e rest. refl) st
kind_no_item t n (node.Unary o of) st h = value_passes no_item_on_top refl (λ a. expr_of n (unary o (as_operand of a))) (λ e rest. refl) st
kind_no_item t n (node.Binary o compare left right) st h = both_pass no_item_on_top refl (λ a b. expr_of n (binary o compare (as_operand left a) (as_operand right b))) (λ a b rest. refl) st
kind_no_item t n (node.Call p count) st h = found_passes no_item_on_top refl (λ args. expr_of n (call p args)) (λ args rest. refl) (arguments_off count st no_args)
kind_no_item t n (node.CallInOrder p count order) st h = found_passes no_item_on_top refl (λ args. expr_of n (call p (in_order (order_in t order) args))) (λ args rest. refl) (arguments_off count st no_args)
kind_no_item t n (node.ErrValue _) st h = refl
kind_no_item t n (node.Marked broken count) st h = found_passes no_item_on_top refl (λ es. expr_of n (marked broken es)) (λ es rest. refl) (exprs_off count st no_exprs)
kind_no_item t n (node.Library f text_form count compare one) st h = found_passes no_item_on_top refl (λ es. expr_of n (library f text_form es compare (base_view one))) (λ es rest. refl) (exprs_off count st no_exprs)
kind_no_item t n (node.BoundOf upper z) st h = place_passes no_item_on_top refl (λ x. expr_of n (bound_of upper x z)) (λ x rest. refl) st
kind_no_item t n node.DefaultOf st h = value_passes no_item_on_top refl (λ e. expr_of n (default_of e)) (λ e rest. refl) st
kind_no_item t n node.DefaultIfAny st h = value_passes no_item_on_top refl (λ e. expr_of n (default_if_any e)) (λ e rest. refl) st
kind_no_item t n node.Same st h = both_pass no_item_on_top refl (λ a b. expr_of n (same a b)) (λ a b rest. refl) st
kind_no_item t n (node.IsType of) st h = value_passes no_item_on_top refl (λ e. expr_of n (is_type e (declared_view of))) (λ e rest. refl) st
kind_no_item t n (node.HostObject reference) st h = refl
kind_no_item t n node.ActiveSheet st h = refl
kind_no_item t n (node.MemberThere i given) st h = value_passes no_item_on_top refl (λ e. a_member e (name_in t i) given) (λ e rest. refl) st
kind_no_item t n (node.HostMember i count) st h = member_found_passes no_item_on_top refl (name_in t i) (λ e es. expr_of n (host_member e (name_in t i) es)) (λ e es rest. refl) (exprs_off count st no_exprs)
kind_no_item t n (node.NamedThere i by given) st h = value_passes no_item_on_top refl (λ e. a_named_member e (name_in t i) (by_name_in t by) given) (λ e rest. refl) st
kind_no_item t n (node.NamedMember i by count) st h = named_found_passes no_item_on_top refl (name_in t i) (by_name_in t by) (λ e es. expr_of n (named_member e (name_in t i) (by_name_in t by) es)) (λ e es rest. refl) (exprs_off count st no_exprs)
kind_no_item t n (node.ElementAlong count) st h = let e : true ≡ false = h in absurd cc
kind_no_item t n (node.LateField i) st h = value_passes no_item_on_top refl (λ e. a_place (late_field e (name_in t i))) (λ e rest. refl) st
kind_no_item t n node.PlaceOf st h = value_passes no_item_on_top refl (λ e. a_place (value_place e)) (λ e rest. refl) st
kind_no_item t n node.Enumerated st h = value_passes no_item_on_top refl (λ e. expr_of n (enumerated e)) (λ e rest. refl) st
kind_no_item t n (node.ItemAlong count) st h = value_found_passes no_item_on_top refl (λ e es. expr_of n (late_item e es)) (λ e es rest. refl) (exprs_off count st no_exprs)
kind_no_item t n (node.LateThere aim x) st h = value_passes no_item_on_top refl (λ e. a_late e (sought_in t aim x)) (λ e rest. refl) st
kind_no_item t n (node.LateValue aim x i) st h = value_passes no_item_on_top refl (λ e. a_given (value_there e) (sought_in t aim x) i) (λ e rest. refl) st
kind_no_item t n (node.LatePlace aim x i) st h = place_passes no_item_on_top refl (λ y. a_given (place_there y) (sought_in t aim x) i) (λ y rest. refl) st
kind_no_item t n (node.LateMember x) st h =
    late_found_passes no_item_on_top refl (sought_in t Reading x) (λ e given. expr_of n (late_member e (name_in t x.name) (by_name_in t x.names) given)) (λ e given rest. refl)
    (given_off (sought_in t Reading x) x.arguments st none_given)
kind_no_item t n node.ByPlace st h = place_passes no_item_on_top refl (λ x. an_argument (place_lent x)) (λ x rest. refl) st
kind_no_item t n (node.ByCopy of) st h = value_passes no_item_on_top refl (λ e. an_argument (value_copied e (declared_view of))) (λ e rest. refl) st
kind_no_item t n (node.ByDefault i) st h = refl
kind_no_item t n (node.ByList count) st h = found_passes no_item_on_top refl (λ es. an_argument (values_listed es)) (λ es rest. refl) (exprs_off count st no_exprs)
kind_no_item t n node.Shown st h = value_passes no_item_on_top refl (λ e. a_value_shown e) (λ e rest. refl) st
kind_no_item t n node.Zone st h = refl
kind_no_item t n node.TestBegins st h = refl
kind_no_item t n (node.TestIs o of) st h = test_passes no_item_on_top refl (λ e. a_test_is o n.place (as_operand of e)) (λ e rest. refl) st
kind_no_item t n (node.TestRange low high high_at) st h = range_passes no_item_on_top refl (λ a b. a_test_range (as_operand low a) (as_operand high b) n.place high_at) (λ a b rest. refl) st
kind_no_item t n (node.Resize count of) st h = place_found_passes no_item_on_top refl (λ x es. a_resize x es (option_map declared_view of)) (λ x es rest. refl) (exprs_off count st no_exprs)
kind_no_item t n node.Erased st h = place_passes no_item_on_top refl (λ x. an_erased x) (λ x rest. refl) st

pub no_item : (t : Tables) (kind : NodeKind) (at : Lvalue) (ps below : List Piece) → may_be_item kind ≡ false → PlaceEnds t kind at ps below → not (plain.may_be_item at) ≡ true
unfolding no_item_on_top
no_item t kind at ps below h ends = sym (ap no_item_on_top (ends any_node)) ∙ kind_no_item t any_node kind ps h
