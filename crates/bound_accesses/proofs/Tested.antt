-- What holds of the last piece that a node makes: that it isn't what New or TypeOf gives.
use Rattle.std.proofs.Common.{◌≡◌, Bool, true, false, List, ◌∷◌, refl, sym, ap, ◌∙◌}
use Rattle.vba_base.specs.declared.place.Place.{Place}
use Rattle.vba_values.specs.Types.{Declared}
use Rattle.bound_project.specs.declared.node.Node.{Node}
use Rattle.bound_project.specs.declared.node.NodeKind.{NodeKind}
use Rattle.bound_project.specs.declared.node.NodeKind.TheVariants as node
use Rattle.bound_project.specs.declared.node.LateUse.TheVariants.{Reading}
use Rattle.bound_project.specs.Expressions.{expr, load, load_made, method, new_object, element_value, field_value, unary, binary, call, same, is_type, library, host_member, named_member, late_member, late_item, no_args, in_order, no_exprs, none_given, marked}
use Rattle.bound_project.specs.Expressions as bound
use Rattle.bound_project.specs.Pieces.{Piece, an_expr, Tables, arguments_off, as_operand, expr_of, exprs_off, given_off, by_name_in, name_in, order_in, put_kind, sought_in}
use Rattle.bound_project.specs.View.{base_view, declared_view}
use Rattle.bound_names.specs.bound_members.specs.bound_calls.specs.bound_forms.specs.Terms.{a_value}
use Rattle.bound_names.specs.bound_members.specs.bound_calls.proofs.LastNodes.{value_passes, place_passes, both_pass, found_passes, value_found_passes, member_found_passes, named_found_passes, object_found_passes, late_found_passes}
use Rattle.bound_accesses.specs.Items.{is_before_dot, may_be_class}

dotted_on_top : List Piece → Bool
dotted_on_top (an_expr (expr (new_object c) place of operand) ∷ st) = false
dotted_on_top (an_expr (expr (is_type a b) place of operand) ∷ st) = false
dotted_on_top st = true

no_class : (made : bound.Node) (place : Place) (of operand : Declared) (st : List Piece) → dotted_on_top (an_expr (expr made place of operand) ∷ st) ≡ true → (u : Declared) → may_be_class (a_value made u) ≡ false
unfolding dotted_on_top
no_class (new_object c) place of operand st h u = let e : false ≡ true = h in absurd cc
no_class (is_type a b) place of operand st h u = let e : false ≡ true = h in absurd cc
no_class made place of operand st h u = refl

class_of : (n : Node) (made : bound.Node) (ps below : List Piece) → dotted_on_top ps ≡ true → ps ≡ expr_of n made ∷ below → (u : Declared) → may_be_class (a_value made u) ≡ false
class_of n made ps below h e = no_class made n.place (declared_view n.of) (declared_view n.operand) below (sym (ap dotted_on_top e) ∙ h)

kind_tested : (t : Tables) (n : Node) (k : NodeKind) (st : List Piece) → is_before_dot k ≡ true → dotted_on_top (put_kind t n k st) ≡ true
unfolding dotted_on_top
kind_tested t n (node.Constant i) st h = refl
kind_tested t n node.Load st h = place_passes dotted_on_top refl (λ x. expr_of n (load x)) (λ x rest. refl) st
kind_tested t n node.LoadMade st h = place_passes dotted_on_top refl (λ x. expr_of n (load_made x)) (λ x rest. refl) st
kind_tested t n node.This st h = refl
kind_tested t n (node.NewObject c) st h = let e : false ≡ true = h in absurd cc
kind_tested t n (node.Method p count) st h = object_found_passes dotted_on_top refl (λ e args. expr_of n (method e p args)) (λ e args rest. refl) (arguments_off count st no_args)
kind_tested t n (node.MethodInOrder p count order) st h =
    object_found_passes dotted_on_top refl (λ e args. expr_of n (method e p (in_order (order_in t order) args))) (λ e args rest. refl) (arguments_off count st no_args)
kind_tested t n (node.ElementValue count) st h = value_found_passes dotted_on_top refl (λ e es. expr_of n (element_value e es)) (λ e es rest. refl) (exprs_off count st no_exprs)
kind_tested t n (node.FieldValue i) st h = value_passes dotted_on_top refl (λ e. expr_of n (field_value e i)) (λ e rest. refl) st
kind_tested t n (node.Unary o of) st h = value_passes dotted_on_top refl (λ a. expr_of n (unary o (as_operand of a))) (λ e rest. refl) st
kind_tested t n (node.Binary o compare left right) st h = both_pass dotted_on_top refl (λ a b. expr_of n (binary o compare (as_operand left a) (as_operand right b))) (λ a b rest. refl) st
kind_tested t n (node.Call p count) st h = found_passes dotted_on_top refl (λ args. expr_of n (call p args)) (λ args rest. refl) (arguments_off count st no_args)
kind_tested t n (node.CallInOrder p count order) st h = found_passes dotted_on_top refl (λ args. expr_of n (call p (in_order (order_in t order) args))) (λ args rest. refl) (arguments_off count st no_args)
kind_tested t n (node.ErrValue _) st h = refl
kind_tested t n (node.Library f text_form count compare one) st h =
    found_passes dotted_on_top refl (λ es. expr_of n (library f text_form es compare (base_view one))) (λ es rest. refl) (exprs_off count st no_exprs)
kind_tested t n (node.Marked broken count) st h = found_passes dotted_on_top refl (λ es. expr_of n (marked broken es)) (λ es rest. refl) (exprs_off count st no_exprs)
kind_tested t n node.Same st h = both_pass dotted_on_top refl (λ a b. expr_of n (same a b)) (λ a b rest. refl) st
kind_tested t n (node.IsType of) st h = let e : false ≡ true = h in absurd cc
kind_tested t n (node.HostObject reference) st h = refl
kind_tested t n node.ActiveSheet st h = refl
kind_tested t n (node.HostMember i count) st h =
    member_found_passes dotted_on_top refl (name_in t i) (λ e es. expr_of n (host_member e (name_in t i) es)) (λ e es rest. refl) (exprs_off count st no_exprs)
kind_tested t n (node.NamedMember i by count) st h =
    named_found_passes dotted_on_top refl (name_in t i) (by_name_in t by) (λ e es. expr_of n (named_member e (name_in t i) (by_name_in t by) es)) (λ e es rest. refl) (exprs_off count st no_exprs)
kind_tested t n (node.ItemAlong count) st h = value_found_passes dotted_on_top refl (λ e es. expr_of n (late_item e es)) (λ e es rest. refl) (exprs_off count st no_exprs)
kind_tested t n (node.LateMember x) st h =
    late_found_passes dotted_on_top refl (sought_in t Reading x) (λ e given. expr_of n (late_member e (name_in t x.name) (by_name_in t x.names) given)) (λ e given rest. refl)
    (given_off (sought_in t Reading x) x.arguments st none_given)
kind_tested t n k st h = let e : false ≡ true = h in absurd cc

pub no_class_made : (t : Tables) (n : Node) (k : NodeKind) (made : bound.Node) (ps below : List Piece) → is_before_dot k ≡ true → put_kind t n k ps ≡ expr_of n made ∷ below → (u : Declared) → may_be_class (a_value made u) ≡ false
no_class_made t n k made ps below h e = class_of n made (put_kind t n k ps) below (kind_tested t n k ps h) e
