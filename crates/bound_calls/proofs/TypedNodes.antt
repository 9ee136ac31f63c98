-- What holds of the last piece that a node makes: that it is none of the objects that are always there.
use Rattle.std.proofs.Common.{◌≡◌, ℕ, Bool, true, false, List, ◌∷◌, Option, refl, sym, ap, subst, ◌∙◌}
use Rattle.vba_base.specs.declared.place.Place.{Place}
use Rattle.vba_values.specs.declared.object.HostRef.{HostRef}
use Rattle.vba_values.specs.Types.{Declared}
use Rattle.bound_project.specs.declared.node.Node.{Node}
use Rattle.bound_project.specs.declared.node.NodeKind.{NodeKind}
use Rattle.bound_project.specs.declared.node.NodeKind.TheVariants as node
use Rattle.bound_project.specs.declared.node.LateUse.TheVariants.{Reading}
use Rattle.bound_project.specs.Expressions.{expr, not_given, constant, load, load_made, element_value, field_value, unary, binary, call, err_value, default_of, default_if_any, enumerated, same, is_type, library, bound_of, host_object, active_sheet, host_member, named_member, this, new_object, method, late_member, late_item, no_args, in_order, no_exprs, none_given, marked}
use Rattle.bound_project.specs.Expressions as bound
use Rattle.bound_project.specs.Pieces.{Piece, an_expr, Tables, arguments_off, as_operand, expr_of, exprs_off, given_off, by_name_in, name_in, order_in, put_kind, sought_in}
use Rattle.bound_project.specs.View.{base_view, declared_view}
use Rattle.bound_forms.specs.Operands.{host_kind, kind_by_type, kind_of_object, default_rule}
use Rattle.bound_calls.specs.declared.term.Ending.{Ending}
use Rattle.bound_calls.specs.References.{DefaultBreaks, is_typed_kind}
use Rattle.bound_calls.proofs.LastNodes.{any_node, value_passes, place_passes, both_pass, found_passes, value_found_passes, member_found_passes, named_found_passes, object_found_passes, late_found_passes}

no_host_on_top : List Piece → Bool
no_host_on_top (an_expr (expr (host_object reference) place of operand) ∷ st) = false
no_host_on_top st = true

typed_kind : (made : bound.Node) (place : Place) (of operand : Declared) (st : List Piece) → no_host_on_top (an_expr (expr made place of operand) ∷ st) ≡ true → (u : Declared) → host_kind made u ≡ kind_by_type u
unfolding no_host_on_top
typed_kind (host_object reference) place of operand st h u = let e : false ≡ true = h in absurd cc
typed_kind (constant a) place of operand st h u = refl
typed_kind (load a) place of operand st h u = refl
typed_kind (load_made a) place of operand st h u = refl
typed_kind (element_value a b) place of operand st h u = refl
typed_kind this place of operand st h u = refl
typed_kind (new_object a) place of operand st h u = refl
typed_kind (method a b c) place of operand st h u = refl
typed_kind (late_member a b c d) place of operand st h u = refl
typed_kind (late_item a b) place of operand st h u = refl
typed_kind (field_value a b) place of operand st h u = refl
typed_kind (unary a b) place of operand st h u = refl
typed_kind (binary a b c d) place of operand st h u = refl
typed_kind (call a b) place of operand st h u = refl
typed_kind (err_value a) place of operand st h u = refl
typed_kind (default_of a) place of operand st h u = refl
typed_kind (default_if_any a) place of operand st h u = refl
typed_kind (enumerated a) place of operand st h u = refl
typed_kind (same a b) place of operand st h u = refl
typed_kind (is_type a b) place of operand st h u = refl
typed_kind (library a b c d e) place of operand st h u = refl
typed_kind (marked a b) place of operand st h u = refl
typed_kind (bound_of a b c) place of operand st h u = refl
typed_kind (host_member a b c) place of operand st h u = refl
typed_kind (named_member a b c d) place of operand st h u = refl
typed_kind active_sheet place of operand st h u = refl
typed_kind not_given place of operand st h u = refl

kind_of : (n : Node) (made : bound.Node) (ps below : List Piece) → no_host_on_top ps ≡ true → ps ≡ expr_of n made ∷ below → (u : Declared) → host_kind made u ≡ kind_by_type u
kind_of n made ps below h e = typed_kind made n.place (declared_view n.of) (declared_view n.operand) below (sym (ap no_host_on_top e) ∙ h)

kind_typed : (t : Tables) (n : Node) (k : NodeKind) (st : List Piece) → is_typed_kind k ≡ true → no_host_on_top (put_kind t n k st) ≡ true
unfolding no_host_on_top
kind_typed t n (node.Constant i) st h = refl
kind_typed t n node.Load st h = place_passes no_host_on_top refl (λ x. expr_of n (load x)) (λ x rest. refl) st
kind_typed t n node.LoadMade st h = place_passes no_host_on_top refl (λ x. expr_of n (load_made x)) (λ x rest. refl) st
kind_typed t n (node.ElementValue count) st h = value_found_passes no_host_on_top refl (λ e es. expr_of n (element_value e es)) (λ e es rest. refl) (exprs_off count st no_exprs)
kind_typed t n (node.FieldValue i) st h = value_passes no_host_on_top refl (λ e. expr_of n (field_value e i)) (λ e rest. refl) st
kind_typed t n (node.Unary o of) st h = value_passes no_host_on_top refl (λ a. expr_of n (unary o (as_operand of a))) (λ e rest. refl) st
kind_typed t n (node.Binary o compare left right) st h = both_pass no_host_on_top refl (λ a b. expr_of n (binary o compare (as_operand left a) (as_operand right b))) (λ a b rest. refl) st
kind_typed t n (node.Call p count) st h = found_passes no_host_on_top refl (λ args. expr_of n (call p args)) (λ args rest. refl) (arguments_off count st no_args)
kind_typed t n (node.CallInOrder p count order) st h = found_passes no_host_on_top refl (λ args. expr_of n (call p (in_order (order_in t order) args))) (λ args rest. refl) (arguments_off count st no_args)
kind_typed t n (node.Method p count) st h = object_found_passes no_host_on_top refl (λ e args. expr_of n (method e p args)) (λ e args rest. refl) (arguments_off count st no_args)
kind_typed t n (node.MethodInOrder p count order) st h =
    object_found_passes no_host_on_top refl (λ e args. expr_of n (method e p (in_order (order_in t order) args))) (λ e args rest. refl) (arguments_off count st no_args)
kind_typed t n (node.ErrValue _) st h = refl
kind_typed t n (node.Library f text_form count compare one) st h =
    found_passes no_host_on_top refl (λ es. expr_of n (library f text_form es compare (base_view one))) (λ es rest. refl) (exprs_off count st no_exprs)
kind_typed t n node.Same st h = both_pass no_host_on_top refl (λ a b. expr_of n (same a b)) (λ a b rest. refl) st
kind_typed t n (node.IsType of) st h = value_passes no_host_on_top refl (λ e. expr_of n (is_type e (declared_view of))) (λ e rest. refl) st
kind_typed t n node.ActiveSheet st h = refl
kind_typed t n (node.HostMember i count) st h =
    member_found_passes no_host_on_top refl (name_in t i) (λ e es. expr_of n (host_member e (name_in t i) es)) (λ e es rest. refl) (exprs_off count st no_exprs)
kind_typed t n (node.NamedMember i by count) st h =
    named_found_passes no_host_on_top refl (name_in t i) (by_name_in t by) (λ e es. expr_of n (named_member e (name_in t i) (by_name_in t by) es)) (λ e es rest. refl) (exprs_off count st no_exprs)
kind_typed t n (node.LateMember x) st h =
    late_found_passes no_host_on_top refl (sought_in t Reading x) (λ e given. expr_of n (late_member e (name_in t x.name) (by_name_in t x.names) given)) (λ e given rest. refl)
    (given_off (sought_in t Reading x) x.arguments st none_given)
kind_typed t n (node.ItemAlong count) st h = value_found_passes no_host_on_top refl (λ e es. expr_of n (late_item e es)) (λ e es rest. refl) (exprs_off count st no_exprs)
kind_typed t n (node.HostObject reference) st h = let e : false ≡ true = h in absurd cc
kind_typed t n node.NotGiven st h = let e : false ≡ true = h in absurd cc
kind_typed t n (node.Variable x) st h = let e : false ≡ true = h in absurd cc
kind_typed t n (node.Item x count) st h = let e : false ≡ true = h in absurd cc
kind_typed t n (node.Element count) st h = let e : false ≡ true = h in absurd cc
kind_typed t n (node.Field i of bounded) st h = let e : false ≡ true = h in absurd cc
kind_typed t n (node.KeptPlace header) st h = let e : false ≡ true = h in absurd cc
kind_typed t n (node.ObjectField i of bounded) st h = let e : false ≡ true = h in absurd cc
kind_typed t n (node.NewVariable x c) st h = let e : false ≡ true = h in absurd cc
kind_typed t n (node.AsNew c) st h = let e : false ≡ true = h in absurd cc
kind_typed t n node.This st h = refl
kind_typed t n (node.NewObject c) st h = refl
kind_typed t n node.ObjectThere st h = let e : false ≡ true = h in absurd cc
kind_typed t n (node.BoundOf upper z) st h = let e : false ≡ true = h in absurd cc
kind_typed t n node.DefaultOf st h = let e : false ≡ true = h in absurd cc
kind_typed t n node.DefaultIfAny st h = let e : false ≡ true = h in absurd cc
kind_typed t n (node.MemberThere i given) st h = let e : false ≡ true = h in absurd cc
kind_typed t n (node.NamedThere i by given) st h = let e : false ≡ true = h in absurd cc
kind_typed t n (node.ElementAlong count) st h = let e : false ≡ true = h in absurd cc
kind_typed t n (node.LateField i) st h = let e : false ≡ true = h in absurd cc
kind_typed t n node.PlaceOf st h = let e : false ≡ true = h in absurd cc
kind_typed t n node.Enumerated st h = let e : false ≡ true = h in absurd cc
kind_typed t n (node.LateThere aim x) st h = let e : false ≡ true = h in absurd cc
kind_typed t n (node.LateValue aim x i) st h = let e : false ≡ true = h in absurd cc
kind_typed t n (node.LatePlace aim x i) st h = let e : false ≡ true = h in absurd cc
kind_typed t n node.ByPlace st h = let e : false ≡ true = h in absurd cc
kind_typed t n (node.ByCopy of) st h = let e : false ≡ true = h in absurd cc
kind_typed t n (node.ByDefault i) st h = let e : false ≡ true = h in absurd cc
kind_typed t n (node.Marked broken count) st h =
    found_passes no_host_on_top refl (λ es. expr_of n (marked broken es)) (λ es rest. refl) (exprs_off count st no_exprs)
kind_typed t n (node.ByList count) st h = let e : false ≡ true = h in absurd cc
kind_typed t n node.Shown st h = let e : false ≡ true = h in absurd cc
kind_typed t n node.Zone st h = let e : false ≡ true = h in absurd cc
kind_typed t n node.TestBegins st h = let e : false ≡ true = h in absurd cc
kind_typed t n (node.TestIs o of) st h = let e : false ≡ true = h in absurd cc
kind_typed t n (node.TestRange low high high_at) st h = let e : false ≡ true = h in absurd cc
kind_typed t n (node.Resize count of) st h = let e : false ≡ true = h in absurd cc
kind_typed t n node.Erased st h = let e : false ≡ true = h in absurd cc

pub typed_made : (t : Tables) (n : Node) (k : NodeKind) (made : bound.Node) (ps below : List Piece) → is_typed_kind k ≡ true → put_kind t n k ps ≡ expr_of n made ∷ below → (u : Declared) → host_kind made u ≡ kind_by_type u
typed_made t n k made ps below h e = kind_of n made (put_kind t n k ps) below (kind_typed t n k ps h) e

-- ---- what objects break that give way

pub object_made : (n : Node) (made : bound.Node) (r : HostRef) (ps below : List Piece) → expr_of n (host_object r) ∷ ps ≡ expr_of n made ∷ below → made ≡ host_object r
object_made n made r ps below h = let e : host_object r ≡ made = cc in sym e

pub host_breaks : (e : Ending) (r : HostRef) (rule : Option ℕ) → e.kind ≡ node.HostObject r → rule ≡ default_rule (kind_of_object r) → DefaultBreaks e rule
host_breaks e r rule is h = record {
  breaks = λ t made ps below ends.
      let P : NodeKind → Type 0 = λ (x : NodeKind). put_kind t any_node x ps ≡ expr_of any_node made ∷ below in
      ap (λ (z : bound.Node). default_rule (host_kind z (declared_view e.of))) (object_made any_node made r ps below (subst P is (ends any_node))) ∙ sym h;
}

pub typed_breaks : (e : Ending) (rule : Option ℕ) → is_typed_kind e.kind ≡ true → rule ≡ default_rule (kind_by_type (declared_view e.of)) → DefaultBreaks e rule
typed_breaks e rule is h = record {
  breaks = λ t made ps below ends. ap default_rule (typed_made t any_node e.kind made ps below is (ends any_node) (declared_view e.of)) ∙ sym h;
}
