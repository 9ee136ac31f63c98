-- What holds of the last piece that a node makes: that it is no expression that isn't written.
use Rattle.std.proofs.Common.{◌≡◌, suc, Bool, true, false, List, ◌∷◌, refl, sym, ap, ◌∙◌}
use Rattle.vba_base.specs.declared.place.Place.{Place}
use Rattle.vba_values.specs.Types.{Declared}
use Rattle.bound_project.specs.declared.node.Node.{Node}
use Rattle.bound_project.specs.declared.node.NodeKind.{NodeKind}
use Rattle.bound_project.specs.declared.node.NodeKind.TheVariants as node
use Rattle.bound_project.specs.declared.node.LateUse.TheVariants.{Reading}
use Rattle.bound_project.specs.Expressions.{expr, not_given, constant, load, load_made, element_value, field_value, unary, binary, call, err_value, default_of, default_if_any, enumerated, same, is_type, library, bound_of, host_object, active_sheet, host_member, named_member, this, new_object, method, late_member, late_item, no_args, in_order, Exprs, no_exprs, none_given, also, given_count, marked}
use Rattle.bound_project.specs.Expressions as bound
use Rattle.bound_project.specs.Pieces.{Piece, an_expr, Tables, arguments_off, as_operand, expr_of, exprs_off, given_off, is_there, by_name_in, name_in, order_in, put_kind, sought_in}
use Rattle.bound_project.specs.View.{base_view, declared_view}
use Rattle.bound_calls.proofs.LastNodes.{value_passes, place_passes, both_pass, found_passes, value_found_passes, member_found_passes, named_found_passes, object_found_passes, late_found_passes}
use Rattle.bound_members.specs.MemberCalls.{is_value_kind}

-- ---- values that are written

given_on_top : List Piece → Bool
given_on_top (an_expr e ∷ st) = is_there e
given_on_top st = true

kind_given : (t : Tables) (n : Node) (k : NodeKind) (st : List Piece) → is_value_kind k ≡ true → given_on_top (put_kind t n k st) ≡ true
unfolding given_on_top
kind_given t n (node.Constant i) st h = refl
kind_given t n node.Load st h = place_passes given_on_top refl (λ x. expr_of n (load x)) (λ x rest. refl) st
kind_given t n node.LoadMade st h = place_passes given_on_top refl (λ x. expr_of n (load_made x)) (λ x rest. refl) st
kind_given t n node.This st h = refl
kind_given t n (node.NewObject c) st h = refl
kind_given t n (node.Method p count) st h = object_found_passes given_on_top refl (λ e args. expr_of n (method e p args)) (λ e args rest. refl) (arguments_off count st no_args)
kind_given t n (node.MethodInOrder p count order) st h =
    object_found_passes given_on_top refl (λ e args. expr_of n (method e p (in_order (order_in t order) args))) (λ e args rest. refl) (arguments_off count st no_args)
kind_given t n (node.ElementValue count) st h = value_found_passes given_on_top refl (λ e es. expr_of n (element_value e es)) (λ e es rest. refl) (exprs_off count st no_exprs)
kind_given t n (node.FieldValue i) st h = value_passes given_on_top refl (λ e. expr_of n (field_value e i)) (λ e rest. refl) st
kind_given t n (node.Unary o of) st h = value_passes given_on_top refl (λ a. expr_of n (unary o (as_operand of a))) (λ e rest. refl) st
kind_given t n (node.Binary o compare left right) st h = both_pass given_on_top refl (λ a b. expr_of n (binary o compare (as_operand left a) (as_operand right b))) (λ a b rest. refl) st
kind_given t n (node.Call p count) st h = found_passes given_on_top refl (λ args. expr_of n (call p args)) (λ args rest. refl) (arguments_off count st no_args)
kind_given t n (node.CallInOrder p count order) st h = found_passes given_on_top refl (λ args. expr_of n (call p (in_order (order_in t order) args))) (λ args rest. refl) (arguments_off count st no_args)
kind_given t n (node.ErrValue _) st h = refl
kind_given t n (node.Library f text_form count compare one) st h =
    found_passes given_on_top refl (λ es. expr_of n (library f text_form es compare (base_view one))) (λ es rest. refl) (exprs_off count st no_exprs)
kind_given t n node.Same st h = both_pass given_on_top refl (λ a b. expr_of n (same a b)) (λ a b rest. refl) st
kind_given t n (node.IsType of) st h = value_passes given_on_top refl (λ e. expr_of n (is_type e (declared_view of))) (λ e rest. refl) st
kind_given t n (node.LateMember x) st h =
    late_found_passes given_on_top refl (sought_in t Reading x) (λ e given. expr_of n (late_member e (name_in t x.name) (by_name_in t x.names) given)) (λ e given rest. refl)
    (given_off (sought_in t Reading x) x.arguments st none_given)
kind_given t n (node.ItemAlong count) st h = value_found_passes given_on_top refl (λ e es. expr_of n (late_item e es)) (λ e es rest. refl) (exprs_off count st no_exprs)
kind_given t n (node.HostObject reference) st h = refl
kind_given t n node.ActiveSheet st h = refl
kind_given t n (node.HostMember i count) st h =
    member_found_passes given_on_top refl (name_in t i) (λ e es. expr_of n (host_member e (name_in t i) es)) (λ e es rest. refl) (exprs_off count st no_exprs)
kind_given t n (node.NamedMember i by count) st h =
    named_found_passes given_on_top refl (name_in t i) (by_name_in t by) (λ e es. expr_of n (named_member e (name_in t i) (by_name_in t by) es)) (λ e es rest. refl) (exprs_off count st no_exprs)
kind_given t n node.NotGiven st h = let e : false ≡ true = h in absurd cc
kind_given t n (node.Variable x) st h = let e : false ≡ true = h in absurd cc
kind_given t n (node.Item x count) st h = let e : false ≡ true = h in absurd cc
kind_given t n (node.Element count) st h = let e : false ≡ true = h in absurd cc
kind_given t n (node.Field i of bounded) st h = let e : false ≡ true = h in absurd cc
kind_given t n (node.KeptPlace header) st h = let e : false ≡ true = h in absurd cc
kind_given t n (node.ObjectField i of bounded) st h = let e : false ≡ true = h in absurd cc
kind_given t n (node.NewVariable x c) st h = let e : false ≡ true = h in absurd cc
kind_given t n (node.AsNew c) st h = let e : false ≡ true = h in absurd cc
kind_given t n node.ObjectThere st h = let e : false ≡ true = h in absurd cc
kind_given t n (node.BoundOf upper z) st h = let e : false ≡ true = h in absurd cc
kind_given t n node.DefaultOf st h = let e : false ≡ true = h in absurd cc
kind_given t n node.DefaultIfAny st h = let e : false ≡ true = h in absurd cc
kind_given t n (node.MemberThere i given) st h = let e : false ≡ true = h in absurd cc
kind_given t n (node.NamedThere i by given) st h = let e : false ≡ true = h in absurd cc
kind_given t n (node.ElementAlong count) st h = let e : false ≡ true = h in absurd cc
kind_given t n (node.LateField i) st h = let e : false ≡ true = h in absurd cc
kind_given t n node.PlaceOf st h = let e : false ≡ true = h in absurd cc
kind_given t n node.Enumerated st h = let e : false ≡ true = h in absurd cc
kind_given t n (node.LateThere aim x) st h = let e : false ≡ true = h in absurd cc
kind_given t n (node.LateValue aim x i) st h = let e : false ≡ true = h in absurd cc
kind_given t n (node.LatePlace aim x i) st h = let e : false ≡ true = h in absurd cc
kind_given t n node.ByPlace st h = let e : false ≡ true = h in absurd cc
kind_given t n (node.ByCopy of) st h = let e : false ≡ true = h in absurd cc
kind_given t n (node.ByDefault i) st h = let e : false ≡ true = h in absurd cc
kind_given t n (node.Marked broken count) st h =
    found_passes given_on_top refl (λ es. expr_of n (marked broken es)) (λ es rest. refl) (exprs_off count st no_exprs)
kind_given t n (node.ByList count) st h = let e : false ≡ true = h in absurd cc
kind_given t n node.Shown st h = let e : false ≡ true = h in absurd cc
kind_given t n node.Zone st h = let e : false ≡ true = h in absurd cc
kind_given t n node.TestBegins st h = let e : false ≡ true = h in absurd cc
kind_given t n (node.TestIs o of) st h = let e : false ≡ true = h in absurd cc
kind_given t n (node.TestRange low high high_at) st h = let e : false ≡ true = h in absurd cc
kind_given t n (node.Resize count of) st h = let e : false ≡ true = h in absurd cc
kind_given t n node.Erased st h = let e : false ≡ true = h in absurd cc

-- what is written counts as given
there_counts : (made : bound.Node) (place : Place) (of operand : Declared) → is_there (expr made place of operand) ≡ true → (rest : Exprs) → given_count (also (expr made place of operand) rest) ≡ suc (given_count rest)
there_counts not_given place of operand h rest = let e : false ≡ true = h in absurd cc
there_counts (constant a) place of operand h rest = refl
there_counts (load a) place of operand h rest = refl
there_counts (load_made a) place of operand h rest = refl
there_counts (element_value a b) place of operand h rest = refl
there_counts this place of operand h rest = refl
there_counts (new_object a) place of operand h rest = refl
there_counts (method a b c) place of operand h rest = refl
there_counts (late_member a b c d) place of operand h rest = refl
there_counts (late_item a b) place of operand h rest = refl
there_counts (field_value a b) place of operand h rest = refl
there_counts (unary a b) place of operand h rest = refl
there_counts (binary a b c d) place of operand h rest = refl
there_counts (call a b) place of operand h rest = refl
there_counts (err_value a) place of operand h rest = refl
there_counts (default_of a) place of operand h rest = refl
there_counts (default_if_any a) place of operand h rest = refl
there_counts (enumerated a) place of operand h rest = refl
there_counts (same a b) place of operand h rest = refl
there_counts (is_type a b) place of operand h rest = refl
there_counts (library a b c d e) place of operand h rest = refl
there_counts (marked a b) place of operand h rest = refl
there_counts (bound_of a b c) place of operand h rest = refl
there_counts (host_object a) place of operand h rest = refl
there_counts (host_member a b c) place of operand h rest = refl
there_counts (named_member a b c d) place of operand h rest = refl
there_counts active_sheet place of operand h rest = refl

pub counted : (e : bound.Expr) → is_there e ≡ true → (rest : Exprs) → given_count (also e rest) ≡ suc (given_count rest)
counted (expr made place of operand) h rest = there_counts made place of operand h rest

-- what a value's last node makes is written
pub there : (t : Tables) (n : Node) (k : NodeKind) (made : bound.Node) (ps below : List Piece) → is_value_kind k ≡ true → put_kind t n k ps ≡ expr_of n made ∷ below
    → is_there (expr made n.place (declared_view n.of) (declared_view n.operand)) ≡ true
unfolding given_on_top
there t n k made ps below h e = sym (ap given_on_top e) ∙ kind_given t n k ps h
