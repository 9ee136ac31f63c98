-- What holds of the last piece that a node makes: a test that misfits pass, and whether it may be an object.
use Rattle.std.proofs.Common.{◌≡◌, ℕ, Bool, true, false, ◌&&◌, not, List, [], ◌∷◌, Option, Some, None, is_some, if◌then◌else◌, refl, sym, ap, ◌∙◌}
use Rattle.std.specs.Prelude.{IfSome, unwrap_or}
use Rattle.bound_project.specs.declared.declared_type.DeclaredType.TheVariants.{Plain}
use Rattle.bound_project.specs.declared.declared_type.ElementType.TheVariants as element
use Rattle.bound_project.specs.declared.node.Node.{Node}
use Rattle.bound_project.specs.declared.node.NodeKind.{NodeKind}
use Rattle.bound_project.specs.declared.node.NodeKind.TheVariants as node
use Rattle.bound_project.specs.declared.node.LateUse.TheVariants.{Reading}
use Rattle.bound_project.specs.Expressions.{Expr, expr, load, element_value, field_value, unary, binary, call, same, library, host_member, named_member, late_item, late_member, ByName, no_args, in_order, Exprs, no_exprs, Given, none_given, Lvalue, marked, load_made, method, Args}
use Rattle.bound_project.specs.Expressions as bound
use Rattle.bound_project.specs.Pieces.{Piece, nothing, an_expr, a_place, a_member, a_named_member, an_argument, a_value_shown, a_zone, a_test_begun, a_test_is, a_test_range, a_resize, an_erased, a_late, a_given, Tables, arguments_off, as_operand, expr_of, exprs_off, given_off, is_late, is_member, is_named_member, misfit, by_name_in, name_in, of_both, of_found, of_late, of_late_found, of_member, of_member_found, of_named, of_named_found, of_place, of_value, of_value_found, order_in, put_kind, an_object, of_object, of_object_found, Sought, sought_in}
use Rattle.bound_project.specs.Project.{nowhere}
use Rattle.bound_project.specs.View.{base_view, declared_view}
use Rattle.bound_declarations.specs.constant_values.specs.declared_names.specs.binder.specs.Constants.{is_variant}
use Rattle.bound_declarations.specs.constant_values.specs.declared_names.specs.binder.specs.Classes.{has_class}
use Rattle.bound_forms.specs.Operands.{may_be_object, may_give_object, is_instance_type, is_item_name, is_of_class, is_of_host, may_be_instance}
use Rattle.bound_forms.specs.Terms.{expression_of}
use Rattle.bound_calls.specs.declared.term.Ending.{Ending}
use Rattle.bound_calls.specs.References.{EndingGives, IsFoundLate, IsInstance, ends_known, kind_gives, known_instance, known_object, NoInstance, instance_at, is_of_host_kind, may_be_instance_by, unknown_may}
use Rattle.bound_project.specs.declared.declared_type.DeclaredType.{DeclaredType}

-- ---- a test of pieces that misfits pass

pub value_passes : (test : List Piece → Bool) → test misfit ≡ true → (make : Expr → Piece) → ((e : Expr) (st : List Piece) → test (make e ∷ st) ≡ true) → (st : List Piece) → test (of_value make st) ≡ true
value_passes test m make h [] = m
value_passes test m make h (nothing ∷ st) = m
value_passes test m make h ((an_expr a) ∷ st) = h a st
value_passes test m make h ((a_place a) ∷ st) = m
value_passes test m make h ((an_object a) ∷ st) = m
value_passes test m make h ((a_member a b c) ∷ st) = m
value_passes test m make h ((a_named_member a b c d) ∷ st) = m
value_passes test m make h ((an_argument a) ∷ st) = m
value_passes test m make h ((a_value_shown a) ∷ st) = m
value_passes test m make h (a_zone ∷ st) = m
value_passes test m make h (a_test_begun ∷ st) = m
value_passes test m make h ((a_test_is a b c) ∷ st) = m
value_passes test m make h ((a_test_range a b c d) ∷ st) = m
value_passes test m make h ((a_resize a b c) ∷ st) = m
value_passes test m make h ((an_erased a) ∷ st) = m
value_passes test m make h ((a_late a b) ∷ st) = m
value_passes test m make h ((a_given a b c) ∷ st) = m

pub place_passes : (test : List Piece → Bool) → test misfit ≡ true → (make : Lvalue → Piece) → ((x : Lvalue) (st : List Piece) → test (make x ∷ st) ≡ true) → (st : List Piece) → test (of_place make st) ≡ true
place_passes test m make h [] = m
place_passes test m make h (nothing ∷ st) = m
place_passes test m make h ((an_expr a) ∷ st) = m
place_passes test m make h ((a_place a) ∷ st) = h a st
place_passes test m make h ((an_object a) ∷ st) = m
place_passes test m make h ((a_member a b c) ∷ st) = m
place_passes test m make h ((a_named_member a b c d) ∷ st) = m
place_passes test m make h ((an_argument a) ∷ st) = m
place_passes test m make h ((a_value_shown a) ∷ st) = m
place_passes test m make h (a_zone ∷ st) = m
place_passes test m make h (a_test_begun ∷ st) = m
place_passes test m make h ((a_test_is a b c) ∷ st) = m
place_passes test m make h ((a_test_range a b c d) ∷ st) = m
place_passes test m make h ((a_resize a b c) ∷ st) = m
place_passes test m make h ((an_erased a) ∷ st) = m
place_passes test m make h ((a_late a b) ∷ st) = m
place_passes test m make h ((a_given a b c) ∷ st) = m

pub both_pass : (test : List Piece → Bool) → test misfit ≡ true → (make : Expr → Expr → Piece) → ((a b : Expr) (st : List Piece) → test (make a b ∷ st) ≡ true) → (st : List Piece) → test (of_both make st) ≡ true
both_pass test m make h [] = m
both_pass test m make h (nothing ∷ st) = m
both_pass test m make h (an_expr y ∷ []) = m
both_pass test m make h (an_expr y ∷ nothing ∷ st) = m
both_pass test m make h (an_expr y ∷ (an_expr a) ∷ st) = h a y st
both_pass test m make h (an_expr y ∷ (a_place a) ∷ st) = m
both_pass test m make h (an_expr y ∷ (an_object a) ∷ st) = m
both_pass test m make h (an_expr y ∷ (a_member a b c) ∷ st) = m
both_pass test m make h (an_expr y ∷ (a_named_member a b c d) ∷ st) = m
both_pass test m make h (an_expr y ∷ (an_argument a) ∷ st) = m
both_pass test m make h (an_expr y ∷ (a_value_shown a) ∷ st) = m
both_pass test m make h (an_expr y ∷ a_zone ∷ st) = m
both_pass test m make h (an_expr y ∷ a_test_begun ∷ st) = m
both_pass test m make h (an_expr y ∷ (a_test_is a b c) ∷ st) = m
both_pass test m make h (an_expr y ∷ (a_test_range a b c d) ∷ st) = m
both_pass test m make h (an_expr y ∷ (a_resize a b c) ∷ st) = m
both_pass test m make h (an_expr y ∷ (an_erased a) ∷ st) = m
both_pass test m make h (an_expr y ∷ (a_late a b) ∷ st) = m
both_pass test m make h (an_expr y ∷ (a_given a b c) ∷ st) = m
both_pass test m make h ((a_place a) ∷ st) = m
both_pass test m make h ((an_object a) ∷ st) = m
both_pass test m make h ((a_member a b c) ∷ st) = m
both_pass test m make h ((a_named_member a b c d) ∷ st) = m
both_pass test m make h ((an_argument a) ∷ st) = m
both_pass test m make h ((a_value_shown a) ∷ st) = m
both_pass test m make h (a_zone ∷ st) = m
both_pass test m make h (a_test_begun ∷ st) = m
both_pass test m make h ((a_test_is a b c) ∷ st) = m
both_pass test m make h ((a_test_range a b c d) ∷ st) = m
both_pass test m make h ((a_resize a b c) ∷ st) = m
both_pass test m make h ((an_erased a) ∷ st) = m
both_pass test m make h ((a_late a b) ∷ st) = m
both_pass test m make h ((a_given a b c) ∷ st) = m

pub found_passes : {A : Type 0} (test : List Piece → Bool) → test misfit ≡ true → (make : A → Piece) → ((a : A) (st : List Piece) → test (make a ∷ st) ≡ true) → (o : Option (A × List Piece)) → test (of_found make o) ≡ true
found_passes test m make h None = m
found_passes test m make h (Some found) = h found.0 found.1

pub value_found_passes : (test : List Piece → Bool) → test misfit ≡ true → (make : Expr → Exprs → Piece) → ((e : Expr) (es : Exprs) (st : List Piece) → test (make e es ∷ st) ≡ true) → (o : Option (Exprs × List Piece))
    → test (of_value_found make o) ≡ true
value_found_passes test m make h None = m
value_found_passes test m make h (Some found) = value_passes test m (λ e. make e found.0) (λ e st. h e found.0 st) found.1

if_passes : (test : List Piece → Bool) → test misfit ≡ true → (b : Bool) (ps : List Piece) → test ps ≡ true → test (if b then ps else misfit) ≡ true
if_passes test m true ps h = h
if_passes test m false ps h = m

member_passes : (test : List Piece → Bool) → test misfit ≡ true → (name : List ℕ) (make : Expr → Exprs → Piece) → ((e : Expr) (es : Exprs) (st : List Piece) → test (make e es ∷ st) ≡ true) → (es : Exprs) (st : List Piece)
    → test (of_member name make es st) ≡ true
member_passes test m name make h es [] = m
member_passes test m name make h es (nothing ∷ st) = m
member_passes test m name make h es ((an_expr a) ∷ st) = m
member_passes test m name make h es ((a_place a) ∷ st) = m
member_passes test m name make h es ((an_object a) ∷ st) = m
member_passes test m name make h es (a_member a other given ∷ st) = if_passes test m (is_member name other given es) (make a es ∷ st) (h a es st)
member_passes test m name make h es (a_named_member a b c d ∷ st) = m
member_passes test m name make h es ((an_argument a) ∷ st) = m
member_passes test m name make h es ((a_value_shown a) ∷ st) = m
member_passes test m name make h es (a_zone ∷ st) = m
member_passes test m name make h es (a_test_begun ∷ st) = m
member_passes test m name make h es ((a_test_is a b c) ∷ st) = m
member_passes test m name make h es ((a_test_range a b c d) ∷ st) = m
member_passes test m name make h es ((a_resize a b c) ∷ st) = m
member_passes test m name make h es ((an_erased a) ∷ st) = m
member_passes test m name make h es ((a_late a b) ∷ st) = m
member_passes test m name make h es ((a_given a b c) ∷ st) = m

pub member_found_passes : (test : List Piece → Bool) → test misfit ≡ true → (name : List ℕ) (make : Expr → Exprs → Piece) → ((e : Expr) (es : Exprs) (st : List Piece) → test (make e es ∷ st) ≡ true) → (o : Option (Exprs × List Piece))
    → test (of_member_found name make o) ≡ true
member_found_passes test m name make h None = m
member_found_passes test m name make h (Some found) = member_passes test m name make h found.0 found.1

named_passes : (test : List Piece → Bool) → test misfit ≡ true → (name : List ℕ) (by : ByName) (make : Expr → Exprs → Piece) → ((e : Expr) (es : Exprs) (st : List Piece) → test (make e es ∷ st) ≡ true) → (es : Exprs) (st : List Piece)
    → test (of_named name by make es st) ≡ true
named_passes test m name by make h es [] = m
named_passes test m name by make h es (nothing ∷ st) = m
named_passes test m name by make h es ((an_expr a) ∷ st) = m
named_passes test m name by make h es ((a_place a) ∷ st) = m
named_passes test m name by make h es ((an_object a) ∷ st) = m
named_passes test m name by make h es ((a_member a b c) ∷ st) = m
named_passes test m name by make h es (a_named_member a other how given ∷ st) = if_passes test m (is_named_member name other by how given es) (make a es ∷ st) (h a es st)
named_passes test m name by make h es ((an_argument a) ∷ st) = m
named_passes test m name by make h es ((a_value_shown a) ∷ st) = m
named_passes test m name by make h es (a_zone ∷ st) = m
named_passes test m name by make h es (a_test_begun ∷ st) = m
named_passes test m name by make h es ((a_test_is a b c) ∷ st) = m
named_passes test m name by make h es ((a_test_range a b c d) ∷ st) = m
named_passes test m name by make h es ((a_resize a b c) ∷ st) = m
named_passes test m name by make h es ((an_erased a) ∷ st) = m
named_passes test m name by make h es ((a_late a b) ∷ st) = m
named_passes test m name by make h es ((a_given a b c) ∷ st) = m

pub named_found_passes : (test : List Piece → Bool) → test misfit ≡ true → (name : List ℕ) (by : ByName) (make : Expr → Exprs → Piece) → ((e : Expr) (es : Exprs) (st : List Piece) → test (make e es ∷ st) ≡ true) → (o : Option (Exprs × List Piece))
    → test (of_named_found name by make o) ≡ true
named_found_passes test m name by make h None = m
named_found_passes test m name by make h (Some found) = named_passes test m name by make h found.0 found.1

object_passes : (test : List Piece → Bool) → test misfit ≡ true → (make : Expr → Args → Piece) → ((e : Expr) (args : Args) (st : List Piece) → test (make e args ∷ st) ≡ true) → (args : Args) (st : List Piece)
    → test (of_object make args st) ≡ true
object_passes test m make h args [] = m
object_passes test m make h args (nothing ∷ st) = m
object_passes test m make h args ((an_expr a) ∷ st) = m
object_passes test m make h args ((a_place a) ∷ st) = m
object_passes test m make h args ((an_object a) ∷ st) = h a args st
object_passes test m make h args ((a_member a b c) ∷ st) = m
object_passes test m make h args ((a_named_member a b c d) ∷ st) = m
object_passes test m make h args ((an_argument a) ∷ st) = m
object_passes test m make h args ((a_value_shown a) ∷ st) = m
object_passes test m make h args (a_zone ∷ st) = m
object_passes test m make h args (a_test_begun ∷ st) = m
object_passes test m make h args ((a_test_is a b c) ∷ st) = m
object_passes test m make h args ((a_test_range a b c d) ∷ st) = m
object_passes test m make h args ((a_resize a b c) ∷ st) = m
object_passes test m make h args ((an_erased a) ∷ st) = m
object_passes test m make h args ((a_late a b) ∷ st) = m
object_passes test m make h args ((a_given a b c) ∷ st) = m

pub object_found_passes : (test : List Piece → Bool) → test misfit ≡ true → (make : Expr → Args → Piece) → ((e : Expr) (args : Args) (st : List Piece) → test (make e args ∷ st) ≡ true) → (o : Option (Args × List Piece))
    → test (of_object_found make o) ≡ true
object_found_passes test m make h None = m
object_found_passes test m make h (Some found) = object_passes test m make h found.0 found.1

late_passes : (test : List Piece → Bool) → test misfit ≡ true → (q : Sought) (make : Expr → Given → Piece) → ((e : Expr) (given : Given) (st : List Piece) → test (make e given ∷ st) ≡ true) → (given : Given) (st : List Piece)
    → test (of_late q make given st) ≡ true
late_passes test m q make h given [] = m
late_passes test m q make h given (nothing ∷ st) = m
late_passes test m q make h given ((an_expr a) ∷ st) = m
late_passes test m q make h given ((a_place a) ∷ st) = m
late_passes test m q make h given ((an_object a) ∷ st) = m
late_passes test m q make h given ((a_member a b c) ∷ st) = m
late_passes test m q make h given ((a_named_member a b c d) ∷ st) = m
late_passes test m q make h given ((an_argument a) ∷ st) = m
late_passes test m q make h given ((a_value_shown a) ∷ st) = m
late_passes test m q make h given (a_zone ∷ st) = m
late_passes test m q make h given (a_test_begun ∷ st) = m
late_passes test m q make h given ((a_test_is a b c) ∷ st) = m
late_passes test m q make h given ((a_test_range a b c d) ∷ st) = m
late_passes test m q make h given ((a_resize a b c) ∷ st) = m
late_passes test m q make h given ((an_erased a) ∷ st) = m
late_passes test m q make h given (a_late a other ∷ st) = if_passes test m (is_late q other given) (make a given ∷ st) (h a given st)
late_passes test m q make h given ((a_given a b c) ∷ st) = m

pub late_found_passes : (test : List Piece → Bool) → test misfit ≡ true → (q : Sought) (make : Expr → Given → Piece) → ((e : Expr) (given : Given) (st : List Piece) → test (make e given ∷ st) ≡ true) → (o : Option (Given × List Piece))
    → test (of_late_found q make o) ≡ true
late_found_passes test m q make h None = m
late_found_passes test m q make h (Some found) = late_passes test m q make h found.0 found.1

-- ---- what may be an object

pub any_node : Node
any_node = record { kind = node.NotGiven; place = nowhere; of = Plain element.Variant; operand = Plain element.Variant }

abbrev agree : Bool → Bool → Bool
agree true g = g
agree false g = not g

agree_same : (g b : Bool) → Some g ≡ Some b → agree b g ≡ true
agree_same true true h = refl
agree_same false false h = refl
agree_same true false h = absurd cc
agree_same false true h = absurd cc

agree_is : (g b : Bool) → agree b g ≡ true → g ≡ b
agree_is true true h = refl
agree_is false false h = refl
agree_is true false h = let e : false ≡ true = h in absurd cc
agree_is false true h = let e : false ≡ true = h in absurd cc

-- a value on top may be an object, or is none
gives_on_top : Bool → List Piece → Bool
gives_on_top b (an_expr (expr made place of operand) ∷ st) = agree b (may_be_object made)
gives_on_top b st = true

kind_agrees : (t : Tables) (n : Node) (k : NodeKind) (st : List Piece) (b : Bool) → kind_gives k ≡ Some b → gives_on_top b (put_kind t n k st) ≡ true
unfolding gives_on_top
kind_agrees t n node.Load st b h = place_passes (gives_on_top b) refl (λ x. expr_of n (load x)) (λ x rest. agree_same true b h) st
kind_agrees t n node.LoadMade st b h = place_passes (gives_on_top b) refl (λ x. expr_of n (load_made x)) (λ x rest. agree_same true b h) st
kind_agrees t n (node.ElementValue count) st b h = value_found_passes (gives_on_top b) refl (λ e es. expr_of n (element_value e es)) (λ e es rest. agree_same true b h) (exprs_off count st no_exprs)
kind_agrees t n (node.FieldValue i) st b h = value_passes (gives_on_top b) refl (λ e. expr_of n (field_value e i)) (λ e rest. agree_same true b h) st
kind_agrees t n (node.Call p count) st b h = found_passes (gives_on_top b) refl (λ args. expr_of n (call p args)) (λ args rest. agree_same true b h) (arguments_off count st no_args)
kind_agrees t n (node.CallInOrder p count order) st b h =
    found_passes (gives_on_top b) refl (λ args. expr_of n (call p (in_order (order_in t order) args))) (λ args rest. agree_same true b h) (arguments_off count st no_args)
kind_agrees t n (node.Method p count) st b h =
    object_found_passes (gives_on_top b) refl (λ e args. expr_of n (method e p args)) (λ e args rest. agree_same true b h) (arguments_off count st no_args)
kind_agrees t n (node.MethodInOrder p count order) st b h =
    object_found_passes (gives_on_top b) refl (λ e args. expr_of n (method e p (in_order (order_in t order) args))) (λ e args rest. agree_same true b h) (arguments_off count st no_args)
kind_agrees t n (node.HostMember i count) st b h =
    member_found_passes (gives_on_top b) refl (name_in t i) (λ e es. expr_of n (host_member e (name_in t i) es)) (λ e es rest. agree_same true b h) (exprs_off count st no_exprs)
kind_agrees t n (node.NamedMember i by count) st b h =
    named_found_passes (gives_on_top b) refl (name_in t i) (by_name_in t by) (λ e es. expr_of n (named_member e (name_in t i) (by_name_in t by) es)) (λ e es rest. agree_same true b h) (exprs_off count st no_exprs)
kind_agrees t n (node.LateMember x) st b h =
    late_found_passes (gives_on_top b) refl (sought_in t Reading x) (λ e given. expr_of n (late_member e (name_in t x.name) (by_name_in t x.names) given)) (λ e given rest. agree_same true b h)
    (given_off (sought_in t Reading x) x.arguments st none_given)
kind_agrees t n (node.ItemAlong count) st b h = value_found_passes (gives_on_top b) refl (λ e es. expr_of n (late_item e es)) (λ e es rest. agree_same true b h) (exprs_off count st no_exprs)
kind_agrees t n (node.Library f text_form count compare one) st b h =
    found_passes (gives_on_top b) refl (λ es. expr_of n (library f text_form es compare (base_view one))) (λ es rest. agree_same (may_give_object f) b h) (exprs_off count st no_exprs)
kind_agrees t n (node.Marked broken count) st b h =
    found_passes (gives_on_top b) refl (λ es. expr_of n (marked broken es)) (λ es rest. agree_same true b h) (exprs_off count st no_exprs)
kind_agrees t n (node.Constant i) st b h = agree_same false b h
kind_agrees t n (node.Unary o of) st b h = value_passes (gives_on_top b) refl (λ a. expr_of n (unary o (as_operand of a))) (λ e rest. agree_same false b h) st
kind_agrees t n (node.Binary o compare left right) st b h =
    both_pass (gives_on_top b) refl (λ x y. expr_of n (binary o compare (as_operand left x) (as_operand right y))) (λ x y rest. agree_same false b h) st
kind_agrees t n (node.ErrValue _) st b h = agree_same false b h
kind_agrees t n node.Same st b h = both_pass (gives_on_top b) refl (λ x y. expr_of n (same x y)) (λ x y rest. agree_same false b h) st
kind_agrees t n (node.HostObject reference) st b h = agree_same false b h
kind_agrees t n node.ActiveSheet st b h = agree_same false b h
kind_agrees t n node.NotGiven st b h = let e : None ≡ Some b = h in absurd cc
kind_agrees t n (node.Variable x) st b h = let e : None ≡ Some b = h in absurd cc
kind_agrees t n (node.Item x count) st b h = let e : None ≡ Some b = h in absurd cc
kind_agrees t n (node.Element count) st b h = let e : None ≡ Some b = h in absurd cc
kind_agrees t n (node.Field i of bounded) st b h = let e : None ≡ Some b = h in absurd cc
kind_agrees t n (node.KeptPlace header) st b h = let e : None ≡ Some b = h in absurd cc
kind_agrees t n (node.ObjectField i of bounded) st b h = let e : None ≡ Some b = h in absurd cc
kind_agrees t n (node.NewVariable x c) st b h = let e : None ≡ Some b = h in absurd cc
kind_agrees t n (node.AsNew c) st b h = let e : None ≡ Some b = h in absurd cc
kind_agrees t n node.This st b h = let e : None ≡ Some b = h in absurd cc
kind_agrees t n (node.NewObject c) st b h = let e : None ≡ Some b = h in absurd cc
kind_agrees t n node.ObjectThere st b h = let e : None ≡ Some b = h in absurd cc
kind_agrees t n (node.BoundOf upper z) st b h = let e : None ≡ Some b = h in absurd cc
kind_agrees t n node.DefaultOf st b h = let e : None ≡ Some b = h in absurd cc
kind_agrees t n node.DefaultIfAny st b h = let e : None ≡ Some b = h in absurd cc
kind_agrees t n (node.IsType of) st b h = let e : None ≡ Some b = h in absurd cc
kind_agrees t n (node.MemberThere i given) st b h = let e : None ≡ Some b = h in absurd cc
kind_agrees t n (node.NamedThere i by given) st b h = let e : None ≡ Some b = h in absurd cc
kind_agrees t n (node.ElementAlong count) st b h = let e : None ≡ Some b = h in absurd cc
kind_agrees t n (node.LateField i) st b h = let e : None ≡ Some b = h in absurd cc
kind_agrees t n node.PlaceOf st b h = let e : None ≡ Some b = h in absurd cc
kind_agrees t n node.Enumerated st b h = let e : None ≡ Some b = h in absurd cc
kind_agrees t n (node.LateThere aim x) st b h = let e : None ≡ Some b = h in absurd cc
kind_agrees t n (node.LateValue aim x i) st b h = let e : None ≡ Some b = h in absurd cc
kind_agrees t n (node.LatePlace aim x i) st b h = let e : None ≡ Some b = h in absurd cc
kind_agrees t n node.ByPlace st b h = let e : None ≡ Some b = h in absurd cc
kind_agrees t n (node.ByCopy of) st b h = let e : None ≡ Some b = h in absurd cc
kind_agrees t n (node.ByDefault i) st b h = let e : None ≡ Some b = h in absurd cc
kind_agrees t n (node.ByList count) st b h = let e : None ≡ Some b = h in absurd cc
kind_agrees t n node.Shown st b h = let e : None ≡ Some b = h in absurd cc
kind_agrees t n node.Zone st b h = let e : None ≡ Some b = h in absurd cc
kind_agrees t n node.TestBegins st b h = let e : None ≡ Some b = h in absurd cc
kind_agrees t n (node.TestIs o of) st b h = let e : None ≡ Some b = h in absurd cc
kind_agrees t n (node.TestRange low high high_at) st b h = let e : None ≡ Some b = h in absurd cc
kind_agrees t n (node.Resize count of) st b h = let e : None ≡ Some b = h in absurd cc
kind_agrees t n node.Erased st b h = let e : None ≡ Some b = h in absurd cc

made_gives : (t : Tables) (k : NodeKind) (b : Bool) (made : bound.Node) (ps below : List Piece) → kind_gives k ≡ Some b → put_kind t any_node k ps ≡ expr_of any_node made ∷ below → may_be_object made ≡ b
unfolding gives_on_top
made_gives t k b made ps below h e = agree_is (may_be_object made) b (sym (ap (gives_on_top b) e) ∙ kind_agrees t any_node k ps b h)

pub ending_gives : (e : Ending) (b : Bool) → is_variant (declared_view e.of) ≡ true → kind_gives e.kind ≡ Some b → EndingGives e b
ending_gives e b v h = λ t made ps below ends. ap (λ c. c && may_be_object made) v ∙ made_gives t e.kind b made ps below h (ends any_node)

pub ending_plain : (e : Ending) → is_variant (declared_view e.of) ≡ false → EndingGives e false
ending_plain e v = λ t made ps below ends. ap (λ c. c && may_be_object made) v

pub gives_some : (e : Ending) (o : Option Bool) → is_variant (declared_view e.of) ≡ true → o ≡ kind_gives e.kind → IfSome o (λ b. EndingGives e b)
gives_some e None v h = tt
gives_some e (Some b) v h = ending_gives e b v (sym h)

-- ---- objects of classes

-- a value on top is an object of the host, or Nothing, or it is neither
host_on_top : Bool → List Piece → Bool
host_on_top b (an_expr (expr made place of operand) ∷ st) = agree b (is_of_host made)
host_on_top b st = true

agree_itself : (b : Bool) → agree b b ≡ true
agree_itself true = refl
agree_itself false = refl

kind_hosts : (t : Tables) (k : NodeKind) (st : List Piece) → ends_known k ≡ true → host_on_top (is_of_host_kind t k) (put_kind t any_node k st) ≡ true
unfolding host_on_top
kind_hosts t node.Load st h = place_passes (host_on_top false) refl (λ x. expr_of any_node (load x)) (λ x rest. refl) st
kind_hosts t node.LoadMade st h = place_passes (host_on_top false) refl (λ x. expr_of any_node (load_made x)) (λ x rest. refl) st
kind_hosts t (node.ElementValue count) st h = value_found_passes (host_on_top false) refl (λ e es. expr_of any_node (element_value e es)) (λ e es rest. refl) (exprs_off count st no_exprs)
kind_hosts t (node.FieldValue i) st h = value_passes (host_on_top false) refl (λ e. expr_of any_node (field_value e i)) (λ e rest. refl) st
kind_hosts t (node.Call p count) st h = found_passes (host_on_top false) refl (λ args. expr_of any_node (call p args)) (λ args rest. refl) (arguments_off count st no_args)
kind_hosts t (node.CallInOrder p count order) st h =
    found_passes (host_on_top false) refl (λ args. expr_of any_node (call p (in_order (order_in t order) args))) (λ args rest. refl) (arguments_off count st no_args)
kind_hosts t (node.Method p count) st h =
    object_found_passes (host_on_top false) refl (λ e args. expr_of any_node (method e p args)) (λ e args rest. refl) (arguments_off count st no_args)
kind_hosts t (node.MethodInOrder p count order) st h =
    object_found_passes (host_on_top false) refl (λ e args. expr_of any_node (method e p (in_order (order_in t order) args))) (λ e args rest. refl) (arguments_off count st no_args)
kind_hosts t (node.HostMember i count) st h =
    let b = not (is_item_name (name_in t i)) in
    member_found_passes (host_on_top b) refl (name_in t i) (λ e es. expr_of any_node (host_member e (name_in t i) es)) (λ e es rest. agree_itself b) (exprs_off count st no_exprs)
kind_hosts t (node.NamedMember i by count) st h =
    let b = not (is_item_name (name_in t i)) in
    named_found_passes (host_on_top b) refl (name_in t i) (by_name_in t by) (λ e es. expr_of any_node (named_member e (name_in t i) (by_name_in t by) es)) (λ e es rest. agree_itself b) (exprs_off count st no_exprs)
kind_hosts t (node.LateMember x) st h =
    late_found_passes (host_on_top false) refl (sought_in t Reading x) (λ e given. expr_of any_node (late_member e (name_in t x.name) (by_name_in t x.names) given)) (λ e given rest. refl)
    (given_off (sought_in t Reading x) x.arguments st none_given)
kind_hosts t (node.ItemAlong count) st h = value_found_passes (host_on_top false) refl (λ e es. expr_of any_node (late_item e es)) (λ e es rest. refl) (exprs_off count st no_exprs)
kind_hosts t (node.Library f text_form count compare one) st h =
    found_passes (host_on_top false) refl (λ es. expr_of any_node (library f text_form es compare (base_view one))) (λ es rest. refl) (exprs_off count st no_exprs)
kind_hosts t (node.Marked broken count) st h = found_passes (host_on_top true) refl (λ es. expr_of any_node (marked broken es)) (λ es rest. refl) (exprs_off count st no_exprs)
kind_hosts t (node.Constant i) st h = refl
kind_hosts t node.This st h = refl
kind_hosts t (node.NewObject c) st h = refl
kind_hosts t (node.Unary o of) st h = value_passes (host_on_top false) refl (λ a. expr_of any_node (unary o (as_operand of a))) (λ e rest. refl) st
kind_hosts t (node.Binary o compare left right) st h =
    both_pass (host_on_top false) refl (λ x y. expr_of any_node (binary o compare (as_operand left x) (as_operand right y))) (λ x y rest. refl) st
kind_hosts t (node.ErrValue _) st h = refl
kind_hosts t node.Same st h = both_pass (host_on_top false) refl (λ x y. expr_of any_node (same x y)) (λ x y rest. refl) st
kind_hosts t (node.HostObject reference) st h = refl
kind_hosts t node.ActiveSheet st h = refl
kind_hosts t k st h = let e : false ≡ true = h in absurd cc

-- what ends a value is the host's just where the value is
of_host_just : (t : Tables) (k : NodeKind) (made : bound.Node) (ps below : List Piece) → ends_known k ≡ true → put_kind t any_node k ps ≡ expr_of any_node made ∷ below → is_of_host made ≡ is_of_host_kind t k
unfolding host_on_top
of_host_just t k made ps below h e = agree_is (is_of_host made) (is_of_host_kind t k) (sym (ap (host_on_top (is_of_host_kind t k)) e) ∙ kind_hosts t k ps h)

host_known : (t : Tables) (k : NodeKind) → is_of_host_kind t k ≡ true → ends_known k ≡ true
host_known t (node.Constant i) h = refl
host_known t (node.HostObject reference) h = refl
host_known t (node.HostMember i count) h = refl
host_known t (node.NamedMember i by count) h = refl
host_known t (node.Marked broken count) h = refl
host_known t k h = let e : false ≡ true = h in absurd cc

of_host : (t : Tables) (k : NodeKind) (made : bound.Node) (ps below : List Piece) → is_of_host_kind t k ≡ true → put_kind t any_node k ps ≡ expr_of any_node made ∷ below → is_of_host made ≡ true
of_host t k made ps below h e = of_host_just t k made ps below (host_known t k h) e ∙ h

gives_none : (t : Tables) (k : NodeKind) (o : Option Bool) (made : bound.Node) (ps below : List Piece) → kind_gives k ≡ o → unknown_may o ≡ false → put_kind t any_node k ps ≡ expr_of any_node made ∷ below → may_be_object made ≡ false
gives_none t k None made ps below is h ends = let e : true ≡ false = h in absurd cc
gives_none t k (Some true) made ps below is h ends = let e : true ≡ false = h in absurd cc
gives_none t k (Some false) made ps below is h ends = made_gives t k false made ps below is ends

no_instance_at : (k : NodeKind) (of : DeclaredType) → instance_at k of ≡ false → (t : Tables) (made : bound.Node) (ps below : List Piece) → put_kind t any_node k ps ≡ expr_of any_node made ∷ below
    → is_instance_type made (declared_view of) ≡ false
no_instance_at k (Plain element.Object) h t made ps below ends = let e : true ≡ false = h in absurd cc
no_instance_at k (Plain (element.Class number)) h t made ps below ends = let e : true ≡ false = h in absurd cc
no_instance_at k (Plain element.Variant) h t made ps below ends = gives_none t k (kind_gives k) made ps below refl h ends
no_instance_at k of h t made ps below ends = refl

last_no : (b : Bool) → (b && false) ≡ false
last_no true = refl
last_no false = refl

-- of what may be an object of a class, and isn't the host's
either_no : (i w p q : Bool) → (i && not w) ≡ false → (i ≡ false → p ≡ false) → (w ≡ true → q ≡ true) → (p && not q) ≡ false
either_no false w p q h f g = ap (λ b. b && not q) (f refl)
either_no true true p q h f g = ap (λ b. p && not b) (g refl) ∙ last_no p
either_no true false p q h f g = let e : true ≡ false = h in absurd cc

pub no_instance : (has : Bool) (t : Tables) (e : Ending) → may_be_instance_by has t e ≡ false → NoInstance has t e
no_instance false t e h = λ env made place ps below is ends. ap (λ b. b && (is_instance_type made (declared_view e.of) && not (is_of_host made))) is
no_instance true t e h = λ env made place ps below is ends.
    ap (λ b. b && (is_instance_type made (declared_view e.of) && not (is_of_host made))) is
    ∙ either_no (instance_at e.kind e.of) (is_of_host_kind t e.kind) (is_instance_type made (declared_view e.of)) (is_of_host made) h
    (λ no. no_instance_at e.kind e.of no t made ps below (ends any_node)) (λ yes. of_host t e.kind made ps below yes (ends any_node))

-- ---- whether there may be an object of a class, and whether the run says what members a value has

gives_known : (k : NodeKind) (b : Bool) → kind_gives k ≡ Some b → ends_known k ≡ true
gives_known node.This b h = refl
gives_known (node.NewObject c) b h = refl
gives_known k b h = ap (λ (o : Option Bool). is_some o) h

some_is : (other may : Bool) → Some other ≡ Some may → other ≡ may
some_is other may h = ap (λ (o : Option Bool). unwrap_or o may) h

known_then : (b may : Bool) → (if b then Some true else None) ≡ Some may → (b ≡ true) × (true ≡ may)
known_then true may h = (refl, some_is true may h)
known_then false may h = let e : None ≡ Some may = h in absurd cc

object_just : (k : NodeKind) (may : Bool) → known_object k ≡ Some may → (t : Tables) (made : bound.Node) (ps below : List Piece) → put_kind t any_node k ps ≡ expr_of any_node made ∷ below → (has : Bool) → has ≡ true
    → (has && not (is_of_host made)) ≡ (may && not (is_of_host_kind t k))
object_just k may h t made ps below ends has is =
    let r = known_then (ends_known k) may h in
    ap (λ b. b && not (is_of_host made)) is ∙ ap not (of_host_just t k made ps below r.0 ends) ∙ ap (λ b. b && not (is_of_host_kind t k)) r.1

instance_just : (k : NodeKind) (of : DeclaredType) (may : Bool) → known_instance k of ≡ Some may → (t : Tables) (made : bound.Node) (ps below : List Piece) → put_kind t any_node k ps ≡ expr_of any_node made ∷ below → (has : Bool) → has ≡ true
    → (has && (is_instance_type made (declared_view of) && not (is_of_host made))) ≡ (may && not (is_of_host_kind t k))
instance_just k (Plain element.Object) may h t made ps below ends has is = object_just k may h t made ps below ends has is
instance_just k (Plain (element.Class number)) may h t made ps below ends has is = object_just k may h t made ps below ends has is
instance_just k (Plain element.Variant) may h t made ps below ends has is =
    ap (λ b. b && (may_be_object made && not (is_of_host made))) is ∙ ap (λ b. b && not (is_of_host made)) (made_gives t k may made ps below h ends)
    ∙ ap (λ b. may && not b) (of_host_just t k made ps below (gives_known k may h) ends)
instance_just k of may h t made ps below ends has is = ap (λ b. b && (false && not (is_of_host made))) is ∙ ap (λ b. b && not (is_of_host_kind t k)) (some_is false may h)

-- in a project without a class there is none
pub no_class_instance : (t : Tables) (e : Ending) → IsInstance false t e false
no_class_instance t e = λ env made place ps below is ends. ap (λ b. b && (is_instance_type made (declared_view e.of) && not (is_of_host made))) is

pub is_instance_just : (t : Tables) (e : Ending) (may : Bool) → known_instance e.kind e.of ≡ Some may → IsInstance true t e (may && not (is_of_host_kind t e.kind))
is_instance_just t e may h = λ env made place ps below is ends. instance_just e.kind e.of may h t made ps below (ends any_node) (has_class env.scope.spaces) is

-- what is declared as of a class isn't found late
pub class_not_late : (has : Bool) (t : Tables) (e : Ending) → is_of_class (declared_view e.of) ≡ true → IsFoundLate has t e false
class_not_late has t e h = λ env made place ps below is ends. ap (λ b. not b && may_be_instance env (expression_of made place (declared_view e.of))) h

pub found_late_just : (has : Bool) (t : Tables) (e : Ending) (may : Bool) → is_of_class (declared_view e.of) ≡ false → IsInstance has t e may → IsFoundLate has t e may
found_late_just has t e may apart h = λ env made place ps below is ends. ap (λ b. not b && may_be_instance env (expression_of made place (declared_view e.of))) apart ∙ h env made place ps below is ends
