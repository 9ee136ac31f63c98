-- A node keeps the places of the pieces before it, and adds its own behind them.
use Rattle.std.proofs.Common.{◌≡◌, List, [], ◌∷◌, ◌++◌, refl, sym, ap, ◌∙◌, append_assoc}
use Rattle.std.proofs.lemmas.List.{append-nil}
use Rattle.vba_base.specs.declared.place.Refusal.{Refusal}
use Rattle.vba_values.specs.declared.types.OpKind.TheVariants as op
use Rattle.vba_values.specs.Types.{Declared}
use Rattle.bound_project.specs.declared.declared_type.DeclaredType.{DeclaredType}
use Rattle.bound_project.specs.declared.node.NodeKind.{NodeKind}
use Rattle.bound_project.specs.declared.node.NodeKind.TheVariants as node
use Rattle.bound_project.specs.declared.node.Node.{Node}
use Rattle.bound_project.specs.declared.node.LateUse.TheVariants.{Reading}
use Rattle.bound_project.specs.View.{declared_view}
use Rattle.bound_project.specs.Expressions.{Expr, expr, operand_type}
use Rattle.bound_project.specs.Pieces.{Piece, Tables, name_in, by_name_in, sought_in, as_operand, put_kind, put, read}
use Rattle.static_rules.specs.Broken.{double_at, broken}
use Rattle.static_rules.specs.Scan.{kind_places, nodes_places}
use Rattle.static_rules.proofs.Pieces.{found_in, Adds, value_adds, value_keeps, place_keeps, both_add, both_keep, test_adds, range_adds, list_adds, list_kept, args_kept, place_and_list, value_and_list, member_kept, object_kept, named_kept, late_kept}

-- an operand keeps its places, and has the type that its operator says
pub as_one : (of : DeclaredType) (e : Expr) (more : Declared → List Refusal) → broken (as_operand of e) ++ more (operand_type (as_operand of e)) ≡ broken e ++ more (declared_view of)
as_one of (expr node place written operand) more = refl

pub as_two : (l r : DeclaredType) (a b : Expr) (more : Declared → Declared → List Refusal)
    → broken (as_operand l a) ++ (broken (as_operand r b) ++ more (operand_type (as_operand l a)) (operand_type (as_operand r b)))
    ≡ broken a ++ (broken b ++ more (declared_view l) (declared_view r))
as_two l r (expr node place written operand) (expr node' place' written' operand') more = refl

node_adds : (t : Tables) (selected : DeclaredType) (n : Node) (k : NodeKind) (st : List Piece) → Adds (declared_view selected) (put_kind t n k st) st (kind_places selected n.place k)
node_adds t selected n node.NotGiven st there = (refl, there.1)
node_adds t selected n (node.Constant i) st there = (refl, there.1)
node_adds t selected n (node.Variable x) st there = (refl, there.1)
node_adds t selected n (node.Item x count) st there = list_kept (declared_view selected) count st _ (λ es. refl) there
node_adds t selected n (node.Element count) st there = place_and_list (declared_view selected) count st _ (λ x es. refl) there
node_adds t selected n (node.Field i of bounded) st there = place_keeps (declared_view selected) _ (λ x. refl) st there
node_adds t selected n (node.KeptPlace header) st there = (refl, there.1)
node_adds t selected n (node.ObjectField i of bounded) st there = value_keeps (declared_view selected) _ (λ e. refl) st there
node_adds t selected n (node.NewVariable x c) st there = (refl, there.1)
node_adds t selected n (node.AsNew c) st there = place_keeps (declared_view selected) _ (λ x. refl) st there
node_adds t selected n (node.ElementAlong count) st there = place_and_list (declared_view selected) count st _ (λ x es. refl) there
node_adds t selected n (node.LateField i) st there = value_keeps (declared_view selected) _ (λ e. refl) st there
node_adds t selected n node.PlaceOf st there = value_keeps (declared_view selected) _ (λ e. refl) st there
node_adds t selected n node.Load st there = place_keeps (declared_view selected) _ (λ x. refl) st there
node_adds t selected n node.LoadMade st there = place_keeps (declared_view selected) _ (λ x. refl) st there
node_adds t selected n (node.ElementValue count) st there = value_and_list (declared_view selected) count st _ (λ x es. refl) there
node_adds t selected n (node.FieldValue i) st there = value_keeps (declared_view selected) _ (λ e. refl) st there
node_adds t selected n (node.Unary o of) st there =
    value_adds (declared_view selected) _ _ (λ e. as_one of e (λ d. double_at n.place o d d)) st there
node_adds t selected n (node.Binary o compare left right) st there =
    both_add (declared_view selected) _ _ (λ a b. as_two left right a b (λ d e. double_at n.place o d e)) st there
node_adds t selected n (node.Call p count) st there = args_kept (declared_view selected) count st _ (λ args. refl) there
node_adds t selected n (node.CallInOrder p count order) st there = args_kept (declared_view selected) count st _ (λ args. refl) there
node_adds t selected n node.This st there = (refl, there.1)
node_adds t selected n (node.NewObject c) st there = (refl, there.1)
node_adds t selected n node.ObjectThere st there = value_keeps (declared_view selected) _ (λ e. refl) st there
node_adds t selected n (node.Method p count) st there = object_kept (declared_view selected) count st _ (λ e args. refl) there
node_adds t selected n (node.MethodInOrder p count order) st there = object_kept (declared_view selected) count st _ (λ e args. refl) there
node_adds t selected n (node.ErrValue told) st there = (refl, there.1)
node_adds t selected n (node.Library f text_form count compare one) st there = list_kept (declared_view selected) count st _ (λ es. refl) there
node_adds t selected n (node.Marked broken count) st there = list_adds (declared_view selected) count st _ (broken ∷ []) (λ es. refl) there
node_adds t selected n (node.BoundOf upper z) st there = place_keeps (declared_view selected) _ (λ x. refl) st there
node_adds t selected n node.DefaultOf st there = value_keeps (declared_view selected) _ (λ e. refl) st there
node_adds t selected n node.DefaultIfAny st there = value_keeps (declared_view selected) _ (λ e. refl) st there
node_adds t selected n node.Enumerated st there = value_keeps (declared_view selected) _ (λ e. refl) st there
node_adds t selected n (node.ItemAlong count) st there = value_and_list (declared_view selected) count st _ (λ x es. refl) there
node_adds t selected n node.Same st there = both_keep (declared_view selected) _ (λ a b. refl) st there
node_adds t selected n (node.IsType of) st there = value_keeps (declared_view selected) _ (λ e. refl) st there
node_adds t selected n (node.HostObject reference) st there = (refl, there.1)
node_adds t selected n node.ActiveSheet st there = (refl, there.1)
node_adds t selected n (node.MemberThere i given) st there = value_keeps (declared_view selected) _ (λ e. refl) st there
node_adds t selected n (node.HostMember i count) st there = member_kept (declared_view selected) count st (name_in t i) _ (λ e es. refl) there
node_adds t selected n (node.NamedThere i by given) st there = value_keeps (declared_view selected) _ (λ e. refl) st there
node_adds t selected n (node.NamedMember i by count) st there = named_kept (declared_view selected) count st (name_in t i) (by_name_in t by) _ (λ e es. refl) there
node_adds t selected n (node.LateThere aim m) st there = value_keeps (declared_view selected) _ (λ e. refl) st there
node_adds t selected n (node.LateValue aim m i) st there = value_keeps (declared_view selected) _ (λ e. refl) st there
node_adds t selected n (node.LatePlace aim m i) st there = place_keeps (declared_view selected) _ (λ x. refl) st there
node_adds t selected n (node.LateMember m) st there = late_kept (declared_view selected) m.arguments st (sought_in t Reading m) _ (λ e given. refl) there
node_adds t selected n node.ByPlace st there = place_keeps (declared_view selected) _ (λ x. refl) st there
node_adds t selected n (node.ByCopy of) st there = value_keeps (declared_view selected) _ (λ e. refl) st there
node_adds t selected n (node.ByDefault i) st there = (refl, there.1)
node_adds t selected n (node.ByList count) st there = list_kept (declared_view selected) count st _ (λ es. refl) there
node_adds t selected n node.Shown st there = value_keeps (declared_view selected) _ (λ e. refl) st there
node_adds t selected n node.Zone st there = (refl, there.1)
node_adds t selected n node.TestBegins st there = (refl, there.1)
node_adds t selected n (node.TestIs o of) st there =
    test_adds (declared_view selected) _ _ (λ e. as_one of e (λ d. double_at n.place o (declared_view selected) d)) st there
node_adds t selected n (node.TestRange low high high_at) st there =
    range_adds (declared_view selected) _ _ (λ a b. as_two low high a b (λ d e. double_at n.place op.Ge (declared_view selected) d ++ double_at high_at op.Le (declared_view selected) e)) st there
node_adds t selected n (node.Resize count of) st there = place_and_list (declared_view selected) count st _ (λ x es. refl) there
node_adds t selected n node.Erased st there = place_keeps (declared_view selected) _ (λ x. refl) st there

-- of all nodes
pub nodes_add : (t : Tables) (selected : DeclaredType) (ns : List Node) (st : List Piece) → Adds (declared_view selected) (read t st ns) st (nodes_places selected ns)
nodes_add t selected [] st there = (sym (append-nil (found_in (declared_view selected) st)), there)
nodes_add t selected (n ∷ ns) st there =
    let of = declared_view selected in
    let rest = nodes_add t selected ns (put t n st) there in
    let first = node_adds t selected n n.kind st rest.1 in
    let more = nodes_places selected ns in
    (rest.0 ∙ ap (λ c. c ++ more) first.0 ∙ append_assoc (found_in of st) (kind_places selected n.place n.kind) more, first.1)
