-- The code of the pieces behind a node is that of the pieces before it, and the node's instructions.
use Rattle.std.proofs.Common.{◌≡◌, Bool, ℕ, List, [], ◌∷◌, ◌++◌, length, map, refl, sym, ap, ◌∙◌, append_assoc}
use Rattle.vba_values.specs.Types.{Declared}
use Rattle.vba_values.specs.Val.{missing, empty}
use Rattle.bound_project.specs.declared.declared_type.DeclaredType.{DeclaredType}
use Rattle.bound_project.specs.declared.node.NodeKind.{NodeKind}
use Rattle.bound_project.specs.declared.node.NodeKind.TheVariants as node
use Rattle.bound_project.specs.declared.node.Node.{Node}
use Rattle.bound_project.specs.declared.node.ArgumentNames.{ArgumentNames}
use Rattle.bound_project.specs.declared.node.LateName.{LateName}
use Rattle.bound_project.specs.declared.node.LateUse.{LateUse}
use Rattle.bound_project.specs.declared.node.LateUse.TheVariants.{Reading}
use Rattle.bound_project.specs.View.{declared_view}
use Rattle.bound_project.specs.Expressions.{Expr, expr, ByName, operand_type}
use Rattle.bound_project.specs.Pieces.{Piece, Sought, Tables, constant_in, name_of, name_in, by_name_in, flags, flags_in, sought_in, order_in, as_operand, put_kind, put, read}
use Rattle.pcode.specs.Instructions as plain
use Rattle.pcode.specs.Code.{expr_code, place_code, args_code, count as count_of}
use Rattle.pcode.specs.View.{instr_view, use_view}
use Rattle.pcode.proofs.LateCode.{late_code}
use Rattle.codegen.specs.declared.node.Around.{Around}
use Rattle.codegen.specs.declared.node.Added.{Added}
use Rattle.codegen.specs.Emission.{constant_number, node_instrs, nodes_instrs}
use Rattle.codegen.proofs.Pieces.{find_code, codes, Emits, append_none, value_emits, place_emits, both_emits, test_emits, range_emits, found_emits, args_emit, place_found_emits, value_found_emits, member_found_emits, object_found_emits, named_found_emits}
use Rattle.codegen.proofs.Late.{late_found_emits}

-- the tables of the code are those of the project with two constants more
pub record Grown (t u : Tables) (added : Added) : Type 0 where
  pub constant : (i : ℕ) → constant_in u (constant_number added i) ≡ constant_in t i
  pub empty_is : constant_in u added.empty ≡ empty
  pub missing_is : constant_in u added.missing ≡ missing
  pub order : (i : ℕ) → order_in u i ≡ order_in t i
  pub name : (i : ℕ) → name_in u i ≡ name_in t i

each_name_seen : (t u : Tables) (added : Added) → Grown t u added → (is : List ℕ) → map (name_in u) is ≡ map (name_in t) is
each_name_seen t u added g [] = refl
each_name_seen t u added g (i ∷ is) = ap (λ x. x ∷ map (name_in u) is) (g.name i) ∙ ap (λ r. name_in t i ∷ r) (each_name_seen t u added g is)

by_name_seen : (t u : Tables) (added : Added) → Grown t u added → (by : ArgumentNames) → by_name_in u by ≡ by_name_in t by
by_name_seen t u added g by =
    let made : List (List ℕ) → ByName = λ names. record { before = by.before; names = names } in
    ap (λ is. made (map (name_in u) is)) (g.order by.order) ∙ ap made (each_name_seen t u added g (order_in t by.order))

-- so is what a late-bound member is looked up by
pub sought_seen : (t u : Tables) (added : Added) → Grown t u added → (aim : LateUse) (m : LateName) → sought_in u aim m ≡ sought_in t aim m
sought_seen t u added g aim m =
    let made : List ℕ → ByName → List Bool → Sought = λ name by given. record { aim = aim; name = name; by = by; given = given } in
    ap (λ name. made name (by_name_in u m.names) (flags_in u m)) (g.name m.name) ∙ ap (λ by. made (name_in t m.name) by (flags_in u m)) (by_name_seen t u added g m.names)
    ∙ ap (λ o. made (name_in t m.name) (by_name_in t m.names) (flags m.arguments o)) (g.order m.given)

-- the instruction of a late-bound member that is called
abbrev call_late : Sought → List plain.Instr
call_late s = plain.CallLate s.name s.by s.given ∷ []

same_code : (of : DeclaredType) (e : Expr) → expr_code (as_operand of e) ≡ expr_code e
same_code of (expr node place written operand) = refl

operand_is : (of : DeclaredType) (e : Expr) → operand_type (as_operand of e) ≡ declared_view of
operand_is of (expr node place written operand) = refl

pub same_one : (of : DeclaredType) (e : Expr) (is : Declared → List plain.Instr) → expr_code (as_operand of e) ++ is (operand_type (as_operand of e)) ≡ expr_code e ++ is (declared_view of)
same_one of (expr node place written operand) is = refl

pub same_two : (l r : DeclaredType) (a b : Expr) (is : Declared → Declared → List plain.Instr)
    → expr_code (as_operand l a) ++ (expr_code (as_operand r b) ++ is (operand_type (as_operand l a)) (operand_type (as_operand r b))) ≡ expr_code a ++ (expr_code b ++ is (declared_view l) (declared_view r))
same_two l r (expr node place written operand) (expr node' place' written' operand') is = refl

-- the instructions of a node, as they are seen
abbrev pub seen : Tables → Tables → Added → Around → NodeKind → List plain.Instr
seen t u added around k = map (instr_view u) (node_instrs added t.orders around k)

-- a piece with instructions that the tables tell
along : (around : Around) (new old : List Piece) (is js : List plain.Instr) → is ≡ js → Emits around new old is → Emits around new old js
along around new old is js e h there = let r = h there in (r.0 ∙ ap (λ x. codes around old ++ x) e, r.1)

pub node_emits : (t u : Tables) (added : Added) → Grown t u added → (around : Around) (n : Node) (k : NodeKind) (st : List Piece) → Emits around (put_kind t n k st) st (seen t u added around k)
node_emits t u added g around n node.NotGiven st there = (ap (λ v. codes around st ++ plain.Push v ∷ []) (sym g.missing_is), there.1)
node_emits t u added g around n (node.Constant i) st there = (ap (λ v. codes around st ++ plain.Push v ∷ []) (sym (g.constant i)), there.1)
node_emits t u added g around n (node.Variable x) st there = (refl, there.1)
node_emits t u added g around n (node.Item x count) st there = found_emits around count st _ (λ c. map (instr_view u) (node_instrs added t.orders around (node.Item x c))) (λ es. refl) there
node_emits t u added g around n (node.Element count) st there = place_found_emits around count st _ (λ c. map (instr_view u) (node_instrs added t.orders around (node.Element c))) (λ x es. refl) there
node_emits t u added g around n (node.Field i of bounded) st there = place_emits around _ _ (λ x. refl) st there
node_emits t u added g around n (node.KeptPlace header) st there = (refl, there.1)
node_emits t u added g around n (node.ObjectField i of bounded) st there = value_emits around _ _ (λ e. refl) st there
node_emits t u added g around n (node.NewVariable x c) st there = (refl, there.1)
node_emits t u added g around n (node.AsNew c) st there = place_emits around _ _ (λ x. refl) st there
node_emits t u added g around n (node.ElementAlong count) st there =
    place_found_emits around count st _ (λ c. map (instr_view u) (node_instrs added t.orders around (node.ElementAlong c))) (λ x es. refl) there
node_emits t u added g around n (node.LateField i) st there = value_emits around _ _ (λ e. ap (λ name. expr_code e ++ plain.LateField name ∷ []) (sym (g.name i))) st there
node_emits t u added g around n node.PlaceOf st there = value_emits around _ _ (λ e. refl) st there
node_emits t u added g around n node.LoadMade st there = place_emits around _ _ (λ x. refl) st there
node_emits t u added g around n node.Load st there = place_emits around _ _ (λ x. refl) st there
node_emits t u added g around n (node.ElementValue count) st there = value_found_emits around count st _ (λ c. map (instr_view u) (node_instrs added t.orders around (node.ElementValue c))) (λ x es. refl) there
node_emits t u added g around n (node.FieldValue i) st there = value_emits around _ _ (λ e. refl) st there
node_emits t u added g around n (node.Unary o of) st there = value_emits around _ _ (λ e. same_one of e (λ d. plain.OperateAlone o d ∷ [])) st there
node_emits t u added g around n (node.Binary o compare left right) st there = both_emits around _ _ (λ a b. same_two left right a b (λ d e. plain.Operate o compare d e ∷ [])) st there
node_emits t u added g around n (node.Call p count) st there = args_emit around count st _ (λ c. map (instr_view u) (node_instrs added t.orders around (node.Call p c))) (λ args. refl) there
node_emits t u added g around n (node.CallInOrder p count order) st there =
    along around _ st _ _ (ap (λ o. plain.Reorder o count ∷ plain.Call p (length (order_in t order)) ∷ []) (sym (g.order order)))
    (args_emit around count st _ (λ c. plain.Reorder (order_in t order) c ∷ plain.Call p (length (order_in t order)) ∷ []) (λ args. append_assoc (args_code args) (plain.Reorder (order_in t order) (count_of args) ∷ []) (plain.Call p (length (order_in t order)) ∷ []))) there
node_emits t u added g around n node.This st there = (refl, there.1)
node_emits t u added g around n (node.NewObject c) st there = (refl, there.1)
node_emits t u added g around n node.ObjectThere st there = value_emits around _ _ (λ e. refl) st there
node_emits t u added g around n (node.Method p count) st there =
    object_found_emits around count st _ (λ c. map (instr_view u) (node_instrs added t.orders around (node.Method p c))) (λ e args. refl) there
node_emits t u added g around n (node.MethodInOrder p count order) st there =
    let call = plain.CallOf p (length (order_in t order)) ∷ [] in
    along around _ st _ _ (ap (λ o. plain.Reorder o count ∷ plain.CallOf p (length (order_in t order)) ∷ []) (sym (g.order order)))
    (object_found_emits around count st _ (λ c. plain.Reorder (order_in t order) c ∷ call)
    (λ e args. ap (λ c. expr_code e ++ plain.ObjectThere ∷ c) (append_assoc (args_code args) (plain.Reorder (order_in t order) (count_of args) ∷ []) call))) there
node_emits t u added g around n (node.ErrValue told) st there = (refl, there.1)
node_emits t u added g around n (node.Marked broken count) st there =
    found_emits around count st _ (λ c. map (instr_view u) (node_instrs added t.orders around (node.Marked broken c))) (λ es. refl) there
node_emits t u added g around n (node.Library f text_form count compare one) st there =
    found_emits around count st _ (λ c. map (instr_view u) (node_instrs added t.orders around (node.Library f text_form c compare one))) (λ es. refl) there
node_emits t u added g around n (node.BoundOf upper z) st there = place_emits around _ _ (λ x. refl) st there
node_emits t u added g around n node.DefaultOf st there = value_emits around _ _ (λ e. refl) st there
node_emits t u added g around n node.DefaultIfAny st there = value_emits around _ _ (λ e. refl) st there
node_emits t u added g around n node.Enumerated st there = value_emits around _ _ (λ e. refl) st there
node_emits t u added g around n (node.ItemAlong count) st there =
    value_found_emits around count st _ (λ c. map (instr_view u) (node_instrs added t.orders around (node.ItemAlong c))) (λ x es. refl) there
node_emits t u added g around n node.Same st there = both_emits around _ _ (λ a b. refl) st there
node_emits t u added g around n (node.IsType of) st there = value_emits around _ _ (λ e. refl) st there
node_emits t u added g around n (node.HostObject reference) st there = (refl, there.1)
node_emits t u added g around n node.ActiveSheet st there = (refl, there.1)
node_emits t u added g around n (node.MemberThere i given) st there =
    value_emits around _ _ (λ e. ap (λ v. expr_code e ++ plain.MemberThere (name_of v) given ∷ []) (sym (g.constant i))) st there
node_emits t u added g around n (node.HostMember i count) st there =
    along around _ st _ _ (ap (λ v. plain.MemberOf (name_of v) count ∷ []) (sym (g.constant i)))
    (member_found_emits around count st (name_in t i) _ (λ c. plain.MemberOf (name_in t i) c ∷ []) (λ e es. refl)) there
node_emits t u added g around n (node.NamedThere i by given) st there =
    value_emits around _ _ (λ e.
    ap (λ v. expr_code e ++ plain.NamedThere (name_of v) (by_name_in t by) given ∷ []) (sym (g.constant i))
    ∙ ap (λ how. expr_code e ++ plain.NamedThere (name_in u (constant_number added i)) how given ∷ []) (sym (by_name_seen t u added g by))) st there
node_emits t u added g around n (node.NamedMember i by count) st there =
    along around _ st _ _ (ap (λ v. plain.NamedOf (name_of v) (by_name_in t by) count ∷ []) (sym (g.constant i)) ∙ ap (λ how. plain.NamedOf (name_in u (constant_number added i)) how count ∷ []) (sym (by_name_seen t u added g by)))
    (named_found_emits around count st (name_in t i) (by_name_in t by) _ (λ c. plain.NamedOf (name_in t i) (by_name_in t by) c ∷ []) (λ e es. refl)) there
node_emits t u added g around n (node.LateThere aim m) st there = value_emits around _ _ (λ e. ap (λ s. expr_code e ++ find_code s) (sym (sought_seen t u added g aim m))) st there
node_emits t u added g around n (node.LateValue aim m i) st there =
    value_emits around _ _ (λ e. ap (λ s. expr_code e ++ plain.BindValue (use_view aim) s.name s.by s.given i ∷ []) (sym (sought_seen t u added g aim m))) st there
node_emits t u added g around n (node.LatePlace aim m i) st there =
    place_emits around _ _ (λ x. ap (λ s. place_code x ++ plain.BindPlace (use_view aim) s.name s.by s.given i ∷ []) (sym (sought_seen t u added g aim m))) st there
node_emits t u added g around n (node.LateMember m) st there =
    let s = sought_in t Reading m in
    along around _ st _ _ (ap call_late (sym (sought_seen t u added g Reading m))) (late_found_emits around s m.arguments st _ (call_late s) (λ e given same. late_code e s.name s.by given s.given same)) there
node_emits t u added g around n node.ByPlace st there = place_emits around _ _ (λ x. refl) st there
node_emits t u added g around n (node.ByCopy of) st there = value_emits around _ _ (λ e. refl) st there
node_emits t u added g around n (node.ByDefault i) st there = (ap (λ v. codes around st ++ plain.Push v ∷ []) (sym (g.constant i)), there.1)
node_emits t u added g around n (node.ByList count) st there = found_emits around count st _ (λ c. map (instr_view u) (node_instrs added t.orders around (node.ByList c))) (λ es. refl) there
node_emits t u added g around n node.Shown st there = value_emits around _ _ (λ e. refl) st there
node_emits t u added g around n node.Zone st there = (ap (λ v. codes around st ++ plain.Push v ∷ []) (sym g.empty_is), there.1)
node_emits t u added g around n node.TestBegins st there = (refl, there.1)
node_emits t u added g around n (node.TestIs o of) st there =
    test_emits around _ _ (λ e. ap (λ c. plain.Selected around.header ∷ plain.Plain ∷ c) (same_one of e (λ d. plain.IfFits o around.compare (declared_view around.of) d around.to ∷ []))) st there
node_emits t u added g around n (node.TestRange low high high_at) st there =
    range_emits around _ _ (λ a b. ap (λ c. plain.Selected around.header ∷ plain.Plain ∷ c) (same_two low high a b (λ d e. plain.IfBetween around.compare (declared_view around.of) d e around.to ∷ []))) st there
node_emits t u added g around n (node.Resize count of) st there = place_found_emits around count st _ (λ c. map (instr_view u) (node_instrs added t.orders around (node.Resize c of))) (λ x es. refl) there
node_emits t u added g around n node.Erased st there = place_emits around _ _ (λ x. refl) st there

pub map_append : {A B : Type 0} (f : A → B) (xs ys : List A) → map f (xs ++ ys) ≡ map f xs ++ map f ys
map_append f [] ys = refl
map_append f (x ∷ xs) ys = ap (λ r. f x ∷ r) (map_append f xs ys)

-- of all nodes
pub nodes_emit : (t u : Tables) (added : Added) → Grown t u added → (around : Around) (ns : List Node) (st : List Piece)
    → Emits around (read t st ns) st (map (instr_view u) (nodes_instrs added t.orders around ns))
nodes_emit t u added g around [] st there = (sym (append_none (codes around st)), there)
nodes_emit t u added g around (n ∷ ns) st there =
    let rest = nodes_emit t u added g around ns (put t n st) there in
    let first = node_emits t u added g around n n.kind st rest.1 in
    let more = map (instr_view u) (nodes_instrs added t.orders around ns) in (
      rest.0 ∙ ap (λ c. c ++ more) first.0 ∙ append_assoc (codes around st) (seen t u added around n.kind) more
          ∙ ap (λ c. codes around st ++ c) (sym (map_append (instr_view u) (node_instrs added t.orders around n.kind) (nodes_instrs added t.orders around ns))),
      first.1,
    )
