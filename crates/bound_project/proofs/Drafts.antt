-- A draft whose tables grow, and one with a statement more, stands for what it stood for.
use Rattle.std.proofs.Common.{◌≡◌, Bool, true, false, cond, ℕ, zero, suc, ◌+◌, ◌<◌, ◌≤◌, List, [], ◌∷◌, ◌++◌, length, map, take, drop, Option, refl, sym, ap, subst, ◌∙◌, arith, length-append}
use Rattle.std.specs.Prelude.{IsSome, Vec}
use Rattle.std.specs.declared.alloc.Global.{Global}
use Rattle.vba_values.specs.View.{view as value_view}
use Rattle.vba_values.specs.declared.value.Value.{Value}
use Rattle.std.proofs.Math.Seq.{get_or-append_seam}
use Rattle.std.proofs.lemmas.List.{map_push, get_or_append_left}
use Rattle.vba_values.specs.Val.{Val, empty}
use Rattle.bound_project.specs.declared.node.NodeKind.{NodeKind}
use Rattle.bound_project.specs.declared.node.NodeKind.TheVariants as node
use Rattle.bound_project.specs.declared.node.Node.{Node}
use Rattle.bound_project.specs.declared.node.ArgumentNames.{ArgumentNames}
use Rattle.bound_project.specs.declared.node.LateName.{LateName}
use Rattle.bound_project.specs.declared.node.LateUse.{LateUse}
use Rattle.bound_project.specs.declared.node.LateUse.TheVariants.{Reading, Assigning, Setting}
use Rattle.bound_project.specs.declared.statement.ActionKind.{ActionKind}
use Rattle.bound_project.specs.declared.statement.ActionKind.TheVariants as kind
use Rattle.bound_project.specs.declared.statement.StatementNode.{StatementNode}
use Rattle.bound_project.specs.declared.project.Body.{Body}
use Rattle.bound_project.specs.View.{declared_view}
use Rattle.bound_project.specs.Expressions.{constant, call, host_member, method, named_member, late_field, ByName, no_args, in_order, no_exprs}
use Rattle.bound_project.specs.Statements as plain
use Rattle.bound_project.specs.Statements.{Action, let_method, let_property, raise, raise_event, set_method, set_property}
use Rattle.bound_project.specs.Pieces.{Piece, a_place, an_argument, default_taken, a_member, a_named_member, place_there, value_there, Sought, a_late, a_given, Tables, constant_in, name_of, name_in, order_in, by_name_in, flags, flags_in, sought_in, exprs_off, arguments_off, of_value, of_place, of_found, of_member_found, of_object_found, of_named_found, expr_of, late_put, put_kind, put, read, pieces}
use Rattle.bound_project.specs.Bodies.{behind_object, behind_value, member_found, late_assigned, late_set, whole, action_of, action_or, part, statement_view, StatementFits, AllFit, BodiesFit, body_view}
use Rattle.bound_project.specs.Drafts.{Drafted, AllBelow, NamesNamed, LateNamed, NodeNamed, ActionNamed, AllNamed, ActionsNamed, BodyKept, BodiesKept, Kept, with_constant, with_order, tables_in, drafted, statement_of}

-- ---- tables that grow

-- what had a number has it still
pub record Extends (t u : Tables) : Type 0 where
  pub constant_is : (i : ℕ) → i < length t.constants → constant_in u i ≡ constant_in t i
  pub order_is : (i : ℕ) → i < length t.orders → order_in u i ≡ order_in t i
  pub constants_more : length t.constants ≤ length u.constants
  pub orders_more : length t.orders ≤ length u.orders

pub constant_extends : (t : Tables) (v : Val) → Extends t (with_constant t v)
constant_extends t v = record {
  constant_is = λ i lt. get_or_append_left t.constants (v ∷ []) empty i lt;
  order_is = λ i lt. refl;
  constants_more = omega (arith, length-append t.constants (v ∷ []));
  orders_more = omega arith;
}

pub order_extends : (t : Tables) (order : List ℕ) → Extends t (with_order t order)
order_extends t order = record {
  constant_is = λ i lt. refl;
  order_is = λ i lt. get_or_append_left t.orders (order ∷ []) [] i lt;
  constants_more = omega arith;
  orders_more = omega (arith, length-append t.orders (order ∷ []));
}

below_more : (b c : ℕ) → b ≤ c → (is : List ℕ) → AllBelow b is → AllBelow c is
below_more b c le [] h = tt
below_more b c le (i ∷ is) h = (omega (arith, h.0, le), below_more b c le is h.1)

pub names_named : (t u : Tables) → Extends t u → (by : ArgumentNames) → NamesNamed t by → NamesNamed u by
names_named t u e by h =
    (omega (arith, h.0, e.orders_more), subst (λ is. AllBelow (length u.constants) is) (sym (e.order_is by.order h.0)) (below_more (length t.constants) (length u.constants) e.constants_more (order_in t by.order) h.1))

-- the names themselves stay
each_name_same : (t u : Tables) → Extends t u → (is : List ℕ) → AllBelow (length t.constants) is → map (name_in u) is ≡ map (name_in t) is
each_name_same t u e [] h = refl
each_name_same t u e (i ∷ is) h = ap (λ v. name_of v ∷ map (name_in u) is) (e.constant_is i h.0) ∙ ap (λ r. name_in t i ∷ r) (each_name_same t u e is h.1)

pub by_name_same : (t u : Tables) → Extends t u → (by : ArgumentNames) → NamesNamed t by → by_name_in u by ≡ by_name_in t by
by_name_same t u e by h =
    let made : List (List ℕ) → ByName = λ names. record { before = by.before; names = names } in
    ap (λ is. made (map (name_in u) is)) (e.order_is by.order h.0) ∙ ap made (each_name_same t u e (order_in t by.order) h.1)

-- and so does what a late-bound member is looked up by
pub late_named : (t u : Tables) → Extends t u → (m : LateName) → LateNamed t m → LateNamed u m
late_named t u e m h = (omega (arith, h.0, e.constants_more), (names_named t u e m.names h.1.0, omega (arith, h.1.1, e.orders_more)))

pub sought_same : (t u : Tables) → Extends t u → (aim : LateUse) (m : LateName) → LateNamed t m → sought_in u aim m ≡ sought_in t aim m
sought_same t u e aim m h =
    let made : List ℕ → ByName → List Bool → Sought = λ name by given. record { aim = aim; name = name; by = by; given = given } in
    ap (λ v. made (name_of v) (by_name_in u m.names) (flags_in u m)) (e.constant_is m.name h.0)
    ∙ ap (λ by. made (name_in t m.name) by (flags_in u m)) (by_name_same t u e m.names h.1.0)
    ∙ ap (λ o. made (name_in t m.name) (by_name_in t m.names) (flags m.arguments o)) (e.order_is m.given h.1.1)

pub node_named : (t u : Tables) → Extends t u → (k : NodeKind) → NodeNamed t k → NodeNamed u k
node_named t u e (node.Constant i) h = omega (arith, e.constants_more)
node_named t u e (node.ByDefault i) h = omega (arith, e.constants_more)
node_named t u e (node.CallInOrder p count order) h = omega (arith, e.orders_more)
node_named t u e (node.MethodInOrder p count order) h = omega (arith, e.orders_more)
node_named t u e (node.MemberThere i given) h = omega (arith, e.constants_more)
node_named t u e (node.HostMember i count) h = omega (arith, e.constants_more)
node_named t u e (node.NamedThere i by given) h = (omega (arith, h.0, e.constants_more), names_named t u e by h.1)
node_named t u e (node.NamedMember i by count) h = (omega (arith, h.0, e.constants_more), names_named t u e by h.1)
node_named t u e (node.LateField i) h = omega (arith, e.constants_more)
node_named t u e (node.LateThere aim m) h = late_named t u e m h
node_named t u e (node.LateValue aim m i) h = late_named t u e m h
node_named t u e (node.LatePlace aim m i) h = late_named t u e m h
node_named t u e (node.LateMember m) h = late_named t u e m h
node_named t u e k h = tt

action_named : (t u : Tables) → Extends t u → (k : ActionKind) → ActionNamed t k → ActionNamed u k
action_named t u e (kind.AssignMember i count) h = omega (arith, e.constants_more)
action_named t u e (kind.LetPropertyInOrder q count order of) h = omega (arith, e.orders_more)
action_named t u e (kind.SetPropertyInOrder q count order of) h = omega (arith, e.orders_more)
action_named t u e (kind.LetMethodInOrder q count order of) h = omega (arith, e.orders_more)
action_named t u e (kind.SetMethodInOrder q count order of) h = omega (arith, e.orders_more)
action_named t u e (kind.RaiseEventInOrder event count order) h = omega (arith, e.orders_more)
action_named t u e (kind.RaiseInOrder count order) h = omega (arith, e.orders_more)
action_named t u e (kind.AssignLate m) h = late_named t u e m h
action_named t u e (kind.SetLate m) h = late_named t u e m h
action_named t u e k h = tt

all_named : (t u : Tables) → Extends t u → (ns : List Node) → AllNamed t ns → AllNamed u ns
all_named t u e [] h = tt
all_named t u e (n ∷ ns) h = (node_named t u e n.kind h.0, all_named t u e ns h.1)

actions_named : (t u : Tables) → Extends t u → (ss : List StatementNode) → ActionsNamed t ss → ActionsNamed u ss
actions_named t u e [] h = tt
actions_named t u e (s ∷ ss) h = (action_named t u e s.action h.0, actions_named t u e ss h.1)

pub put_same : (t u : Tables) → Extends t u → (n : Node) (k : NodeKind) → NodeNamed t k → (st : List Piece) → put_kind u n k st ≡ put_kind t n k st
put_same t u e n (node.Constant i) h st = ap (λ v. expr_of n (constant v) ∷ st) (e.constant_is i h)
put_same t u e n (node.ByDefault i) h st = ap (λ v. an_argument (default_taken v) ∷ st) (e.constant_is i h)
put_same t u e n (node.CallInOrder p count order) h st = ap (λ o. of_found (λ args. expr_of n (call p (in_order o args))) (arguments_off count st no_args)) (e.order_is order h)
put_same t u e n (node.MethodInOrder p count order) h st =
    ap (λ o. of_object_found (λ x args. expr_of n (method x p (in_order o args))) (arguments_off count st no_args)) (e.order_is order h)
put_same t u e n (node.MemberThere i given) h st = ap (λ v. of_value (λ x. a_member x (name_of v) given) st) (e.constant_is i h)
put_same t u e n (node.HostMember i count) h st =
    ap (λ v. of_member_found (name_of v) (λ x es. expr_of n (host_member x (name_of v) es)) (exprs_off count st no_exprs)) (e.constant_is i h)
put_same t u e n (node.NamedThere i by given) h st =
    ap (λ v. of_value (λ x. a_named_member x (name_of v) (by_name_in u by) given) st) (e.constant_is i h.0)
    ∙ ap (λ how. of_value (λ x. a_named_member x (name_in t i) how given) st) (by_name_same t u e by h.1)
put_same t u e n (node.NamedMember i by count) h st =
    let found = exprs_off count st no_exprs in
    ap (λ v. of_named_found (name_of v) (by_name_in u by) (λ x es. expr_of n (named_member x (name_of v) (by_name_in u by) es)) found) (e.constant_is i h.0)
    ∙ ap (λ how. of_named_found (name_in t i) how (λ x es. expr_of n (named_member x (name_in t i) how es)) found) (by_name_same t u e by h.1)
put_same t u e n (node.LateField i) h st = ap (λ v. of_value (λ x. a_place (late_field x (name_of v))) st) (e.constant_is i h)
put_same t u e n (node.LateThere aim m) h st = ap (λ s. of_value (λ x. a_late x s) st) (sought_same t u e aim m h)
put_same t u e n (node.LateValue aim m i) h st = ap (λ s. of_value (λ x. a_given (value_there x) s i) st) (sought_same t u e aim m h)
put_same t u e n (node.LatePlace aim m i) h st = ap (λ s. of_place (λ x. a_given (place_there x) s i) st) (sought_same t u e aim m h)
put_same t u e n (node.LateMember m) h st = ap (λ s. late_put n s m.arguments st) (sought_same t u e Reading m h)
put_same t u e n k h st = refl

read_same : (t u : Tables) → Extends t u → (ns : List Node) → AllNamed t ns → (st : List Piece) → read u st ns ≡ read t st ns
read_same t u e [] h st = refl
read_same t u e (n ∷ ns) h st = ap (λ s. read u s ns) (put_same t u e n n.kind h.0 st) ∙ read_same t u e ns h.1 (put t n st)

action_same : (t u : Tables) → Extends t u → (k : ActionKind) → ActionNamed t k → (st : List Piece) → action_of u k st ≡ action_of t k st
action_same t u e (kind.AssignMember i count) h st = ap (λ v. member_found (name_of v) (exprs_off count st no_exprs)) (e.constant_is i h)
action_same t u e (kind.LetPropertyInOrder q count order of) h st =
    ap (λ o. behind_value (arguments_off count st no_args) (λ args v. let_property q (in_order o args) v (declared_view of))) (e.order_is order h)
action_same t u e (kind.SetPropertyInOrder q count order of) h st =
    ap (λ o. behind_value (arguments_off count st no_args) (λ args v. set_property q (in_order o args) v (declared_view of))) (e.order_is order h)
action_same t u e (kind.LetMethodInOrder q count order of) h st =
    ap (λ o. behind_object (arguments_off count st no_args) (λ base args v. let_method base q (in_order o args) v (declared_view of))) (e.order_is order h)
action_same t u e (kind.SetMethodInOrder q count order of) h st =
    ap (λ o. behind_object (arguments_off count st no_args) (λ base args v. set_method base q (in_order o args) v (declared_view of))) (e.order_is order h)
action_same t u e (kind.RaiseEventInOrder event count order) h st =
    ap (λ o. whole (arguments_off count st no_args) (λ args. raise_event event (in_order o args))) (e.order_is order h)
action_same t u e (kind.RaiseInOrder count order) h st = ap (λ o. whole (arguments_off count st no_args) (λ args. raise (in_order o args))) (e.order_is order h)
action_same t u e (kind.AssignLate m) h st = ap (λ s. late_assigned s m.arguments st) (sought_same t u e Assigning m h)
action_same t u e (kind.SetLate m) h st = ap (λ s. late_set s m.arguments st) (sought_same t u e Setting m h)
action_same t u e k h st = refl

named_drop : (t : Tables) (ns : List Node) (i : ℕ) → AllNamed t ns → AllNamed t (drop i ns)
named_drop t ns zero h = h
named_drop t [] (suc i) h = tt
named_drop t (n ∷ ns) (suc i) h = named_drop t ns i h.1

named_take : (t : Tables) (ns : List Node) (i : ℕ) → AllNamed t ns → AllNamed t (take i ns)
named_take t ns zero h = tt
named_take t [] (suc i) h = tt
named_take t (n ∷ ns) (suc i) h = (h.0, named_take t ns i h.1)

-- what a statement does
abbrev done : Tables → List Node → StatementNode → Option Action
done t ns s = action_of t s.action (pieces t (part ns s.first_node s.nodes))

done_same : (t u : Tables) → Extends t u → (ns : List Node) (s : StatementNode) → AllNamed t ns → ActionNamed t s.action → done u ns s ≡ done t ns s
done_same t u e ns s h k =
    let p = part ns s.first_node s.nodes in
    ap (λ st. action_of u s.action st) (read_same t u e p (named_take t (drop s.first_node ns) s.nodes (named_drop t ns s.first_node h)) []) ∙ action_same t u e s.action k (pieces t p)

abbrev with_action : StatementNode → Option Action → plain.Statement
with_action s o = record { action = action_or o; place = s.place; next = s.next }

statements_same : (t u : Tables) → Extends t u → (ns : List Node) (ss : List StatementNode) → AllNamed t ns → ActionsNamed t ss → AllFit t ns ss
    → AllFit u ns ss × (map (statement_view u ns) ss ≡ map (statement_view t ns) ss)
statements_same t u e ns [] h k f = (tt, refl)
statements_same t u e ns (s ∷ ss) h k f =
    let one = done_same t u e ns s h k.0 in
    let others = statements_same t u e ns ss h k.1 f.1 in (
      ((f.0.0, subst (λ o. IsSome o) (sym one) f.0.1), others.0),
      ap (λ o. with_action s o ∷ map (statement_view u ns) ss) one ∙ ap (λ r. statement_view t ns s ∷ r) others.1,
    )

body_same : (t u : Tables) → Extends t u → (ns : List Node) (ss : List StatementNode) → BodyKept t ns ss → BodyKept u ns ss × (map (statement_view u ns) ss ≡ map (statement_view t ns) ss)
body_same t u e ns ss h =
    let both = statements_same t u e ns ss h.0 h.1.0 h.1.1 in
    ((all_named t u e ns h.0, (actions_named t u e ss h.1.0, both.0)), both.1)

bodies_same : (t u : Tables) → Extends t u → (bs : List Body) → BodiesKept t bs → BodiesKept u bs × (map (body_view u) bs ≡ map (body_view t) bs)
bodies_same t u e [] h = (tt, refl)
bodies_same t u e (b ∷ bs) h =
    let one = body_same t u e b.nodes.items b.statements.items h.0 in
    let others = bodies_same t u e bs h.1 in (
      (one.0, others.0),
      ap (λ ss. record { statements = ss; blocks = (body_view t b).blocks } ∷ map (body_view u) bs) one.1 ∙ ap (λ r. body_view t b ∷ r) others.1,
    )

-- a draft with larger tables
pub draft_same : (t u : Tables) → Extends t u → (scratch ns : List Node) (ss : List StatementNode) (bs : List Body) → Kept t scratch ns ss bs
    → Kept u scratch ns ss bs × (drafted u scratch ns ss bs ≡ record (drafted t scratch ns ss bs) { tables = u })
draft_same t u e scratch ns ss bs h =
    let body = body_same t u e ns ss h.1.0 in
    let bodies = bodies_same t u e bs h.1.1 in
    let made : List Piece → List plain.Statement → List _ → Drafted = λ p s b. record { tables = u; pieces = p; statements = s; bodies = b } in (
      (all_named t u e scratch h.0, (body.0, bodies.0)),
      ap (λ p. made p (map (statement_view u ns) ss) (map (body_view u) bs)) (read_same t u e scratch h.0 [])
          ∙ ap (λ s. made (pieces t scratch) s (map (body_view u) bs)) body.1 ∙ ap (λ b. made (pieces t scratch) (map (statement_view t ns) ss) b) bodies.1,
    )

-- ---- a node more

read_push : (t : Tables) (ns : List Node) (n : Node) (st : List Piece) → read t st (ns ++ n ∷ []) ≡ put t n (read t st ns)
read_push t [] n st = refl
read_push t (x ∷ ns) n st = read_push t ns n (put t x st)

named_push : (t : Tables) (ns : List Node) (n : Node) → AllNamed t ns → NodeNamed t n.kind → AllNamed t (ns ++ n ∷ [])
named_push t [] n h k = (k, tt)
named_push t (x ∷ ns) n h k = (h.0, named_push t ns n h.1 k)

pub node_more : (t : Tables) (scratch ns : List Node) (ss : List StatementNode) (bs : List Body) (n : Node) → Kept t scratch ns ss bs → NodeNamed t n.kind
    → Kept t (scratch ++ n ∷ []) ns ss bs × (drafted t (scratch ++ n ∷ []) ns ss bs ≡ record (drafted t scratch ns ss bs) { pieces = put t n (pieces t scratch) })
node_more t scratch ns ss bs n h k = (
  (named_push t scratch n h.0 k, h.1),
  ap (λ p. record (drafted t scratch ns ss bs) { pieces = p }) (read_push t scratch n []),
)

-- ---- a statement more

part_more : (ns more : List Node) (first count : ℕ) → first + count ≤ length ns → part (ns ++ more) first count ≡ part ns first count
part_more ns more zero zero h = refl
part_more [] more zero (suc count) h = absurd (omega arith)
part_more (x ∷ ns) more zero (suc count) h = ap (λ l. x ∷ l) (part_more ns more zero count (omega arith))
part_more [] more (suc first) count h = absurd (omega arith)
part_more (x ∷ ns) more (suc first) count h = part_more ns more first count (omega arith)

part_past : (ns more : List Node) → part (ns ++ more) (length ns) (length more) ≡ more
part_past [] [] = refl
part_past [] (y ∷ more) = ap (λ l. y ∷ l) (part_past [] more)
part_past (x ∷ ns) more = part_past ns more

named_append : (t : Tables) (ns more : List Node) → AllNamed t ns → AllNamed t more → AllNamed t (ns ++ more)
named_append t [] more h k = k
named_append t (n ∷ ns) more h k = (h.0, named_append t ns more h.1 k)

actions_push : (t : Tables) (ss : List StatementNode) (s : StatementNode) → ActionsNamed t ss → ActionNamed t s.action → ActionsNamed t (ss ++ s ∷ [])
actions_push t [] s h k = (k, tt)
actions_push t (x ∷ ss) s h k = (h.0, actions_push t ss s h.1 k)

-- nodes behind those of a body
pub all_more : (t : Tables) (ns more : List Node) (ss : List StatementNode) → AllFit t ns ss → AllFit t (ns ++ more) ss × (map (statement_view t (ns ++ more)) ss ≡ map (statement_view t ns) ss)
all_more t ns more [] h = (tt, refl)
all_more t ns more (s ∷ ss) h =
    let one : done t (ns ++ more) s ≡ done t ns s = ap (λ l. action_of t s.action (pieces t l)) (part_more ns more s.first_node s.nodes h.0.0) in
    let others = all_more t ns more ss h.1 in
    let le : s.first_node + s.nodes ≤ length (ns ++ more) = omega (arith, h.0.0, length-append ns more) in (
      ((le, subst (λ o. IsSome o) (sym one) h.0.1), others.0),
      ap (λ o. with_action s o ∷ map (statement_view t (ns ++ more)) ss) one ∙ ap (λ r. statement_view t ns s ∷ r) others.1,
    )

all_push : (t : Tables) (ns : List Node) (ss : List StatementNode) (s : StatementNode) → AllFit t ns ss → StatementFits t ns s → AllFit t ns (ss ++ s ∷ [])
all_push t ns [] s h f = (f, tt)
all_push t ns (x ∷ ss) s h f = (h.0, all_push t ns ss s h.1 f)

pub nodes_more : (t : Tables) (scratch ns more : List Node) (ss : List StatementNode) (bs : List Body) → Kept t scratch ns ss bs → AllNamed t more
    → Kept t scratch (ns ++ more) ss bs × (drafted t scratch (ns ++ more) ss bs ≡ drafted t scratch ns ss bs)
nodes_more t scratch ns more ss bs h k =
    let all = all_more t ns more ss h.1.0.1.1 in
    ((h.0, ((named_append t ns more h.1.0.0 k, (h.1.0.1.0, all.0)), h.1.1)), ap (λ s. record (drafted t scratch ns ss bs) { statements = s }) all.1)

pub statement_more : (t : Tables) (scratch ns : List Node) (ss : List StatementNode) (bs : List Body) (s : StatementNode) → Kept t scratch ns ss bs → ActionNamed t s.action
    → s.first_node ≡ length ns → s.nodes ≡ length scratch → IsSome (action_of t s.action (pieces t scratch))
    → Kept t [] (ns ++ scratch) (ss ++ s ∷ []) bs
    × (drafted t [] (ns ++ scratch) (ss ++ s ∷ []) bs
    ≡ record (drafted t scratch ns ss bs) { pieces = []; statements = map (statement_view t ns) ss ++ statement_of t s.action (pieces t scratch) s.place s.next ∷ [] })
statement_more t scratch ns ss bs s h k ef ec fits =
    let all = all_more t ns scratch ss h.1.0.1.1 in
    let at : part (ns ++ scratch) s.first_node s.nodes ≡ scratch = ap (λ i. part (ns ++ scratch) i s.nodes) ef ∙ ap (λ i. part (ns ++ scratch) (length ns) i) ec ∙ part_past ns scratch in
    let one : done t (ns ++ scratch) s ≡ action_of t s.action (pieces t scratch) = ap (λ l. action_of t s.action (pieces t l)) at in
    let le : s.first_node + s.nodes ≤ length (ns ++ scratch) = omega (arith, ef, ec, length-append ns scratch) in (
      (tt, ((named_append t ns scratch h.1.0.0 h.0, (actions_push t ss s h.1.0.1.0 k, all_push t (ns ++ scratch) ss s all.0 (le, subst (λ o. IsSome o) (sym one) fits))), h.1.1)),
      ap (λ r. record (drafted t scratch ns ss bs) { pieces = []; statements = r })
          (map_push (statement_view t (ns ++ scratch)) ss s ∙ ap (λ l. l ++ statement_view t (ns ++ scratch) s ∷ []) all.1 ∙ ap (λ o. map (statement_view t ns) ss ++ with_action s o ∷ []) one),
    )

-- ---- a body more

bodies_push : (t : Tables) (bs : List Body) (b : Body) → BodiesKept t bs → BodyKept t b.nodes.items b.statements.items → BodiesKept t (bs ++ b ∷ [])
bodies_push t [] b h k = (k, tt)
bodies_push t (x ∷ bs) b h k = (h.0, bodies_push t bs b h.1 k)

pub body_more : (t : Tables) (scratch : List Node) (bs : List Body) (b : Body) → Kept t scratch b.nodes.items b.statements.items bs
    → Kept t scratch [] [] (bs ++ b ∷ [])
    × (drafted t scratch [] [] (bs ++ b ∷ [])
    ≡ record (drafted t scratch b.nodes.items b.statements.items bs) { statements = []; bodies = map (body_view t) bs ++ body_view t b ∷ [] })
body_more t scratch bs b h =
    ((h.0, ((tt, (tt, tt)), bodies_push t bs b h.1.1 h.1.0)), ap (λ r. record (drafted t scratch b.nodes.items b.statements.items bs) { statements = []; bodies = r }) (map_push (body_view t) bs b))

pub fits_of : (t : Tables) (bs : List Body) → BodiesKept t bs → BodiesFit t bs
fits_of t [] h = tt
fits_of t (b ∷ bs) h = (h.0.1.1, fits_of t bs h.1)

-- ---- as the calls of Vec say it

-- a list that has grown, or not
pub maybe : {A : Type 0} → (P : List A → Type 0) (b : Bool) (old more new : List A) → P old → P more → new ≡ cond b more old → P new
maybe P true old more new h k e = subst P (sym e) k
maybe P false old more new h k e = subst P (sym e) h

pub constant_more : (cs : List Value) (os : List (Vec ℕ Global)) (v : Value) (scratch ns : List Node) (ss : List StatementNode) (bs : List Body) → Kept (tables_in cs os) scratch ns ss bs
    → Kept (tables_in (cs ++ v ∷ []) os) scratch ns ss bs
    × (drafted (tables_in (cs ++ v ∷ []) os) scratch ns ss bs ≡ record (drafted (tables_in cs os) scratch ns ss bs) { tables = with_constant (tables_in cs os) (value_view v) })
constant_more cs os v scratch ns ss bs h =
    let t = tables_in cs os in
    let e : tables_in (cs ++ v ∷ []) os ≡ with_constant t (value_view v) = ap (λ l. record t { constants = l }) (map_push value_view cs v) in
    let r = draft_same t (with_constant t (value_view v)) (constant_extends t (value_view v)) scratch ns ss bs h in
    (subst (λ u. Kept u scratch ns ss bs) (sym e) r.0, ap (λ u. drafted u scratch ns ss bs) e ∙ r.1)

pub order_more : (cs : List Value) (os : List (Vec ℕ Global)) (o : Vec ℕ Global) (scratch ns : List Node) (ss : List StatementNode) (bs : List Body) → Kept (tables_in cs os) scratch ns ss bs
    → Kept (tables_in cs (os ++ o ∷ [])) scratch ns ss bs
    × (drafted (tables_in cs (os ++ o ∷ [])) scratch ns ss bs ≡ record (drafted (tables_in cs os) scratch ns ss bs) { tables = with_order (tables_in cs os) o.items })
order_more cs os o scratch ns ss bs h =
    let t = tables_in cs os in
    let e : tables_in cs (os ++ o ∷ []) ≡ with_order t o.items = ap (λ l. record t { orders = l }) (map_push (λ (order : Vec ℕ Global). order.items) os o) in
    let r = draft_same t (with_order t o.items) (order_extends t o.items) scratch ns ss bs h in
    (subst (λ u. Kept u scratch ns ss bs) (sym e) r.0, ap (λ u. drafted u scratch ns ss bs) e ∙ r.1)

pub body_end : (t : Tables) (scratch : List Node) (bs : List Body) (b made : Body) (ns : List Node) (ss : List StatementNode) → made ≡ b → ns ≡ [] → ss ≡ [] → Kept t scratch b.nodes.items b.statements.items bs
    → Kept t scratch ns ss bs
    × (Kept t scratch ns ss (bs ++ made ∷ [])
    × (drafted t scratch ns ss (bs ++ made ∷ []) ≡ record (drafted t scratch b.nodes.items b.statements.items bs) { statements = []; bodies = map (body_view t) bs ++ body_view t b ∷ [] }))
body_end t scratch bs b made ns ss e f g h = rw (e, f, g) ((h.0, ((tt, (tt, tt)), h.1.1)), body_more t scratch bs b h)

-- the constant that was added last
pub constant_last : (t : Tables) (v : Val) (i : ℕ) → i ≡ length t.constants → constant_in (with_constant t v) i ≡ v
constant_last t v i e = ap (λ k. constant_in (with_constant t v) k) e ∙ get_or-append_seam t.constants v [] empty
