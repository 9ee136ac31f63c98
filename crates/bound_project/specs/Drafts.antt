-- Serves the code: what a project that is being bound stands for, and that every number in it has its constant or order.
use Rattle.std.specs.Prelude.{ℕ, ◌<◌, List, [], ◌∷◌, ◌++◌, length, map, Vec, is_some, true}
use Rattle.std.specs.Coded.{×_prop, Unit-prop, le_prop, Coded-set, coded_bool}
use Rattle.std.specs.declared.alloc.Global.{Global}
use Rattle.vba_base.specs.declared.place.Place.{Place}
use Rattle.vba_values.specs.Val.{Val}
use Rattle.vba_values.specs.View.{view as value_view}
use Rattle.vba_values.specs.declared.value.Value.{Value}
use Rattle.bound_project.specs.declared.node.NodeKind.{NodeKind}
use Rattle.bound_project.specs.declared.node.NodeKind.TheVariants as node
use Rattle.bound_project.specs.declared.node.Node.{Node}
use Rattle.bound_project.specs.declared.node.ArgumentNames.{ArgumentNames}
use Rattle.bound_project.specs.declared.node.LateName.{LateName}
use Rattle.bound_project.specs.declared.statement.ActionKind.{ActionKind}
use Rattle.bound_project.specs.declared.statement.ActionKind.TheVariants as kind
use Rattle.bound_project.specs.declared.statement.StatementNode.{StatementNode}
use Rattle.bound_project.specs.declared.project.Body.{Body}
use Rattle.bound_project.specs.Statements as plain
use Rattle.bound_project.specs.Project as project
use Rattle.bound_project.specs.Pieces.{Piece, Tables, order_in, pieces}
use Rattle.bound_project.specs.Bodies.{AllFit, part, action_of, action_or, statement_view, body_view}

-- a project while it is bound: its tables, the pieces of the statement that is being read, the statements of the body
-- that is being read, and the bodies that were read
pub record Drafted : Type 0 where
  pub tables : Tables
  pub pieces : List Piece
  pub statements : List plain.Statement
  pub bodies : List project.Body

abbrev pub no_tables : Tables
no_tables = record { constants = []; orders = [] }

abbrev pub with_constant : Tables → Val → Tables
with_constant t v = record t { constants = t.constants ++ v ∷ [] }

abbrev pub with_order : Tables → List ℕ → Tables
with_order t order = record t { orders = t.orders ++ order ∷ [] }

-- so are the names of arguments: their order, and its constants
abbrev pub AllBelow : (bound : ℕ) → List ℕ → Type 0
AllBelow bound [] = Unit {0}
AllBelow bound (i ∷ is) = (i < bound) × AllBelow bound is

abbrev pub NamesNamed : Tables → ArgumentNames → Type 0
NamesNamed t by = (by.order < length t.orders) × AllBelow (length t.constants) (order_in t by.order)

-- and so is what a late-bound member is looked up by
abbrev pub LateNamed : Tables → LateName → Type 0
LateNamed t m = (m.name < length t.constants) × (NamesNamed t m.names × (m.given < length t.orders))

-- a node's and a statement's numbers are in the tables
abbrev pub NodeNamed : Tables → NodeKind → Type 0
NodeNamed t (node.Constant i) = i < length t.constants
NodeNamed t (node.ByDefault i) = i < length t.constants
NodeNamed t (node.CallInOrder p count order) = order < length t.orders
NodeNamed t (node.MethodInOrder p count order) = order < length t.orders
NodeNamed t (node.MemberThere i given) = i < length t.constants
NodeNamed t (node.HostMember i count) = i < length t.constants
NodeNamed t (node.NamedThere i by given) = (i < length t.constants) × NamesNamed t by
NodeNamed t (node.NamedMember i by count) = (i < length t.constants) × NamesNamed t by
NodeNamed t (node.LateField i) = i < length t.constants
NodeNamed t (node.LateThere aim m) = LateNamed t m
NodeNamed t (node.LateValue aim m i) = LateNamed t m
NodeNamed t (node.LatePlace aim m i) = LateNamed t m
NodeNamed t (node.LateMember m) = LateNamed t m
NodeNamed t k = Unit {0}

abbrev pub ActionNamed : Tables → ActionKind → Type 0
ActionNamed t (kind.AssignMember i count) = i < length t.constants
ActionNamed t (kind.LetPropertyInOrder q count order of) = order < length t.orders
ActionNamed t (kind.SetPropertyInOrder q count order of) = order < length t.orders
ActionNamed t (kind.LetMethodInOrder q count order of) = order < length t.orders
ActionNamed t (kind.SetMethodInOrder q count order of) = order < length t.orders
ActionNamed t (kind.RaiseEventInOrder event count order) = order < length t.orders
ActionNamed t (kind.RaiseInOrder count order) = order < length t.orders
ActionNamed t (kind.AssignLate m) = LateNamed t m
ActionNamed t (kind.SetLate m) = LateNamed t m
ActionNamed t k = Unit {0}

abbrev pub AllNamed : Tables → List Node → Type 0
AllNamed t [] = Unit {0}
AllNamed t (n ∷ ns) = NodeNamed t n.kind × AllNamed t ns

abbrev pub ActionsNamed : Tables → List StatementNode → Type 0
ActionsNamed t [] = Unit {0}
ActionsNamed t (s ∷ ss) = ActionNamed t s.action × ActionsNamed t ss

abbrev pub BodyKept : Tables → List Node → List StatementNode → Type 0
BodyKept t ns ss = AllNamed t ns × (ActionsNamed t ss × AllFit t ns ss)

abbrev pub BodiesKept : Tables → List Body → Type 0
BodiesKept t [] = Unit {0}
BodiesKept t (b ∷ bs) = BodyKept t b.nodes.items b.statements.items × BodiesKept t bs

-- all numbers are in the tables, and all statements fit
abbrev pub Kept : Tables → (scratch nodes : List Node) → List StatementNode → List Body → Type 0
Kept t scratch ns ss bs = AllNamed t scratch × (BodyKept t ns ss × BodiesKept t bs)

abbrev pub tables_in : List Value → List (Vec ℕ Global) → Tables
tables_in constants orders = record { constants = map value_view constants; orders = map (λ order. order.items) orders }

abbrev pub drafted : Tables → (scratch nodes : List Node) → List StatementNode → List Body → Drafted
drafted t scratch ns ss bs = record { tables = t; pieces = pieces t scratch; statements = map (statement_view t ns) ss; bodies = map (body_view t) bs }

-- a statement that does this with these pieces
abbrev pub statement_of : Tables → ActionKind → List Piece → Place → ℕ → plain.Statement
statement_of t k st place next = record { action = action_or (action_of t k st); place = place; next = next }

-- ---- that all is kept is one fact

all_below_prop : (bound : ℕ) (is : List ℕ) → IsProp (AllBelow bound is)
all_below_prop bound [] = Unit-prop
all_below_prop bound (i ∷ is) = ×_prop le_prop (all_below_prop bound is)

names_named_prop : (t : Tables) (by : ArgumentNames) → IsProp (NamesNamed t by)
names_named_prop t by = ×_prop le_prop (all_below_prop (length t.constants) (order_in t by.order))

late_named_prop : (t : Tables) (m : LateName) → IsProp (LateNamed t m)
late_named_prop t m = ×_prop le_prop (×_prop (names_named_prop t m.names) le_prop)

node_named_prop : (t : Tables) (k : NodeKind) → IsProp (NodeNamed t k)
node_named_prop t (node.Constant i) = le_prop
node_named_prop t (node.ByDefault i) = le_prop
node_named_prop t (node.CallInOrder p count order) = le_prop
node_named_prop t (node.MethodInOrder p count order) = le_prop
node_named_prop t (node.MemberThere i given) = le_prop
node_named_prop t (node.HostMember i count) = le_prop
node_named_prop t (node.NamedThere i by given) = ×_prop le_prop (names_named_prop t by)
node_named_prop t (node.NamedMember i by count) = ×_prop le_prop (names_named_prop t by)
node_named_prop t (node.LateField i) = le_prop
node_named_prop t (node.LateThere aim m) = late_named_prop t m
node_named_prop t (node.LateValue aim m i) = late_named_prop t m
node_named_prop t (node.LatePlace aim m i) = late_named_prop t m
node_named_prop t (node.LateMember m) = late_named_prop t m
node_named_prop t k = Unit-prop

action_named_prop : (t : Tables) (k : ActionKind) → IsProp (ActionNamed t k)
action_named_prop t (kind.AssignMember i count) = le_prop
action_named_prop t (kind.LetPropertyInOrder q count order of) = le_prop
action_named_prop t (kind.SetPropertyInOrder q count order of) = le_prop
action_named_prop t (kind.LetMethodInOrder q count order of) = le_prop
action_named_prop t (kind.SetMethodInOrder q count order of) = le_prop
action_named_prop t (kind.RaiseEventInOrder event count order) = le_prop
action_named_prop t (kind.RaiseInOrder count order) = le_prop
action_named_prop t (kind.AssignLate m) = late_named_prop t m
action_named_prop t (kind.SetLate m) = late_named_prop t m
action_named_prop t k = Unit-prop

all_named_prop : (t : Tables) (ns : List Node) → IsProp (AllNamed t ns)
all_named_prop t [] = Unit-prop
all_named_prop t (n ∷ ns) = ×_prop (node_named_prop t n.kind) (all_named_prop t ns)

actions_named_prop : (t : Tables) (ss : List StatementNode) → IsProp (ActionsNamed t ss)
actions_named_prop t [] = Unit-prop
actions_named_prop t (s ∷ ss) = ×_prop (action_named_prop t s.action) (actions_named_prop t ss)

all_fit_prop : (t : Tables) (ns : List Node) (ss : List StatementNode) → IsProp (AllFit t ns ss)
all_fit_prop t ns [] = Unit-prop
all_fit_prop t ns (s ∷ ss) =
    ×_prop (×_prop le_prop (Coded-set coded_bool (is_some (action_of t s.action (pieces t (part ns s.first_node s.nodes)))) true)) (all_fit_prop t ns ss)

body_kept_prop : (t : Tables) (ns : List Node) (ss : List StatementNode) → IsProp (BodyKept t ns ss)
body_kept_prop t ns ss = ×_prop (all_named_prop t ns) (×_prop (actions_named_prop t ss) (all_fit_prop t ns ss))

bodies_kept_prop : (t : Tables) (bs : List Body) → IsProp (BodiesKept t bs)
bodies_kept_prop t [] = Unit-prop
bodies_kept_prop t (b ∷ bs) = ×_prop (body_kept_prop t b.nodes.items b.statements.items) (bodies_kept_prop t bs)

pub kept_prop : (t : Tables) (scratch ns : List Node) (ss : List StatementNode) (bs : List Body) → IsProp (Kept t scratch ns ss bs)
kept_prop t scratch ns ss bs = ×_prop (all_named_prop t scratch) (×_prop (body_kept_prop t ns ss) (bodies_kept_prop t bs))
