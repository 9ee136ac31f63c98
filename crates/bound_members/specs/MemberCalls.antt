-- Serves the code: calls of members.
use Rattle.std.specs.Prelude.{◌≡◌, ◌≢◌, ℕ, ◌+◌, length, Bool, true, false, List, [], ◌∷◌, ◌++◌, Option, Some, None}
use Rattle.vba_base.specs.declared.place.Place.{Place}
use Rattle.vba_values.specs.Types as type
use Rattle.vba_expression.specs.Tree.{Expr, Args, no_args}
use Rattle.vba_expression.specs.Nodes as nodes
use Rattle.vba_expression.specs.Nodes.{behind_node}
use Rattle.vba_expression.specs.declared.node.ExpressionNode.TheVariants as node_of
use Rattle.vba_lexer.specs.declared.token.Token.{Token}
use Rattle.vba_words.specs.declared.identifier.Identifier.{Identifier}
use Rattle.bound_project.specs.declared.node.ArgumentNames.{ArgumentNames}
use Rattle.bound_project.specs.Expressions as bound
use Rattle.bound_project.specs.declared.node.NodeKind.{NodeKind}
use Rattle.bound_project.specs.declared.node.NodeKind.TheVariants as node
use Rattle.bound_project.specs.Pieces.{Piece, Tables, an_expr, by_name_in, is_there, order_in}
use Rattle.bound_project.specs.Drafts.{Drafted, NodeNamed}
use Rattle.bound_calls.specs.bound_forms.specs.Terms.{Env, Given, a_host_member}
use Rattle.bound_calls.specs.bound_forms.specs.Terms as plain
use Rattle.bound_calls.specs.bound_forms.specs.Operands.{argument_of, place_told}
use Rattle.bound_calls.specs.bound_forms.specs.Members.{item_of}
use Rattle.bound_calls.specs.bound_forms.specs.ExpressionsBound.{callee, givens, indexed, member_called, takes_names, term_of}
use Rattle.bound_calls.specs.declared.term.HostMember.{HostMember}
use Rattle.bound_calls.specs.declared.term.Item.{Item}
use Rattle.bound_calls.specs.declared.term.Item.TheVariants as item
use Rattle.bound_calls.specs.declared.term.Looked.{Looked}
use Rattle.bound_calls.specs.declared.term.Looked.TheVariants as looked
use Rattle.bound_calls.specs.declared.term.MemberCall.{MemberCall}
use Rattle.bound_calls.specs.declared.term.Term.{Term}
use Rattle.bound_calls.specs.declared.term.Tree.{Tree}
use Rattle.bound_calls.specs.References.{is_typed_kind}
use Rattle.bound_calls.specs.Standing.{AllNamed, ItemNamed, LookedNamed, MemberNamed, MemberStands, NamesCame, Stands, TakesMember, TermNamed, TermStands, TreeStands, ValueEnds, Base, Grown, member_is, missing_value, names_looked, names_told}
use Rattle.bound_calls.specs.bound_declarations.specs.constant_values.specs.declared_names.specs.binder.specs.Classes.{has_class}

-- the node that looks for a member
abbrev pub there_kind : (name : ℕ) → Looked → NodeKind
there_kind name (looked.Early None given) = node.MemberThere name given
there_kind name (looked.Early (Some names) given) = node.NamedThere name names given
there_kind name (looked.Late aim found) = node.LateThere aim found

-- a member is looked up as one of the host
abbrev pub is_early : Looked → Bool
is_early (looked.Early names given) = true
is_early (looked.Late aim found) = false

-- a late-bound one is looked up by its name
abbrev pub ByItsName : HostMember → Looked → Type 0
ByItsName m (looked.Early names given) = Unit {0}
ByItsName m (looked.Late aim found) = found.name ≡ m.name

-- a member is looked up, for which nothing is pushed
pub record LooksUp (m : HostMember) (d e : Drafted) (l : Looked) : Type 0 where
  pub grown : Grown d e
  pub pieces : e.pieces ≡ d.pieces
  pub named : LookedNamed e.tables l
  pub by_name : ByItsName m l

-- arguments begin of a member whose object was pushed, which a property may have given, in a project with a class or
-- without
pub record OpensMember (has of_property : Bool) (place : Place) (m : HostMember) (d e : Drafted) (c : MemberCall) : Type 0 where
  pub grown : Grown d e
  pub named : ItemNamed e.tables (item.Member c)
  pub stands : (env : Env) → has_class env.scope.spaces ≡ has → (tree : Expr) (items : List Item) (is : List nodes.Item) (object : bound.Expr) (below : List Piece) (base : Base) → place ≡ place_told tree
      → TakesMember of_property env (place_told tree) (callee env tree (term_of env tree)) (a_host_member object (member_is d.tables m)) → d.pieces ≡ an_expr object ∷ below → Stands env e.tables items is below base
      → Stands env e.tables (item.Member c ∷ items) (nodes.arguments no_args ∷ nodes.tree tree ∷ is) e.pieces base

-- what an argument is given, with a name or without one
abbrev pub given_as_named : Env → Option (List ℕ) → Expr → Given
given_as_named env name e = record { name = name; term = Some (term_of env e); place = place_told e }

-- a value that was pushed for an argument, which is written
pub record WrittenIs (found : Option bound.Expr) (ps below : List Piece) : Type 0 where
  pub made : bound.Expr
  pub is : found ≡ Some made
  pub there : is_there made ≡ true
  pub on_top : ps ≡ an_expr made ∷ below

pub record PushesWritten (y : Tree) (d e : Drafted) : Type 0 where
  pub grown : Grown d e
  pub stands : (env : Env) (tree : Expr) (below : List Piece) → TreeStands env d.tables y tree d.pieces below
      → WrittenIs (argument_of env type.variant (term_of env tree) (place_told tree)) e.pieces below

-- the expression on top was pushed so as one more argument, so that so many of the arguments have names
pub record AddsValue (x : MemberCall) (y : Tree) (named : ℕ) (d e : Drafted) (z : MemberCall) : Type 0 where
  pub grown : Grown d e
  pub is_named : MemberNamed e.tables z
  pub stands : (env : Env) (a b : Expr) (name : Option (List ℕ)) (args more : Args) (ps below : List Piece) → TreeStands env d.tables y a d.pieces ps → MemberStands env d.tables x b args ps below
      → givens env more ≡ givens env args ++ given_as_named env name a ∷ [] → NamesCame (names_told e.tables (names_looked x.looked)) named (givens env more) → MemberStands env e.tables z b more e.pieces below

-- the expression on top is one more argument, with a name
pub record AddsNamed (x : MemberCall) (y : Tree) (name : Identifier) (d e : Drafted) (z : MemberCall) : Type 0 where
  pub grown : Grown d e
  pub named : ItemNamed e.tables (item.Member z)
  pub stands : (env : Env) (comma : Option Token) (mark : Token) (items : List Item) (is : List nodes.Item) (base : Base) → AllNamed d.tables items → Stands env d.tables (item.Tree y ∷ item.Member x ∷ items) is d.pieces base
      → Stands env e.tables (item.Member z ∷ items) (behind_node (node_of.NamedArgument comma name mark) is) e.pieces base

-- that an argument isn't written is pushed
abbrev pub missing_pushed : Drafted → Drafted
missing_pushed d = record d { pieces = an_expr missing_value ∷ d.pieces }

-- all names came that were told, and as many arguments stand before them
pub record AllCame (t : Tables) (x : MemberCall) (names : ArgumentNames) : Type 0 where
  pub all : x.named ≡ length (order_in t names.order)
  pub count : x.count ≡ names.before + x.named

-- arguments are named as was told: as many stand before the names, all of these came, and the member has such parameters
pub record NamesFit (t : Tables) (x : MemberCall) (names : ArgumentNames) : Type 0 where
  pub some : x.named ≢ 0
  pub all : x.named ≡ length (order_in t names.order)
  pub count : x.count ≡ names.before + x.named
  pub takes : takes_names (member_is t x.member) (by_name_in t names) ≡ true

-- the value of a member with these arguments, by its last node
pub record CallIs (env : Env) (t : Tables) (m : plain.HostMember) (object : bound.Expr) (gs : List Given) (kind : NodeKind) (ps below : List Piece) : Type 0 where
  pub made : bound.Node
  pub is : member_called env object m gs ≡ Some made
  pub ends : ValueEnds t kind made ps below

pub record EndsCall (t : Tables) (x : MemberCall) (kind : NodeKind) : Type 0 where
  pub named : MemberNamed t x → NodeNamed t kind
  pub stands : (env : Env) (e : Expr) (args : Args) (ps below : List Piece) (s : MemberStands env t x e args ps below)
      → CallIs env t (member_is t x.member) s.object (givens env args) kind ps below

-- what a member makes of the arguments that were pushed
pub record EndsMember (t : Tables) (x : MemberCall) (y : Term) : Type 0 where
  pub named : ItemNamed t (item.Member x) → TermNamed t y
  pub stands : (env : Env) (e : Expr) (args : Args) (ps below : List Piece) → MemberStands env t x e args ps below
      → TermStands env t y (indexed env (place_told e) (item_of env (place_told e) (callee env e (term_of env e))) (givens env args)) ps below

-- nodes of values that count as given
abbrev pub is_value_kind : NodeKind → Bool
is_value_kind (node.HostObject reference) = true
is_value_kind k = is_typed_kind k
