-- Serves the code: how arguments and numbers in brackets are read.
use Rattle.std.specs.Prelude.{◌≡◌, Bool, true, false, List, ◌∷◌, Option}
use Rattle.vba_lexer.specs.declared.token.Token.{Token}
use Rattle.vba_expression.specs.Tree.{Expr, Args, no_args}
use Rattle.vba_expression.specs.declared.node.ExpressionNode.TheVariants as node
use Rattle.vba_expression.specs.Nodes as nodes
use Rattle.vba_expression.specs.Nodes.{behind_node}
use Rattle.bound_project.specs.declared.node.NodeKind.{NodeKind}
use Rattle.bound_project.specs.declared.node.NodeKind.TheVariants as kinds
use Rattle.bound_project.specs.Project.{Declarations}
use Rattle.bound_project.specs.View.{variable_view}
use Rattle.bound_project.specs.Expressions.{Exprs, Lvalue}
use Rattle.bound_project.specs.Expressions as bound
use Rattle.bound_project.specs.Pieces.{Piece, Tables}
use Rattle.bound_project.specs.Pieces as piece
use Rattle.bound_project.specs.Drafts.{Drafted}
use Rattle.bound_forms.specs.Terms.{Env}
use Rattle.bound_forms.specs.ClassDefaults.{declared_in}
use Rattle.bound_forms.specs.Operands.{element_place, place_told}
use Rattle.bound_forms.specs.Members.{item_of}
use Rattle.bound_forms.specs.ExpressionsBound.{callee, givens, indexed, term_of}
use Rattle.bound_calls.specs.declared.term.Term.{Term}
use Rattle.bound_calls.specs.declared.term.Tree.{Tree}
use Rattle.bound_calls.specs.declared.term.Target.{Target}
use Rattle.bound_calls.specs.declared.term.Target.TheVariants as target
use Rattle.bound_calls.specs.declared.term.Indexed.{Indexed}
use Rattle.bound_calls.specs.declared.term.Item.{Item}
use Rattle.bound_calls.specs.declared.term.Item.TheVariants as item
use Rattle.bound_calls.specs.Standing.{PlaceEnds, TermStands, TermNamed, TreeStands, IndexedStands, Stands, ItemNamed, AllNamed, Grown, Base}

-- nodes that are part of another place
abbrev pub is_part : NodeKind → Bool
is_part (kinds.Item x count) = true
is_part (kinds.Element count) = true
is_part (kinds.Field i of bounded) = true
is_part (kinds.KeptPlace header) = true
is_part (kinds.ObjectField i of bounded) = true
is_part (kinds.AsNew c) = true
is_part (kinds.NewVariable x c) = true
is_part k = false

-- a place that is indexed: a plain variable, or one that was pushed
abbrev pub TargetAt : Target → Lvalue → (ps below : List Piece) → Type 0
TargetAt (target.Variable v) at ps below = (at ≡ bound.variable (variable_view v)) × (ps ≡ below)
TargetAt target.Place at ps below = ((es : Exprs) → element_place at es ≡ bound.element at es) × (ps ≡ piece.a_place at ∷ below)
TargetAt other at ps below = ⊥

pub record PushesTarget (kind : NodeKind) (d e : Drafted) (x : Target) : Type 0 where
  pub grown : Grown d e
  pub stands : (at : Lvalue) (below : List Piece) → PlaceEnds d.tables kind at d.pieces below → TargetAt x at e.pieces below

-- arguments begin
pub record Opens (env : Env) (x : Tree) (d e : Drafted) (i : Item) : Type 0 where
  pub grown : Grown d e
  pub named : ItemNamed e.tables i
  pub stands : (tree : Expr) (items : List Item) (is : List nodes.Item) (below : List Piece) (base : Base) → TreeStands env d.tables x tree d.pieces below → Stands env e.tables items is below base
      → Stands env e.tables (i ∷ items) (nodes.arguments no_args ∷ nodes.tree tree ∷ is) e.pieces base

-- the same of a term, with nothing pushed before
pub record OpensTerm (env : Env) (x : Tree) (y : Term) (d e : Drafted) (i : Item) : Type 0 where
  pub grown : Grown d e
  pub named : ItemNamed e.tables i
  pub stands : (tree : Expr) (items : List Item) (is : List nodes.Item) (below : List Piece) (base : Base) → x.place ≡ place_told tree → TermStands env d.tables y (callee env tree (term_of env tree)) d.pieces below
      → Stands env e.tables items is below base → Stands env e.tables (i ∷ items) (nodes.arguments no_args ∷ nodes.tree tree ∷ is) e.pieces base

-- the expression on top is one more argument
pub record AddsArgument (i : Item) (x : Tree) (d e : Drafted) (j : Item) : Type 0 where
  pub grown : Grown d e
  pub named : ItemNamed e.tables j
  pub stands : (env : Env) (comma : Option Token) (items : List Item) (is : List nodes.Item) (base : Base) → AllNamed d.tables items
      → Stands env d.tables (item.Tree x ∷ i ∷ items) is d.pieces base → Stands env e.tables (j ∷ items) (behind_node (node.PlainArgument comma) is) e.pieces base

-- an argument that isn't written
pub record AddsMissing (i : Item) (d e : Drafted) (j : Item) : Type 0 where
  pub grown : Grown d e
  pub named : ItemNamed e.tables j
  pub stands : (env : Env) (comma : Option Token) (items : List Item) (is : List nodes.Item) (base : Base) → AllNamed d.tables items → Stands env d.tables (i ∷ items) is d.pieces base
      → Stands env e.tables (j ∷ items) (behind_node (node.MissingArgument comma) is) e.pieces base

-- arguments end, in a project that declares this
pub record Closes (known : Declarations) (i : Item) (d e : Drafted) (y : Tree) : Type 0 where
  pub grown : Grown d e
  pub named : TermNamed e.tables y.term
  pub stands : (env : Env) → declared_in env.scope ≡ known → (left right : Token) (items : List Item) (is : List nodes.Item) (base : Base) → AllNamed d.tables items → Stands env d.tables (i ∷ items) is d.pieces base
      → Stands env e.tables (item.Tree y ∷ items) (behind_node (node.Index left right) is) e.pieces base

-- what numbers make of what is indexed
pub record EndsIndexed (x : Indexed) (y : Term) : Type 0 where
  pub named : (t : Tables) → TermNamed t y
  pub stands : (env : Env) (t : Tables) (e : Expr) (args : Args) (ps below : List Piece) → IndexedStands env x e args ps below
      → TermStands env t y (indexed env (place_told e) (item_of env (place_told e) (callee env e (term_of env e))) (givens env args)) ps below
