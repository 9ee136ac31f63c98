-- Serves the code: what arguments in brackets at the end of a target stand behind.
use Rattle.std.specs.Prelude.{◌≡◌, Bool, false, List, [], ◌∷◌, ◌++◌, Option, Some, slice_get}
use Rattle.vba_base.specs.declared.place.Place.{Place}
use Rattle.vba_lexer.specs.declared.token.Token.{Token}
use Rattle.vba_expression.specs.Tree.{Args, Expr, index}
use Rattle.vba_expression.specs.Nodes as nodes
use Rattle.vba_expression.specs.Nodes.{behind_nodes, last_tree}
use Rattle.vba_expression.specs.declared.node.ExpressionNode.{ExpressionNode}
use Rattle.vba_expression.specs.declared.node.ExpressionNode.TheVariants as node
use Rattle.bound_project.specs.declared.declared_type.DeclaredType.{DeclaredType}
use Rattle.bound_project.specs.declared.statement.ActionKind.{ActionKind}
use Rattle.bound_project.specs.Drafts.{ActionNamed, Drafted}
use Rattle.bound_project.specs.Expressions as bound
use Rattle.bound_project.specs.Pieces.{Piece, Tables, an_expr}
use Rattle.bound_project.specs.View.{declared_view}
use Rattle.declared_names.specs.View.{space_view, written_view}
use Rattle.bound_terms.specs.bound_accesses.specs.bound_names.specs.bound_members.specs.bound_calls.specs.bound_forms.specs.Terms.{Env, Given}
use Rattle.bound_terms.specs.bound_accesses.specs.bound_names.specs.bound_members.specs.bound_calls.specs.bound_forms.specs.Terms as plain
use Rattle.bound_terms.specs.bound_accesses.specs.bound_names.specs.bound_members.specs.bound_calls.specs.bound_forms.specs.Operands.{place_told}
use Rattle.bound_terms.specs.bound_accesses.specs.bound_names.specs.bound_members.specs.bound_calls.specs.bound_forms.specs.ExpressionsBound.{callee, givens, term_of}
use Rattle.bound_terms.specs.bound_accesses.specs.bound_names.specs.bound_members.specs.bound_calls.specs.bound_forms.specs.Targets.{assigned_to, is_given_with, is_sub, property_takes, set_to, target_before, target_term}
use Rattle.bound_terms.specs.bound_accesses.specs.bound_names.specs.bound_members.specs.bound_calls.specs.declared.term.Property.{Property}
use Rattle.bound_terms.specs.bound_accesses.specs.bound_names.specs.bound_members.specs.bound_calls.specs.declared.term.Term.{Term}
use Rattle.bound_terms.specs.bound_accesses.specs.bound_names.specs.bound_members.specs.bound_calls.specs.Standing.{Grown, PropertyStands, TermNamed, TermStands, TreeStands}
use Rattle.statement_terms.specs.Called.{ActionIs, MayBe, args_on, item_before}
use Rattle.statement_terms.specs.Setting.{set_with}
use Rattle.statement_terms.specs.Takers.{TakenBy}
use Rattle.statement_terms.specs.declared.takers.Taker.{Taker}
use Rattle.statement_terms.specs.declared.trees.Split.{Split}
use Rattle.bound_actions.specs.LateSets.{SetsIndexed}
use Rattle.bound_actions.specs.declared.property_targets.Before.{Before}

-- arguments behind an expression index no property's value: they stand behind it as it is
abbrev pub KeepsBase : Env → Expr → List Given → Type 0
KeepsBase env base gs = target_before env base gs ≡ item_before env base

-- an expression and these nodes behind it
abbrev pub whole_at : Expr → List ExpressionNode → Expr
whole_at base ns = last_tree (behind_nodes (nodes.tree base ∷ []) ns)

-- an expression was read, and looked at as what is called; it is no Sub, and these arguments stand behind it as it is
pub record BehindIs (env : Env) (ns : List ExpressionNode) (base : Expr) (x : Before) (t : Tables) (ps below : List Piece) : Type 0 where
  pub there : TreeStands env t x.tree base ps below
  pub called : TermStands env t x.term (callee env base (term_of env base)) ps below
  pub kept : (items : List nodes.Item) → KeepsBase env base (givens env (args_on items ns))
  pub no_sub : is_sub (callee env base (term_of env base)) ≡ false

-- another expression stands for one before these arguments
pub record Replaces (env : Env) (ns : List ExpressionNode) (base : Expr) (x : Before) (t : Tables) (ps below : List Piece) : Type 0 where
  pub other : Expr
  pub told : place_told other ≡ place_told base
  pub same : (items : List nodes.Item) → target_before env base (givens env (args_on items ns)) ≡ target_before env other (givens env (args_on items ns))
  pub behind : BehindIs env ns other x t ps below

pub record StandsBefore (x : Before) (ns : List ExpressionNode) (d e : Drafted) (y : Before) : Type 0 where
  pub grown : Grown d e
  pub tree_named : TermNamed e.tables y.tree.term
  pub named : TermNamed e.tables y.term
  pub stands : (env : Env) (base : Expr) (below : List Piece) → TreeStands env d.tables x.tree base d.pieces below → TermStands env d.tables x.term (callee env base (term_of env base)) d.pieces below
      → is_sub (callee env base (term_of env base)) ≡ false → Replaces env ns base y e.tables e.pieces below

-- ---- what is done

-- an expression is assigned the value that was pushed below what stands before its arguments, and whether that comes as it is
pub record AssignsWhole (env : Env) (may : Option Bool) (whole : Expr) (kind : ActionKind) (given : Bool) (t : Tables) (ps below : List Piece) : Type 0 where
  pub takes : is_given_with env whole ≡ given
  pub does : (value : bound.Expr) → MayBe env may value → below ≡ an_expr value ∷ [] → ActionIs kind (assigned_to env whole value) t ps

-- the arguments in brackets of a split are read behind what stands before them
abbrev pub Closes : Split → (left right : Token) → Type 0
Closes split left right = split.closed.now ≡ split.arguments.now ++ node.Index left right ∷ []

pub record AssignsBehind (env : Env) (may : Option Bool) (x : Before) (split : Split) (d e : Drafted) (kind : ActionKind) (given : Bool) : Type 0 where
  pub grown : Grown d e
  pub named : ActionNamed e.tables kind
  pub stands : (base : Expr) (left right : Token) (below : List Piece) → Closes split left right → BehindIs env split.arguments.now base x d.tables d.pieces below
      → AssignsWhole env may (whole_at base split.closed.now) kind given e.tables e.pieces below

-- the same where it is set to a reference
pub record SetsBehind (env : Env) (word : Place) (x : Before) (split : Split) (d e : Drafted) (kind : ActionKind) : Type 0 where
  pub grown : Grown d e
  pub named : ActionNamed e.tables kind
  pub stands : (base : Expr) (left right : Token) (below : List Piece) → Closes split left right → BehindIs env split.arguments.now base x d.tables d.pieces below
      → SetsIndexed env word (whole_at base split.closed.now) kind e.tables e.pieces below

-- what has no Set and is no member is set to a reference with arguments: a property itself, or what these make of it
pub record IndexedSet (env : Env) (word : Place) (base whole : Expr) (left right : Token) (kind : ActionKind) (t : Tables) (ps below : List Piece) : Type 0 where
  pub args : Args
  pub whole_is : whole ≡ index base left args right
  pub does : (value : bound.Expr) → below ≡ an_expr value ∷ [] → ActionIs kind (set_to env word (place_told base) (set_with env (place_told base) (givens env args) (item_before env base)) value) t ps

pub record SetsIndexedTerm (env : Env) (word : Place) (x : Before) (split : Split) (d e : Drafted) (kind : ActionKind) : Type 0 where
  pub grown : Grown d e
  pub named : ActionNamed e.tables kind
  pub stands : (base : Expr) (left right : Token) (below : List Piece) → Closes split left right → BehindIs env split.arguments.now base x d.tables d.pieces below
      → IndexedSet env word base (whole_at base split.closed.now) left right kind e.tables e.pieces below

-- ---- what takes a value

-- the type of what a property is given
abbrev pub TakesType : Env → Property → DeclaredType → Type 0
TakesType env p of = slice_get env.scope.spaces (space_view p.space.now).number ≡ Some (space_view p.space.now) → property_takes env (space_view p.space.now) (written_view p.written) ≡ declared_view of

abbrev pub PropertyTaken : Env → Property → Option Taker → Type 0
PropertyTaken env p taker = (t : Tables) (y : plain.Term) (ps below : List Piece) → PropertyStands env p y ps below → TakenBy env y taker

abbrev pub TermTaken : Env → Term → Option Taker → Type 0
TermTaken env x taker = (t : Tables) (y : plain.Term) (ps below : List Piece) → TermStands env t x y ps below → TakenBy env y taker

-- what takes the value of an expression behind which arguments stand
abbrev pub TakenBehind : Env → Before → Split → Drafted → Option Taker → Type 0
TakenBehind env x split d taker = (base : Expr) (left right : Token) (below : List Piece) → Closes split left right → BehindIs env split.arguments.now base x d.tables d.pieces below
    → TakenBy env (target_term env (whole_at base split.closed.now)) taker
