-- Serves the code: members of objects that are set.
use Rattle.std.specs.Prelude.{◌≡◌, List, [], ◌∷◌, ◌++◌}
use Rattle.vba_base.specs.declared.place.Place.{Place}
use Rattle.vba_lexer.specs.declared.token.Token.{Token}
use Rattle.vba_expression.specs.Tree.{Args, Expr, index}
use Rattle.vba_expression.specs.Nodes as nodes
use Rattle.vba_expression.specs.Nodes.{behind_nodes, last_tree}
use Rattle.vba_expression.specs.declared.node.ExpressionNode.{ExpressionNode}
use Rattle.vba_expression.specs.declared.node.ExpressionNode.TheVariants as node
use Rattle.bound_project.specs.declared.statement.ActionKind.{ActionKind}
use Rattle.bound_project.specs.Drafts.{ActionNamed, Drafted}
use Rattle.bound_project.specs.Expressions as bound
use Rattle.bound_project.specs.Pieces.{Piece, Tables, an_expr}
use Rattle.declared_names.specs.binder.specs.Options.{or_else}
use Rattle.bound_terms.specs.bound_accesses.specs.bound_names.specs.bound_members.specs.bound_calls.specs.bound_forms.specs.Terms.{Env}
use Rattle.bound_terms.specs.bound_accesses.specs.bound_names.specs.bound_members.specs.bound_calls.specs.bound_forms.specs.Terms as plain
use Rattle.bound_terms.specs.bound_accesses.specs.bound_names.specs.bound_members.specs.bound_calls.specs.bound_forms.specs.Operands.{place_told}
use Rattle.bound_terms.specs.bound_accesses.specs.bound_names.specs.bound_members.specs.bound_calls.specs.bound_forms.specs.Members.{item_of}
use Rattle.bound_terms.specs.bound_accesses.specs.bound_names.specs.bound_members.specs.bound_calls.specs.bound_forms.specs.ExpressionsBound.{callee, givens, indexed, term_of}
use Rattle.bound_terms.specs.bound_accesses.specs.bound_names.specs.bound_members.specs.bound_calls.specs.bound_forms.specs.Targets.{set_by, set_to}
use Rattle.bound_terms.specs.bound_accesses.specs.bound_names.specs.bound_members.specs.bound_calls.specs.declared.term.HostMember.{HostMember}
use Rattle.bound_terms.specs.bound_accesses.specs.bound_names.specs.bound_members.specs.bound_calls.specs.declared.term.Term.{Term}
use Rattle.bound_terms.specs.bound_accesses.specs.bound_names.specs.bound_members.specs.bound_calls.specs.declared.term.Term.TheVariants as term
use Rattle.bound_terms.specs.bound_accesses.specs.bound_names.specs.bound_members.specs.bound_calls.specs.Standing.{Grown, TermStands}
use Rattle.statement_terms.specs.Called.{ActionIs, item_before}
use Rattle.statement_terms.specs.Setting.{set_there}

-- what arguments make of what stands before them is set to a reference
pub record TakenSet (env : Env) (word : Place) (base whole : Expr) (left right : Token) (kind : ActionKind) (t : Tables) (ps below : List Piece) : Type 0 where
  pub args : Args
  pub whole_is : whole ≡ index base left args right
  pub does : (value : bound.Expr) → below ≡ an_expr value ∷ [] → ActionIs kind (set_to env word (place_told base) (indexed env (place_told base) (item_before env base) (givens env args)) value) t ps

-- a member without arguments is set to the reference below its object: by what is found in the run, or as one of the host
pub record SetsMember (word place : Place) (m : HostMember) (d e : Drafted) (kind : ActionKind) : Type 0 where
  pub grown : Grown d e
  pub named : ActionNamed e.tables kind
  pub stands : (env : Env) (y : plain.Term) (value : bound.Expr) → TermStands env d.tables (term.HostMember m) y d.pieces (an_expr value ∷ [])
      → ActionIs kind (or_else (set_by env place [] y value) (set_to env word place y value)) e.tables e.pieces

-- the same of one of the active sheet, for which nothing was pushed
pub record SetsSheet (word place : Place) (m : HostMember) (d e : Drafted) (kind : ActionKind) : Type 0 where
  pub grown : Grown d e
  pub named : ActionNamed e.tables kind
  pub stands : (env : Env) (y : plain.Term) (value : bound.Expr) → TermStands env d.tables (term.SheetMember m) y d.pieces (an_expr value ∷ [])
      → ActionIs kind (or_else (set_by env place [] y value) (set_to env word place y value)) e.tables e.pieces

-- a member of the object that was pushed is set to the reference below that, with arguments that it takes
pub record SetsTaken (env : Env) (word place : Place) (m : HostMember) (ns : List ExpressionNode) (d e : Drafted) (kind : ActionKind) : Type 0 where
  pub grown : Grown d e
  pub named : ActionNamed e.tables kind
  pub stands : (base : Expr) (left right : Token) (below : List Piece) → place ≡ place_told base → TermStands env d.tables (term.HostMember m) (item_before env base) d.pieces below
      → TakenSet env word base (last_tree (behind_nodes (nodes.tree base ∷ []) (ns ++ node.Index left right ∷ []))) left right kind e.tables e.pieces below

-- an expression with arguments is set to the reference that was pushed below what stands before them
abbrev pub SetsIndexed : Env → (word : Place) → (whole : Expr) → ActionKind → Tables → (ps below : List Piece) → Type 0
SetsIndexed env word whole kind t ps below = (value : bound.Expr) → below ≡ an_expr value ∷ [] → ActionIs kind (set_there env word whole value) t ps

-- what is called is set to a reference with these arguments: the term, or the member that brackets take of it
pub record SetsItem (env : Env) (word place : Place) (x : Term) (ns : List ExpressionNode) (d e : Drafted) (kind : ActionKind) : Type 0 where
  pub grown : Grown d e
  pub named : ActionNamed e.tables kind
  pub stands : (base : Expr) (left right : Token) (below : List Piece) → place ≡ place_told base → TermStands env d.tables x (callee env base (term_of env base)) d.pieces below
      → SetsIndexed env word (last_tree (behind_nodes (nodes.tree base ∷ []) (ns ++ node.Index left right ∷ []))) kind e.tables e.pieces below

-- a member that the run finds, by the nodes of its arguments
pub record SetsGiven (env : Env) (place : Place) (m : HostMember) (ns : List ExpressionNode) (d e : Drafted) (kind : ActionKind) : Type 0 where
  pub grown : Grown d e
  pub named : ActionNamed e.tables kind
  pub stands : (word : Place) (base : Expr) (left right : Token) (below : List Piece) → place ≡ place_told base
      → TermStands env d.tables (term.HostMember m) (item_of env (place_told base) (callee env base (term_of env base))) d.pieces below
      → SetsIndexed env word (last_tree (behind_nodes (nodes.tree base ∷ []) (ns ++ node.Index left right ∷ []))) kind e.tables e.pieces below
