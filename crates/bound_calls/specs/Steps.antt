-- Serves the code: what a node does to what stands on the stack.
use Rattle.std.specs.Prelude.{◌≡◌, ℕ, Bool, true, false, length, List, ◌∷◌, Option, Some, None}
use Rattle.vba_values.specs.declared.types.Compare.{Compare}
use Rattle.vba_values.specs.Val.{Val}
use Rattle.vba_expression.specs.declared.operator.UnaryOperator.{UnaryOperator}
use Rattle.vba_expression.specs.declared.operator.BinaryOperator.{BinaryOperator}
use Rattle.vba_expression.specs.declared.operator.BinaryOperator.TheVariants as operators
use Rattle.vba_expression.specs.Tree.{Expr}
use Rattle.vba_expression.specs.Nodes as nodes
use Rattle.bound_project.specs.declared.declared_type.DeclaredType.{DeclaredType}
use Rattle.bound_project.specs.Expressions as bound
use Rattle.bound_project.specs.Pieces.{Piece, Tables}
use Rattle.bound_project.specs.Drafts.{Drafted, with_constant}
use Rattle.bound_declarations.specs.constant_values.specs.declared_names.specs.binder.specs.Constants.{operator_kind, unary_kind, compare_in}
use Rattle.bound_forms.specs.Terms.{Env}
use Rattle.bound_forms.specs.Terms as plain
use Rattle.bound_forms.specs.Operands.{value_of, operand_of, place_told}
use Rattle.bound_forms.specs.ExpressionsBound.{term_of, unary_term, binary_term}
use Rattle.bound_calls.specs.declared.term.Term.{Term}
use Rattle.bound_calls.specs.declared.term.Tree.{Tree}
use Rattle.bound_calls.specs.declared.term.Operand.{Operand}
use Rattle.bound_calls.specs.declared.term.Item.{Item}
use Rattle.bound_calls.specs.Standing.{left_of, TermStands, TermNamed, TreeStands, PushedStands, Stands, AllNamed, Grown, Base}

-- those below an item, and the item, if there is one
abbrev pub taken : {A : Type 0} → Option A → List A → List A
taken None xs = xs
taken (Some x) xs = x ∷ xs

-- an expression is pushed as an operand
pub record PushesOperand (x : Tree) (d e : Drafted) (of : Option DeclaredType) : Type 0 where
  pub grown : Grown d e
  pub stands : (env : Env) (tree : Expr) (below : List Piece) → TreeStands env d.tables x tree d.pieces below
      → PushedStands of (operand_of env (term_of env tree) (place_told tree)) e.pieces below

-- an expression is pushed as a left operand
pub record PushesLeft (x : Tree) (d e : Drafted) (left : Operand) : Type 0 where
  pub grown : Grown d e
  pub stands : (env : Env) (tree : Expr) (below : List Piece) → TreeStands env d.tables x tree d.pieces below
      → PushedStands left.of (left_of left.is_reference env (term_of env tree) (place_told tree)) e.pieces below

-- a step from a stack to another one, beside what it does to the plain items
pub record Goes (env : Env) (d : Drafted) (xs : List Item) (e : Drafted) (ys : List Item) (f : List nodes.Item → List nodes.Item) : Type 0 where
  pub grown : Grown d e
  pub named : AllNamed e.tables ys
  pub stands : (is : List nodes.Item) (base : Base) → Stands env d.tables xs is d.pieces base → Stands env e.tables ys (f is) e.pieces base

-- what an operator makes of operands that were pushed
pub record MakesUnary (operator : UnaryOperator) (of : Option DeclaredType) (x : Term) : Type 0 where
  pub named : (t : Tables) → TermNamed t x
  pub stands : (env : Env) (t : Tables) (a : Option bound.Expr) (ps below : List Piece) → PushedStands of a ps below → TermStands env t x (unary_term (unary_kind operator) a) ps below

pub record MakesBinary (compare : Compare) (operator : BinaryOperator) (l r : Option DeclaredType) (x : Term) : Type 0 where
  pub named : (t : Tables) → TermNamed t x
  pub stands : (env : Env) (t : Tables) (a b : Option bound.Expr) (ps between below : List Piece) → compare ≡ compare_in env.scope → PushedStands l a between below → PushedStands r b ps between
      → TermStands env t x (binary_term env (operator_kind operator) a b) ps below

-- what a leaf is; its pieces are pushed with its last node
pub record MakesLeaf (env : Env) (d e : Drafted) (x : Term) (y : plain.Term) : Type 0 where
  pub grown : Grown d e
  pub pieces : e.pieces ≡ d.pieces
  pub named : TermNamed e.tables x
  pub stands : (ps : List Piece) → TermStands env e.tables x y ps ps

-- the operator Is, which takes references
abbrev pub is_same : BinaryOperator → Bool
is_same operators.Is = true
is_same o = false

-- one more constant, by its number
pub record AddsConstant (v : Val) (d e : Drafted) (number : ℕ) : Type 0 where
  pub number_is : number ≡ length d.tables.constants
  pub draft_is : e ≡ record d { tables = with_constant d.tables v }

-- an expression is pushed as a value
pub record PushesValue (x : Tree) (d e : Drafted) (of : Option DeclaredType) : Type 0 where
  pub grown : Grown d e
  pub stands : (env : Env) (tree : Expr) (below : List Piece) → TreeStands env d.tables x tree d.pieces below
      → PushedStands of (value_of env (term_of env tree) (place_told tree)) e.pieces below

-- all but the last node of an expression was pushed
pub record Leaves (env : Env) (tree : Expr) (d e : Drafted) (x : Tree) : Type 0 where
  pub grown : Grown d e
  pub named : TermNamed e.tables x.term
  pub stands : TreeStands env e.tables x tree e.pieces d.pieces

-- an expression was pushed; without a type there is none
pub record Binds (found : Option bound.Expr) (d e : Drafted) (of : Option DeclaredType) : Type 0 where
  pub grown : Grown d e
  pub pushed : PushedStands of found e.pieces d.pieces
