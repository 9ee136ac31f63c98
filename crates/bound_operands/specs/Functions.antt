-- Serves the code: calls of functions of the library.
use Rattle.std.specs.Prelude.{Bool, false, ◌&&◌, not, List, ◌∷◌, Option, option_map}
use Rattle.vba_lexer.specs.declared.token.Token.{Token}
use Rattle.vba_words.specs.declared.identifier.Identifier.{Identifier}
use Rattle.vba_expression.specs.declared.node.ExpressionNode.TheVariants as node
use Rattle.vba_expression.specs.Nodes as nodes
use Rattle.vba_expression.specs.Nodes.{behind_node}
use Rattle.vba_expression.specs.Tree.{Expr, Args}
use Rattle.vba_values.specs.Types as type
use Rattle.bound_project.specs.declared.declared_type.DeclaredType.{DeclaredType}
use Rattle.bound_project.specs.Pieces.{Piece, Tables}
use Rattle.bound_project.specs.Drafts.{Drafted}
use Rattle.bound_members.specs.bound_calls.specs.bound_forms.specs.Terms.{Env, given_to}
use Rattle.bound_members.specs.bound_calls.specs.bound_forms.specs.Operands.{has_start, takes_count, place_told}
use Rattle.bound_members.specs.bound_calls.specs.bound_forms.specs.Members.{item_of}
use Rattle.bound_members.specs.bound_calls.specs.bound_forms.specs.ExpressionsBound.{callee, givens, indexed, taken_as, term_of}
use Rattle.bound_members.specs.bound_calls.specs.bound_forms.specs.ExpressionsBound as plain
use Rattle.bound_members.specs.bound_calls.specs.declared.term.FunctionCall.{FunctionCall}
use Rattle.bound_members.specs.bound_calls.specs.declared.term.Term.{Term}
use Rattle.bound_members.specs.bound_calls.specs.declared.term.Tree.{Tree}
use Rattle.bound_members.specs.bound_calls.specs.declared.term.Item.{Item}
use Rattle.bound_members.specs.bound_calls.specs.declared.term.Item.TheVariants as items
use Rattle.bound_members.specs.bound_calls.specs.Calls.{ArgumentIs}
use Rattle.bound_members.specs.bound_calls.specs.Standing.{AllNamed, Base, FunctionStands, Stands, TermNamed, TermStands, TreeStands, PushedIs, Grown}
use Rattle.bound_operands.specs.declared.functions.Taking.{Taking}
use Rattle.bound_operands.specs.declared.functions.Taking.TheVariants as taking

-- how a function takes an argument, as the binder says it
abbrev pub taking_view : Taking → plain.Taking
taking_view taking.AsItIs = plain.as_it_is
taking_view taking.DefaultIfAny = plain.default_if_any
taking_view taking.ByDefault = plain.by_default

-- an argument is pushed as a function takes it
pub record PushesTaken (how : Taking) (x : Tree) (d e : Drafted) (of : DeclaredType) : Type 0 where
  pub grown : Grown d e
  pub stands : (env : Env) (tree : Expr) (below : List Piece) → TreeStands env d.tables x tree d.pieces below
      → PushedIs of (taken_as env (taking_view how) (term_of env tree) (place_told tree)) e.pieces below

-- the same, marked where a value of a Type is given to the function
pub record PushesMarked (how : Taking) (x : Tree) (d e : Drafted) : Type 0 where
  pub grown : Grown d e
  pub stands : (env : Env) (tree : Expr) (below : List Piece) → TreeStands env d.tables x tree d.pieces below
      → ArgumentIs (option_map (given_to type.variant false (place_told tree)) (taken_as env (taking_view how) (term_of env tree) (place_told tree))) e.pieces below

-- whether a function takes what it is called with
abbrev pub call_takes : FunctionCall → Bool
call_takes x = not x.is_wrong && (takes_count x.function.function x.count && has_start x.function.function x.count x.is_started)

-- one more argument of a call, which has a name
pub record AddsNamedValue (x : FunctionCall) (y : Tree) (d e : Drafted) (z : FunctionCall) : Type 0 where
  pub grown : Grown d e
  pub stands : (env : Env) (comma : Option Token) (name : Identifier) (mark : Token) (xs : List Item) (is : List nodes.Item) (base : Base) → AllNamed d.tables xs
      → Stands env d.tables (items.Tree y ∷ items.Function x ∷ xs) is d.pieces base → Stands env e.tables (items.Function z ∷ xs) (behind_node (node.NamedArgument comma name mark) is) e.pieces base

-- what a function makes of the arguments that were pushed
pub record EndsFunction (x : FunctionCall) (y : Term) : Type 0 where
  pub named : (t : Tables) → TermNamed t y
  pub stands : (env : Env) (t : Tables) (e : Expr) (args : Args) (ps below : List Piece) → FunctionStands env x e args ps below
      → TermStands env t y (indexed env (place_told e) (item_of env (place_told e) (callee env e (term_of env e))) (givens env args)) ps below
