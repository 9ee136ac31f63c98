-- Serves the code: arguments of statements that aren't taken.
use Rattle.std.specs.Prelude.{◌≡◌, ℕ, length, List, [], map, Some}
use Rattle.vba_base.specs.declared.place.Place.{Place}
use Rattle.vba_values.specs.Types as type
use Rattle.vba_expression.specs.Nodes as nodes
use Rattle.vba_expression.specs.declared.node.ExpressionNode.{ExpressionNode}
use Rattle.bound_project.specs.declared.statement.ActionKind.{ActionKind}
use Rattle.bound_project.specs.Bodies.{action_of}
use Rattle.bound_project.specs.Drafts.{ActionNamed, Drafted}
use Rattle.bound_project.specs.Expressions.{Exprs}
use Rattle.bound_project.specs.Expressions as bound
use Rattle.bound_project.specs.Lists.{above}
use Rattle.bound_project.specs.Pieces.{Piece, Tables, an_expr}
use Rattle.bound_project.specs.Project.{Parameter}
use Rattle.bound_project.specs.Statements.{evaluate}
use Rattle.bound_terms.specs.bound_accesses.specs.bound_names.specs.bound_members.specs.bound_calls.specs.bound_forms.specs.Terms.{Env, Given, broken_rule}
use Rattle.bound_terms.specs.bound_accesses.specs.bound_names.specs.bound_members.specs.bound_calls.specs.bound_forms.specs.Operands.{argument_of}
use Rattle.bound_terms.specs.bound_accesses.specs.bound_names.specs.bound_members.specs.bound_calls.specs.bound_forms.specs.ExpressionsBound.{givens}
use Rattle.bound_terms.specs.bound_accesses.specs.bound_names.specs.bound_members.specs.bound_calls.specs.bound_forms.specs.Targets.{untaken}
use Rattle.bound_terms.specs.bound_accesses.specs.bound_names.specs.bound_members.specs.bound_calls.specs.declared.term.Shape.{Shape}
use Rattle.bound_terms.specs.bound_accesses.specs.bound_names.specs.bound_members.specs.bound_calls.specs.Shapes.{AreShaped}
use Rattle.bound_terms.specs.bound_accesses.specs.bound_names.specs.bound_members.specs.bound_calls.specs.Standing.{AllGiven, Grown, behind_values}
use Rattle.statement_terms.specs.Called.{Framed, args_on}

-- arguments of these shapes were pushed, each as a Variant takes it
pub record ShapesPassed (env : Env) (ss : List Shape) (gs : List Given) (ps below : List Piece) : Type 0 where
  pub shaped : AreShaped ss gs
  pub made : List bound.Expr
  pub values : AllGiven (argument_of env type.variant) gs made
  pub on_top : ps ≡ above (map an_expr made) below

-- the same by the nodes of the arguments of a statement
pub record ReadsUntaken (env : Env) (ns : List ExpressionNode) (d e : Drafted) (ss : List Shape) : Type 0 where
  pub grown : Grown d e
  pub framed : Framed ns
  pub stands : (items : List nodes.Item) → ShapesPassed env ss (givens env (args_on items ns)) e.pieces d.pieces

-- S25: these parameters don't take what is given, which was pushed behind values of the statement
pub record Untakes (env : Env) (parameters : List Parameter) (place : Place) (gs : List Given) (values : List bound.Expr) (kind : ActionKind) (t : Tables) (ps : List Piece) : Type 0 where
  pub made : Exprs
  pub untaken_is : untaken env parameters gs ≡ Some made
  pub fits : action_of t kind ps ≡ Some (evaluate (broken_rule 25 place (behind_values values made)))

-- the same by the nodes of the arguments, behind so many values
pub record RefusesArguments (env : Env) (parameters : List Parameter) (before : ℕ) (place : Place) (ns : List ExpressionNode) (d e : Drafted) (kind : ActionKind) : Type 0 where
  pub grown : Grown d e
  pub named : ActionNamed e.tables kind
  pub framed : Framed ns
  pub does : (items : List nodes.Item) (values : List bound.Expr) → length values ≡ before → d.pieces ≡ above (map an_expr values) []
      → Untakes env parameters place (givens env (args_on items ns)) values kind e.tables e.pieces
