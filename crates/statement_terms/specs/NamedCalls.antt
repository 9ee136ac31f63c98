-- Serves the code: calls of which the last arguments have names or are values for a ParamArray, and that stand as statements.
use Rattle.std.specs.Prelude.{◌≡◌, ℕ, length, true, List, ◌++◌, map, reverse}
use Rattle.vba_base.specs.declared.place.Place.{Place}
use Rattle.vba_values.specs.Types as type
use Rattle.vba_expression.specs.Tree.{Args}
use Rattle.vba_expression.specs.Nodes as nodes
use Rattle.vba_expression.specs.declared.node.ExpressionNode.{ExpressionNode}
use Rattle.bound_project.specs.View.{parameter_view}
use Rattle.bound_project.specs.Lists.{above}
use Rattle.bound_project.specs.Expressions as bound
use Rattle.bound_project.specs.Pieces.{Argument, Piece, an_argument, an_expr}
use Rattle.bound_project.specs.Project.{Parameter}
use Rattle.bound_project.specs.Drafts.{Drafted}
use Rattle.bound_members.specs.bound_calls.specs.bound_forms.specs.Terms.{Env, Given}
use Rattle.bound_members.specs.bound_calls.specs.bound_forms.specs.Terms as plain
use Rattle.bound_members.specs.bound_calls.specs.bound_forms.specs.Operands.{argument_of, given_as}
use Rattle.bound_members.specs.bound_calls.specs.bound_forms.specs.ExpressionsBound.{givens, indexed}
use Rattle.bound_members.specs.bound_calls.specs.declared.term.Routine.{Routine}
use Rattle.bound_members.specs.bound_calls.specs.declared.term.Passed.{Passed}
use Rattle.bound_members.specs.bound_calls.specs.InOrder.{AllNamedTaken}
use Rattle.bound_members.specs.bound_calls.specs.Standing.{AllListed, Grown, PassedStands, RoutineIs, ReceiverThere, is_gathering}
use Rattle.statement_terms.specs.Assigning.{ExprPushed}
use Rattle.statement_terms.specs.Called.{Framed, args_on}

-- arguments that were pushed for these parameters, the last ones for those that they name
pub record NamedPassed (env : Env) (parameters : List Parameter) (x : Passed) (named : List ℕ) (args : Args) (ps below : List Piece) : Type 0 where
  pub before : Args
  pub given : List Given
  pub givens_are : givens env args ≡ givens env before ++ given
  pub made : List Argument
  pub taken : AllNamedTaken (argument_of env) x.count (map parameter_view x.left.now) given named made
  pub between : List Piece
  pub on_top : ps ≡ above (map an_argument made) between
  pub passed : PassedStands env parameters x before between below

-- what a call gives was pushed behind arguments without names
pub record PushesCall (r : Routine) (x : Passed) (place : Place) (d e : Drafted) : Type 0 where
  pub grown : Grown d e
  pub stands : (env : Env) (y : plain.Term) (args : Args) (between below : List Piece) (s : RoutineIs env r y) → ReceiverThere s.base between below → PassedStands env (map parameter_view r.parameters.now) x args d.pieces between
      → ExprPushed (given_as env (indexed env place y (givens env args)) place) e.pieces below

-- the same behind such arguments
pub record PushesNamed (r : Routine) (x : Passed) (named : List ℕ) (place : Place) (d e : Drafted) : Type 0 where
  pub grown : Grown d e
  pub stands : (env : Env) (y : plain.Term) (args : Args) (between below : List Piece) (s : RoutineIs env r y) → ReceiverThere s.base between below → NamedPassed env (map parameter_view r.parameters.now) x named args d.pieces between
      → ExprPushed (given_as env (indexed env place y (givens env args)) place) e.pieces below

-- the arguments of a statement were pushed for these parameters; the last ones name theirs, here the last one first
pub record ReadsNamed (env : Env) (parameters : List Parameter) (ns : List ExpressionNode) (d e : Drafted) (x : Passed) (named : List ℕ) : Type 0 where
  pub grown : Grown d e
  pub framed : Framed ns
  pub stands : (items : List nodes.Item) → NamedPassed env parameters x (reverse named) (args_on items ns) e.pieces d.pieces

-- arguments that were pushed for these parameters, the last ones values for the ParamArray that the others leave first
pub record ValuesPassed (env : Env) (parameters : List Parameter) (x : Passed) (values : ℕ) (args : Args) (ps below : List Piece) : Type 0 where
  pub before : Args
  pub given : List Given
  pub givens_are : givens env args ≡ givens env before ++ given
  pub many : is_gathering (map parameter_view x.left.now) ≡ true
  pub made : List bound.Expr
  pub taken : AllListed (argument_of env type.variant) given made
  pub count_is : length made ≡ values
  pub between : List Piece
  pub on_top : ps ≡ above (map an_expr made) between
  pub passed : PassedStands env parameters x before between below

-- the same behind such arguments
pub record PushesValues (r : Routine) (x : Passed) (values : ℕ) (place : Place) (d e : Drafted) : Type 0 where
  pub grown : Grown d e
  pub stands : (env : Env) (y : plain.Term) (args : Args) (between below : List Piece) (s : RoutineIs env r y) → ReceiverThere s.base between below → ValuesPassed env (map parameter_view r.parameters.now) x values args d.pieces between
      → ExprPushed (given_as env (indexed env place y (givens env args)) place) e.pieces below
