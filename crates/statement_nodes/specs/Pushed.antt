-- Serves the code: statements whose nodes were pushed.
use Rattle.std.specs.Prelude.{◌≡◌, ◌∷◌, Option, Some, None}
use Rattle.bound_project.specs.declared.statement.ActionKind.{ActionKind}
use Rattle.bound_project.specs.Expressions.{Lvalue}
use Rattle.bound_project.specs.Pieces.{a_place}
use Rattle.bound_project.specs.Statements.{Action}
use Rattle.bound_project.specs.Bodies.{action_of}
use Rattle.bound_project.specs.Drafts.{Drafted, ActionNamed}
use Rattle.bound_calls.specs.Standing.{Grown}

-- what a statement does, and that it is what its nodes say, which are all that stand there
pub record ActionPushed (kind : ActionKind) (found : Option Action) (d e : Drafted) : Type 0 where
  pub statements : e.statements ≡ d.statements
  pub bodies : e.bodies ≡ d.bodies
  pub named : ActionNamed e.tables kind
  pub made : Action
  pub is : found ≡ Some made
  pub fits : action_of e.tables kind e.pieces ≡ Some made

-- without a kind the statement isn't bound
abbrev pub ActionStands : Option ActionKind → Option Action → (d e : Drafted) → Type 0
ActionStands None found d e = found ≡ None
ActionStands (Some kind) found d e = ActionPushed kind found d e

-- a place was pushed
pub record PlacePushed (found : Option Lvalue) (d e : Drafted) : Type 0 where
  pub grown : Grown d e
  pub made : Lvalue
  pub is : found ≡ Some made
  pub on_top : e.pieces ≡ a_place made ∷ d.pieces
