-- Serves the code: events that are raised.
use Rattle.std.specs.Prelude.{◌≡◌, ℕ, zero, suc, List, []}
use Rattle.vba_base.specs.declared.place.Place.{Place}
use Rattle.vba_expression.specs.Nodes as nodes
use Rattle.vba_expression.specs.declared.node.ExpressionNode.{ExpressionNode}
use Rattle.bound_project.specs.declared.statement.ActionKind.{ActionKind}
use Rattle.bound_project.specs.Drafts.{ActionNamed, Drafted}
use Rattle.bound_project.specs.Project as project
use Rattle.bound_terms.specs.bound_accesses.specs.bound_names.specs.bound_members.specs.bound_calls.specs.bound_forms.specs.Terms.{Env, Given}
use Rattle.bound_terms.specs.bound_accesses.specs.bound_names.specs.bound_members.specs.bound_calls.specs.bound_forms.specs.ExpressionsBound.{givens}
use Rattle.bound_terms.specs.bound_accesses.specs.bound_names.specs.bound_members.specs.bound_calls.specs.bound_forms.specs.StatementsBound.{event_with}
use Rattle.bound_terms.specs.bound_accesses.specs.bound_names.specs.bound_members.specs.bound_calls.specs.Standing.{Grown}
use Rattle.bound_terms.specs.bound_accesses.specs.bound_names.specs.bound_members.specs.bound_calls.specs.declared.term.Passed.{Passed}
use Rattle.bound_terms.specs.bound_operands.specs.Gathering.{PassesGathered}
use Rattle.statement_terms.specs.Called.{ActionIs, Framed, RestPushed, args_on}

-- what the parameters have behind arguments, of which so many are values for a ParamArray, was pushed
abbrev pub LeftPushed : Passed → (values : ℕ) → (d e : Drafted) → (arguments : ℕ) → Type 0
LeftPushed x zero d e arguments = (written : ℕ) × RestPushed x d e written arguments
LeftPushed x (suc n) d e arguments = PassesGathered x (suc n) d e arguments

-- an event with these parameters was raised with what is given
abbrev pub an_event_with : List project.Parameter → project.DeclaredEvent
an_event_with ps = record { name = project.no_name; parameters = ps }

pub record Raises (env : Env) (event : ℕ) (ps : List project.Parameter) (place : Place) (gs : List Given) (d e : Drafted) (kind : ActionKind) : Type 0 where
  pub grown : Grown d e
  pub named : ActionNamed e.tables kind
  pub stands : d.pieces ≡ [] → ActionIs kind (event_with env place gs (event, an_event_with ps)) e.tables e.pieces

-- the same by the nodes of its arguments
pub record RaisesOn (env : Env) (event : ℕ) (ps : List project.Parameter) (place : Place) (ns : List ExpressionNode) (d e : Drafted) (kind : ActionKind) : Type 0 where
  pub framed : Framed ns
  pub raises : (items : List nodes.Item) → Raises env event ps place (givens env (args_on items ns)) d e kind

-- the same without arguments, in any place
abbrev pub RaisesWith : (event : ℕ) → List project.Parameter → Place → (d e : Drafted) → ActionKind → Type 0
RaisesWith event ps place d e kind = (env : Env) → Raises env event ps place [] d e kind
