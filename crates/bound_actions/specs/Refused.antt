-- Serves the code: members of objects that are written or set with arguments that they don't take.
use Rattle.std.specs.Prelude.{◌≡◌, List, [], ◌∷◌}
use Rattle.vba_base.specs.declared.place.Place.{Place}
use Rattle.vba_expression.specs.Nodes as nodes
use Rattle.vba_expression.specs.declared.node.ExpressionNode.{ExpressionNode}
use Rattle.bound_project.specs.declared.statement.ActionKind.{ActionKind}
use Rattle.bound_project.specs.Drafts.{ActionNamed, Drafted}
use Rattle.bound_project.specs.Expressions as bound
use Rattle.bound_project.specs.Pieces.{an_expr}
use Rattle.bound_terms.specs.bound_accesses.specs.bound_names.specs.bound_members.specs.bound_calls.specs.bound_forms.specs.Terms.{Env, a_host_member}
use Rattle.bound_terms.specs.bound_accesses.specs.bound_names.specs.bound_members.specs.bound_calls.specs.bound_forms.specs.ExpressionsBound.{givens, indexed}
use Rattle.bound_terms.specs.bound_accesses.specs.bound_names.specs.bound_members.specs.bound_calls.specs.bound_forms.specs.Targets.{member_written, set_to}
use Rattle.bound_terms.specs.bound_accesses.specs.bound_names.specs.bound_members.specs.bound_calls.specs.declared.term.HostMember.{HostMember}
use Rattle.bound_terms.specs.bound_accesses.specs.bound_names.specs.bound_members.specs.bound_calls.specs.Standing.{Grown, member_is}
use Rattle.statement_terms.specs.Called.{ActionIs, Framed, args_on}

-- a member of the object that was pushed is assigned the value below that, with arguments by their nodes, and breaks a rule
pub record RefusesWritten (env : Env) (place : Place) (m : HostMember) (ns : List ExpressionNode) (d e : Drafted) (kind : ActionKind) : Type 0 where
  pub grown : Grown d e
  pub named : ActionNamed e.tables kind
  pub framed : Framed ns
  pub does : (items : List nodes.Item) (object value : bound.Expr) → d.pieces ≡ an_expr object ∷ an_expr value ∷ []
      → ActionIs kind (member_written env place object (member_is d.tables m) (givens env (args_on items ns)) value) e.tables e.pieces

-- the same where it is set to the reference below it
pub record RefusesSet (env : Env) (word place : Place) (m : HostMember) (ns : List ExpressionNode) (d e : Drafted) (kind : ActionKind) : Type 0 where
  pub grown : Grown d e
  pub named : ActionNamed e.tables kind
  pub framed : Framed ns
  pub does : (items : List nodes.Item) (object value : bound.Expr) → d.pieces ≡ an_expr object ∷ an_expr value ∷ []
      → ActionIs kind (set_to env word place (indexed env place (a_host_member object (member_is d.tables m)) (givens env (args_on items ns))) value) e.tables e.pieces
