-- Serves the code: what is given a reference to an object.
use Rattle.std.specs.Prelude.{◌≡◌, Bool, true, false, not, is_some, List, [], ◌∷◌, Option, Some, if◌then◌else◌}
use Rattle.vba_base.specs.declared.place.Place.{Place}
use Rattle.vba_expression.specs.Tree.{Expr}
use Rattle.bound_project.specs.declared.node.NodeKind.{NodeKind}
use Rattle.bound_project.specs.declared.node.NodeKind.TheVariants as kinds
use Rattle.bound_project.specs.declared.statement.ActionKind.{ActionKind}
use Rattle.bound_project.specs.Drafts.{ActionNamed, Drafted}
use Rattle.bound_project.specs.Expressions as bound
use Rattle.bound_project.specs.Pieces.{Tables, an_expr, name_in}
use Rattle.bound_project.specs.Statements.{Action}
use Rattle.bound_members.specs.bound_calls.specs.bound_forms.specs.Terms.{Env, Given, a_host_member, a_method, a_routine}
use Rattle.bound_members.specs.bound_calls.specs.bound_forms.specs.Terms as plain
use Rattle.bound_members.specs.bound_calls.specs.bound_forms.specs.Operands.{alone, is_value_name, place_told}
use Rattle.bound_members.specs.bound_calls.specs.bound_forms.specs.ExpressionsBound.{indexed}
use Rattle.bound_members.specs.bound_calls.specs.bound_declarations.specs.constant_values.specs.declared_names.specs.binder.specs.Signatures.{is_property}
use Rattle.bound_members.specs.bound_calls.specs.bound_forms.specs.Targets.{broken_target, is_sub, set_alone, set_to, sub_object, target_of_call, object_set}
use Rattle.bound_members.specs.bound_calls.specs.declared.term.Term.{Term}
use Rattle.bound_members.specs.bound_calls.specs.Standing.{Grown, TermStands}
use Rattle.statement_terms.specs.Called.{ActionIs}
use Rattle.statement_terms.specs.Targets.{ends_unassignable}

-- the node of what breaks a rule
abbrev pub is_marked : NodeKind → Bool
is_marked (kinds.Marked broken count) = true
is_marked kind = false

-- the last node of what is never set
abbrev pub ends_unset : Tables → NodeKind → Bool
ends_unset t kinds.This = true
ends_unset t (kinds.HostObject reference) = true
ends_unset t kinds.ActiveSheet = true
ends_unset t (kinds.HostMember i count) = not (is_value_name (name_in t i))
ends_unset t (kinds.NamedMember i by count) = not (is_value_name (name_in t i))
ends_unset t (kinds.LateMember m) = not (is_value_name (name_in t m.name))
ends_unset t kind = ends_unassignable kind

-- a term at this place is set to the reference that was pushed below it, by a Set with its word at another
pub record SetsTerm (word place : Place) (x : Term) (d e : Drafted) (kind : ActionKind) : Type 0 where
  pub grown : Grown d e
  pub named : ActionNamed e.tables kind
  pub stands : (env : Env) (y : plain.Term) (value : bound.Expr) → TermStands env d.tables x y d.pieces (an_expr value ∷ []) → ActionIs kind (set_to env word place y value) e.tables e.pieces

-- the same of what it is without arguments
pub record SetsAlone (word place : Place) (x : Term) (d e : Drafted) (kind : ActionKind) : Type 0 where
  pub grown : Grown d e
  pub named : ActionNamed e.tables kind
  pub stands : (env : Env) (y : plain.Term) (value : bound.Expr) → TermStands env d.tables x y d.pieces (an_expr value ∷ []) → ActionIs kind (set_alone word place (alone env place y) value) e.tables e.pieces

-- what stands before arguments, which are looked at where it is no member that is found in the run, and no property
abbrev pub set_with : Env → Place → List Given → plain.Term → plain.Term
set_with env place gs (a_host_member e m) = if is_some m.greatest then indexed env place (a_host_member e m) gs else a_host_member e m
set_with env place gs (a_routine space number p) = if is_property p.kind then a_routine space number p else indexed env place (a_routine space number p) gs
set_with env place gs (a_method object space number p) = if is_property p.kind then a_method object space number p else indexed env place (a_method object space number p) gs
set_with env place gs t = indexed env place t gs

-- one without arguments, by what it is
abbrev pub set_bare : Env → Place → plain.Term → plain.Term
set_bare env place (a_routine space number p) = if is_property p.kind then a_routine space number p else alone env place (a_routine space number p)
set_bare env place (a_method object space number p) = if is_property p.kind then a_method object space number p else alone env place (a_method object space number p)
set_bare env place t = t

-- what is done with a reference that an expression is set to
abbrev pub set_there : Env → (word : Place) → Expr → bound.Expr → Option Action
set_there env word x v = if is_sub (target_of_call env x) then Some (broken_target 27 (place_told x) v (sub_object (target_of_call env x))) else object_set env word x v

-- an expression is set to the reference that was pushed
pub record SetsTo (word : Place) (env : Env) (place : Expr) (d e : Drafted) (kind : ActionKind) : Type 0 where
  pub grown : Grown d e
  pub named : ActionNamed e.tables kind
  pub stands : (value : bound.Expr) → d.pieces ≡ an_expr value ∷ [] → ActionIs kind (set_there env word place value) e.tables e.pieces
