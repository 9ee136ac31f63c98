-- Serves the code: late-bound members that are assigned to and set.
use Rattle.std.specs.Prelude.{◌≡◌, ◌==◌, Bool, true, ◌&&◌, ◌||◌, not, List, [], ◌∷◌, Option, Some, if◌then◌else◌}
use Rattle.vba_base.specs.declared.place.Place.{Place}
use Rattle.vba_expression.specs.Tree.{Args, Expr}
use Rattle.bound_project.specs.declared.node.LateName.{LateName}
use Rattle.bound_project.specs.declared.node.LateUse.{LateUse}
use Rattle.bound_project.specs.declared.statement.ActionKind.{ActionKind}
use Rattle.bound_project.specs.Drafts.{ActionNamed, Drafted, LateNamed}
use Rattle.bound_project.specs.Expressions as bound
use Rattle.bound_project.specs.Pieces.{Piece, a_late, an_expr, name_in, sought_in}
use Rattle.bound_members.specs.bound_calls.specs.bound_forms.specs.ExpressionsBound.{givens}
use Rattle.bound_members.specs.bound_calls.specs.bound_forms.specs.Targets.{set_by}
use Rattle.bound_members.specs.bound_calls.specs.bound_forms.specs.Terms.{Env, a_host_member, no_names}
use Rattle.bound_members.specs.bound_calls.specs.bound_forms.specs.Terms as plain
use Rattle.bound_members.specs.bound_calls.specs.declared.term.HostMember.{HostMember}
use Rattle.bound_members.specs.bound_calls.specs.declared.term.MemberCall.{MemberCall}
use Rattle.bound_members.specs.bound_calls.specs.declared.term.Term.TheVariants as term
use Rattle.bound_members.specs.bound_calls.specs.Standing.{Grown, MemberStands, TermStands, member_is}
use Rattle.statement_terms.specs.Called.{ActionIs}

-- whether the run looks for a member that is assigned to without arguments: it finds the member, or the value may be an object
-- of a class
abbrev pub is_written_late : (late : Bool) → (may : Option Bool) → Option Bool
is_written_late late may = if late then Some true else may

-- the object whose late-bound member is looked up without arguments
pub record LooksLate (m : HostMember) (aim : LateUse) (d e : Drafted) (found : LateName) : Type 0 where
  pub grown : Grown d e
  pub named : LateNamed e.tables found
  pub sought : sought_in e.tables aim found ≡ record { aim = aim; name = name_in d.tables m.name; by = no_names; given = [] }
  pub none : found.arguments ≡ 0
  pub stands : (object : bound.Expr) (below : List Piece) → d.pieces ≡ an_expr object ∷ below → e.pieces ≡ a_late object (sought_in e.tables aim found) ∷ below

-- the run looks for a member with arguments that is given the value with them
pub record IsGivenLate (x : MemberCall) : Type 0 where
  pub called : (x.member.is_late || (x.has_class && not (x.count == 0))) ≡ true
  pub given : (x.member.is_late || (x.named == 0)) ≡ true

-- a member that the run finds is set to the reference below its object, without arguments
pub record SetsLate (m : HostMember) (d e : Drafted) (kind : ActionKind) : Type 0 where
  pub grown : Grown d e
  pub named : ActionNamed e.tables kind
  pub stands : (env : Env) (place : Place) (y : plain.Term) (value : bound.Expr) → TermStands env d.tables (term.HostMember m) y d.pieces (an_expr value ∷ [])
      → ActionIs kind (set_by env place [] y value) e.tables e.pieces

-- and with those that were pushed
pub record SetsCall (x : MemberCall) (d : Drafted) (kind : ActionKind) : Type 0 where
  pub named : ActionNamed d.tables kind
  pub stands : (env : Env) (place : Place) (base : Expr) (args : Args) (value : bound.Expr) (s : MemberStands env d.tables x base args d.pieces (an_expr value ∷ []))
      → ActionIs kind (set_by env place (givens env args) (a_host_member s.object (member_is d.tables x.member)) value) d.tables d.pieces
