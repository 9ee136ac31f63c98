-- Serves the code: what takes the value of an assignment.
use Rattle.std.specs.Prelude.{◌≡◌, ◌==◌, Bool, true, false, not, List, Option, Some, None, option_map}
use Rattle.vba_base.specs.declared.place.Place.{Place}
use Rattle.vba_values.specs.Types.{Declared}
use Rattle.vba_values.specs.Types as type
use Rattle.bound_project.specs.declared.declared_type.DeclaredType.{DeclaredType}
use Rattle.bound_project.specs.declared.declared_type.DeclaredType.TheVariants.{Plain}
use Rattle.bound_project.specs.declared.declared_type.ElementType.TheVariants.{Variant}
use Rattle.bound_project.specs.Drafts.{Drafted}
use Rattle.bound_project.specs.Expressions as bound
use Rattle.bound_project.specs.Pieces.{Piece}
use Rattle.bound_project.specs.View.{declared_view}
use Rattle.bound_members.specs.bound_calls.specs.bound_forms.specs.Terms.{Env, given_to}
use Rattle.bound_members.specs.bound_calls.specs.bound_forms.specs.Terms as plain
use Rattle.bound_members.specs.bound_calls.specs.bound_forms.specs.Targets.{given_to_term}
use Rattle.bound_members.specs.bound_calls.specs.declared.term.Term.{Term}
use Rattle.bound_members.specs.bound_calls.specs.declared.term.Term.TheVariants as term
use Rattle.bound_members.specs.bound_calls.specs.Standing.{Grown, PushedIs}
use Rattle.statement_terms.specs.declared.takers.Taker.{Taker}
use Rattle.statement_terms.specs.Assigning.{ExprPushed}

-- what takes a value that a term is assigned, which is no procedure
abbrev pub variant_taker : Taker
variant_taker = record { of = Plain Variant; is_bounded = false }

abbrev pub taker_of : Term → Option Taker
taker_of (term.Place kind of bounds lends makes) = Some (record { of = of; is_bounded = not (bounds == 0) })
taker_of (term.HostMember m) = Some variant_taker
taker_of (term.SheetMember m) = Some variant_taker
taker_of x = None

-- a value as it is taken
abbrev pub given_by : Option Taker → Place → bound.Expr → bound.Expr
given_by None place v = v
given_by (Some x) place v = given_to (declared_view x.of) x.is_bounded place v

-- a term has what is assigned to it taken by this
abbrev pub TakenBy : Env → plain.Term → Option Taker → Type 0
TakenBy env t taker = (place : Place) (v : bound.Expr) → given_to_term env t place v ≡ given_by taker place v

-- a type of values that aren't taken everywhere
abbrev pub may_break : Declared → Bool
may_break (type.udt number) = true
may_break (type.array_of of) = true
may_break of = false

-- a value of a type, which was pushed, was marked where it isn't taken
pub record MarksTaken (taker : Option Taker) (place : Place) (given : DeclaredType) (d e : Drafted) : Type 0 where
  pub grown : Grown d e
  pub stands : (found : Option bound.Expr) (below : List Piece) → PushedIs given found d.pieces below → ExprPushed (option_map (given_by taker place) found) e.pieces below
