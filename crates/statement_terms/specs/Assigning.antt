-- Serves the code: the value of an assignment.
use Rattle.std.specs.Prelude.{◌≡◌, Bool, true, false, not, List, ◌∷◌, Option, Some, None, if◌then◌else◌}
use Rattle.vba_base.specs.declared.place.Place.{Place}
use Rattle.vba_expression.specs.Tree.{Expr}
use Rattle.bound_project.specs.declared.declared_type.DeclaredType.{DeclaredType}
use Rattle.bound_project.specs.Expressions as bound
use Rattle.bound_project.specs.View.{declared_view}
use Rattle.bound_members.specs.bound_calls.specs.bound_declarations.specs.constant_values.specs.declared_names.specs.binder.specs.Types.{is_object}
use Rattle.bound_project.specs.Drafts.{Drafted}
use Rattle.bound_project.specs.Pieces.{Piece, an_expr}
use Rattle.bound_members.specs.bound_calls.specs.bound_forms.specs.Terms.{Env}
use Rattle.bound_members.specs.bound_calls.specs.bound_forms.specs.Terms as plain
use Rattle.bound_members.specs.bound_calls.specs.bound_forms.specs.Operands.{given_as, operand_of, place_told}
use Rattle.bound_members.specs.bound_calls.specs.bound_forms.specs.ExpressionsBound.{term_of}
use Rattle.bound_members.specs.bound_calls.specs.declared.term.Term.{Term}
use Rattle.bound_members.specs.bound_calls.specs.declared.term.Term.TheVariants as term
use Rattle.bound_members.specs.bound_calls.specs.declared.term.Tree.{Tree}
use Rattle.bound_members.specs.bound_calls.specs.Standing.{TermStands, TreeStands, PushedIs, Grown}
use Rattle.statement_terms.specs.Called.{MayBe}
use Rattle.statement_terms.specs.Terms.{may_be_object}
use Rattle.bound_members.specs.bound_calls.specs.bound_declarations.specs.constant_values.specs.declared_names.specs.binder.specs.Classes.{has_class}

-- an expression that was pushed
pub record ExprPushed (found : Option bound.Expr) (ps below : List Piece) : Type 0 where
  pub made : bound.Expr
  pub is : found ≡ Some made
  pub on_top : ps ≡ an_expr made ∷ below

-- what is assigned was pushed, and its type, and whether it may be an object of a class, where that is known
pub record AssignedPushed (env : Env) (may : Option Bool) (of : DeclaredType) (found : Option bound.Expr) (ps below : List Piece) : Type 0 where
  pub pushed : PushedIs of found ps below
  pub known : MayBe env may pushed.made

-- a place or a value that is no object and can be none
abbrev pub is_plain : Term → Bool
is_plain (term.Place kind of bounds lends makes) = not (may_be_object of)
is_plain (term.Value e) = not (may_be_object e.of)
is_plain x = false

-- the value of an assignment, by whether the target takes it as it is
abbrev pub taken_for : Bool → Env → plain.Term → Place → Option bound.Expr
taken_for true env t place = given_as env t place
taken_for false env t place = operand_of env t place

-- whether an operand of a type may be an object of a class: that isn't known where a default member gives an object
abbrev pub operand_may : DeclaredType → Option Bool
operand_may of = if is_object (declared_view of) then None else Some false

-- its type, and whether it may be an object of a class
pub record PushesFor (has : Bool) (may : Option Bool) (given : Bool) (x : Tree) (d e : Drafted) (of : DeclaredType) : Type 0 where
  pub grown : Grown d e
  pub stands : (env : Env) → has_class env.scope.spaces ≡ has → (tree : Expr) (below : List Piece) → TreeStands env d.tables x tree d.pieces below
      → AssignedPushed env may of (taken_for given env (term_of env tree) (place_told tree)) e.pieces below

-- a value was pushed for an expression that it is assigned to, as it is or as an operand; and one that is marked where that doesn't take it
pub record ValueBound (env : Env) (may : Option Bool) (of : DeclaredType) (found : Option bound.Expr) (d e : Drafted) : Type 0 where
  pub grown : Grown d e
  pub pushed : AssignedPushed env may of found e.pieces d.pieces

pub record ValueFor (env : Env) (may : Option Bool) (found : Option bound.Expr) (d e : Drafted) : Type 0 where
  pub grown : Grown d e
  pub pushed : ExprPushed found e.pieces d.pieces
  pub known : MayBe env may pushed.made

-- what is known of a value that was marked where it isn't taken
abbrev pub marked_may : (may : Option Bool) → Option Bool
marked_may (Some false) = Some false
marked_may may = None

-- a term was pushed as it is
pub record GivenPushed (x : Term) (place : Place) (d e : Drafted) : Type 0 where
  pub grown : Grown d e
  pub stands : (env : Env) (y : plain.Term) (below : List Piece) → TermStands env d.tables x y d.pieces below → ExprPushed (given_as env y place) e.pieces below
