-- Serves the code: what can't be assigned to, and what isn't set.
use Rattle.std.specs.Prelude.{◌≡◌, ℕ, Bool, true, false, List, [], ◌∷◌, Option, Some, None, is_some, if◌then◌else◌}
use Rattle.vba_base.specs.declared.place.Place.{Place}
use Rattle.vba_expression.specs.Tree.{Expr}
use Rattle.bound_project.specs.declared.statement.ActionKind.{ActionKind}
use Rattle.bound_project.specs.Bodies.{action_of}
use Rattle.bound_project.specs.Drafts.{ActionNamed, Drafted}
use Rattle.bound_project.specs.Expressions.{no_exprs, also}
use Rattle.bound_project.specs.Statements.{Action}
use Rattle.bound_project.specs.View.{declared_view}
use Rattle.bound_project.specs.declared.declared_type.DeclaredType.{DeclaredType}
use Rattle.vba_values.specs.Types.{Declared}
use Rattle.bound_project.specs.Expressions as bound
use Rattle.bound_project.specs.Pieces.{Piece, Tables, an_expr}
use Rattle.declared_names.specs.binder.specs.Declarations.{Own, Written, a_parameter}
use Rattle.declared_names.specs.binder.specs.Scopes.{Meant, Space, of_procedure}
use Rattle.declared_names.specs.binder.specs.Signatures.{is_property}
use Rattle.bound_terms.specs.bound_accesses.specs.bound_names.specs.bound_members.specs.bound_calls.specs.bound_forms.specs.Terms.{Env, a_method, a_routine, routine_term}
use Rattle.bound_terms.specs.bound_accesses.specs.bound_names.specs.bound_members.specs.bound_calls.specs.bound_forms.specs.Terms as plain
use Rattle.bound_terms.specs.bound_accesses.specs.bound_names.specs.bound_members.specs.bound_calls.specs.bound_forms.specs.Operands.{alone, behind_base}
use Rattle.bound_terms.specs.bound_accesses.specs.bound_names.specs.bound_members.specs.bound_calls.specs.bound_forms.specs.Targets.{broken_target, is_sub, may_refer, no_reference, property_type, set_to, sub_object}
use Rattle.bound_terms.specs.bound_accesses.specs.bound_names.specs.bound_members.specs.bound_calls.specs.declared.term.Receiver.{Receiver}
use Rattle.bound_terms.specs.bound_accesses.specs.bound_names.specs.bound_members.specs.bound_calls.specs.declared.term.Routine.{Routine}
use Rattle.bound_terms.specs.bound_accesses.specs.bound_names.specs.bound_members.specs.bound_calls.specs.declared.term.Term.{Term}
use Rattle.bound_terms.specs.bound_accesses.specs.bound_names.specs.bound_members.specs.bound_calls.specs.declared.term.Term.TheVariants as term
use Rattle.bound_terms.specs.bound_accesses.specs.bound_names.specs.bound_members.specs.bound_calls.specs.Standing.{Grown, IsReceiver, ReceiverStands, RoutineStands, TermStands}
use Rattle.statement_terms.specs.Called.{ActionIs}

-- a term is a Sub, or it is none; and the same of a property
abbrev pub IsSub : Term → Bool → Type 0
IsSub x sub = (env : Env) (t : Tables) (y : plain.Term) (ps below : List Piece) → TermStands env t x y ps below → is_sub y ≡ sub

abbrev pub is_property_term : plain.Term → Bool
is_property_term (a_routine space number p) = is_property p.kind
is_property_term (a_method base space number p) = is_property p.kind
is_property_term t = false

abbrev pub IsProperty : Term → Bool → Type 0
IsProperty x property = (env : Env) (t : Tables) (y : plain.Term) (ps below : List Piece) → TermStands env t x y ps below → is_property_term y ≡ property

-- whether what a name means is a ParamArray
abbrev pub owns_list : Own → Bool
owns_list (a_parameter p) = is_some p.param_array_word
owns_list own = false

abbrev pub means_list : Option Meant → Bool
means_list (Some (of_procedure number l)) = owns_list l.own
means_list meant = false

-- a term is no procedure that is read
abbrev pub NoRoutine : Term → Type 0
NoRoutine x = (r : Routine) → (x ≡ term.Routine r) → ⊥

-- S27: what can't be assigned to was marked, with the value, and with what a Sub is called of; nothing is pushed of another term
pub record RefusesTarget (x : Term) (place : Place) (d e : Drafted) (kind : ActionKind) : Type 0 where
  pub grown : Grown d e
  pub named : ActionNamed e.tables kind
  pub does : (env : Env) (y : plain.Term) (value : bound.Expr) → TermStands env d.tables x y d.pieces (an_expr value ∷ []) → (NoRoutine x → (d.pieces ≡ an_expr value ∷ []) × (sub_object y ≡ no_exprs))
      → action_of e.tables kind e.pieces ≡ Some (broken_target 27 place value (sub_object y))

-- what breaks this rule was marked, with the value and the object that a procedure is called of
pub record BreaksProcedure (r : Receiver) (rule : ℕ) (place : Place) (d e : Drafted) (kind : ActionKind) : Type 0 where
  pub grown : Grown d e
  pub named : ActionNamed e.tables kind
  pub does : (value : bound.Expr) (base : Option bound.Expr) → IsReceiver r base → ReceiverStands r base d.pieces (an_expr value ∷ [])
      → action_of e.tables kind e.pieces ≡ Some (broken_target rule place value (behind_base base no_exprs))

-- ---- properties that aren't set

-- a term is a property of this type, which is called of this; or it is none
pub record PropertyTyped (env : Env) (r : Receiver) (of : DeclaredType) (y : plain.Term) (ps below : List Piece) : Type 0 where
  pub base : Option bound.Expr
  pub space : Space
  pub number : ℕ
  pub written : Written
  pub is : y ≡ routine_term base space number written
  pub property : is_property written.kind ≡ true
  pub received : IsReceiver r base
  pub pushed : ReceiverStands r base ps below
  pub type_is : property_type env space number written ≡ declared_view of

abbrev pub TypesProperty : Env → Term → Option (Receiver × DeclaredType) → Type 0
TypesProperty env x None = IsProperty x false
TypesProperty env x (Some found) = (t : Tables) (y : plain.Term) (ps below : List Piece) → TermStands env t x y ps below → PropertyTyped env found.0 found.1 y ps below

-- a property of a type without a Set breaks a rule
abbrev pub unset_property : (word place : Place) → Option bound.Expr → Declared → bound.Expr → Action
unset_property word place base of v =
    if may_refer of then broken_target 27 place v (behind_base base no_exprs) else no_reference word (also v (behind_base base no_exprs))

pub record SetsProperty (word place : Place) (r : Receiver) (of : DeclaredType) (d e : Drafted) (kind : ActionKind) : Type 0 where
  pub grown : Grown d e
  pub named : ActionNamed e.tables kind
  pub does : (value : bound.Expr) (base : Option bound.Expr) → IsReceiver r base → ReceiverStands r base d.pieces (an_expr value ∷ [])
      → action_of e.tables kind e.pieces ≡ Some (unset_property word place base (declared_view of) value)

-- what a procedure gives that is called without arguments is set to the reference that was pushed
pub record SetsRoutine (word place : Place) (r : Routine) (d e : Drafted) (kind : ActionKind) : Type 0 where
  pub grown : Grown d e
  pub named : ActionNamed e.tables kind
  pub stands : (env : Env) (y : plain.Term) (value : bound.Expr) → RoutineStands env r y d.pieces (an_expr value ∷ []) → ActionIs kind (set_to env word place (alone env place y) value) e.tables e.pieces
