-- Serves the code: places and values that are assigned to.
use Rattle.std.specs.Prelude.{◌≡◌, ℕ, Bool, true, false, ◌||◌, List, [], ◌∷◌, Option, Some, None, if◌then◌else◌}
use Rattle.vba_base.specs.declared.place.Place.{Place}
use Rattle.bound_project.specs.declared.node.NodeKind.{NodeKind}
use Rattle.bound_project.specs.declared.node.NodeKind.TheVariants as kinds
use Rattle.bound_project.specs.declared.statement.ActionKind.{ActionKind}
use Rattle.bound_project.specs.declared.statement.ActionKind.TheVariants as action
use Rattle.vba_values.specs.Types.{Declared}
use Rattle.vba_values.specs.Types as type
use Rattle.bound_project.specs.Project.{Declarations}
use Rattle.bound_project.specs.View.{declared_view}
use Rattle.bound_project.specs.Expressions.{element_value, late_item, library, this, no_exprs, also}
use Rattle.bound_project.specs.Expressions as bound
use Rattle.bound_project.specs.Pieces.{Piece, Tables, an_expr}
use Rattle.bound_project.specs.Drafts.{Drafted, ActionNamed}
use Rattle.bound_members.specs.bound_calls.specs.bound_declarations.specs.constant_values.specs.declared_names.specs.binder.specs.Types.{is_object}
use Rattle.bound_members.specs.bound_calls.specs.bound_declarations.specs.constant_values.specs.declared_names.specs.binder.specs.Constants.{is_variant}
use Rattle.bound_members.specs.bound_calls.specs.bound_forms.specs.Terms.{Env, expression_of}
use Rattle.bound_members.specs.bound_calls.specs.bound_forms.specs.Terms as plain
use Rattle.bound_members.specs.bound_calls.specs.bound_forms.specs.ClassDefaults.{declared_in}
use Rattle.bound_members.specs.bound_calls.specs.bound_forms.specs.ClassDefaults as defaults
use Rattle.bound_members.specs.bound_calls.specs.bound_forms.specs.Operands.{has_object, is_found_late, is_of_class}
use Rattle.bound_members.specs.bound_calls.specs.bound_forms.specs.Targets.{assigned, broken_target, class_written_or_broken, default_written, has_written_default, is_indexed_late, value_written}
use Rattle.bound_members.specs.bound_calls.specs.class_defaults.specs.Known.{known_view}
use Rattle.bound_members.specs.bound_calls.specs.class_defaults.specs.declared.known.Known.{Known}
use Rattle.bound_members.specs.bound_calls.specs.declared.term.Ending.{Ending}
use Rattle.bound_members.specs.bound_calls.specs.declared.term.Term.{Term}
use Rattle.bound_members.specs.bound_calls.specs.declared.term.Term.TheVariants as term
use Rattle.bound_members.specs.bound_calls.specs.References.{IsFoundLate, is_typed_kind}
use Rattle.bound_members.specs.bound_calls.specs.Standing.{TermStands, ValueEnds, Grown}
use Rattle.statement_terms.specs.Called.{ActionIs, MayBe}
use Rattle.bound_members.specs.bound_calls.specs.bound_declarations.specs.constant_values.specs.declared_names.specs.binder.specs.Classes.{has_class}

-- the last node of a value, other than an element, that may give an object
abbrev pub ends_value : NodeKind → Bool
ends_value kinds.Load = true
ends_value kinds.LoadMade = true
ends_value (kinds.Method p count) = true
ends_value (kinds.MethodInOrder p count order) = true
ends_value (kinds.FieldValue i) = true
ends_value (kinds.Call p count) = true
ends_value (kinds.CallInOrder p count order) = true
ends_value (kinds.Library f text_form count compare one) = true
ends_value (kinds.HostMember i count) = true
ends_value (kinds.NamedMember i by count) = true
ends_value (kinds.HostObject reference) = true
ends_value kinds.ActiveSheet = true
ends_value (kinds.Marked broken count) = true
ends_value kind = false

-- the last node of what arguments lead to in a value, as the run says
abbrev pub is_item_along : NodeKind → Bool
is_item_along (kinds.ItemAlong count) = true
is_item_along kind = false

-- how many arguments lead to a place from another one, where the run says what they lead to
abbrev pub numbers_along : NodeKind → Option ℕ
numbers_along (kinds.ElementAlong count) = Some count
numbers_along kind = None

-- how the default member of an object is written that may be one of a class, or not
abbrev pub default_kind : (through : Bool) → ActionKind
default_kind true = action.AssignThrough
default_kind false = action.AssignDefault

-- a value that is an object, or that may be one and is no element; no use of a function of the library and not Me, to which
-- nothing is assigned, and nothing that arguments lead to in the run
abbrev pub gives_object : bound.Node → Declared → Bool
gives_object (late_item e es) of = false
gives_object (element_value e es) of = is_object of
gives_object (library f text_form es compare base) of = false
gives_object this of = false
gives_object node of = is_object of || has_object node of

abbrev pub EndsObject : Ending → Type 0
EndsObject e = (t : Tables) (made : bound.Node) (ps below : List Piece) → ValueEnds t e.kind made ps below → gives_object made (declared_view e.of) ≡ true

-- the last node of a use of a function of the library, and Me: nothing is assigned to these
abbrev pub is_kept : NodeKind → Bool
is_kept (kinds.Library f text_form count compare one) = true
is_kept kinds.This = true
is_kept kind = false

-- the last node of a value
abbrev pub is_value_kind : NodeKind → Bool
is_value_kind (kinds.HostObject reference) = true
is_value_kind kind = is_typed_kind kind

-- the last node of what can't be assigned to: a constant, what Err tells, what is called, a field of what that gives, and what
-- breaks a rule
abbrev pub ends_unassignable : NodeKind → Bool
ends_unassignable (kinds.Constant i) = true
ends_unassignable (kinds.ErrValue _) = true
ends_unassignable (kinds.Library f text_form count compare one) = true
ends_unassignable (kinds.Call p count) = true
ends_unassignable (kinds.CallInOrder p count order) = true
ends_unassignable (kinds.Method p count) = true
ends_unassignable (kinds.MethodInOrder p count order) = true
ends_unassignable (kinds.FieldValue i) = true
ends_unassignable (kinds.Marked broken count) = true
ends_unassignable kind = false

-- a value that is no object, and can be none
abbrev pub EndsValue : Ending → Type 0
EndsValue e = (t : Tables) (made : bound.Node) (ps below : List Piece) → ValueEnds t e.kind made ps below → (is_object (declared_view e.of) || has_object made (declared_view e.of)) ≡ false

-- what is known of an assignment to the default member of an object of no class, by the rule that breaks
abbrev pub kind_known : (rule : Option ℕ) → Declared → defaults.Known
kind_known (Some rule) of = defaults.breaks rule
kind_known None of = if has_written_default of then defaults.known type.variant else defaults.not_said

-- what is known of an assignment to the default member of an object, in a project that declares this
abbrev pub WrittenIs : (all : Declarations) → Ending → Known → Type 0
WrittenIs all e found =
    (env : Env) (t : Tables) (made : bound.Node) (place : Place) (value : bound.Expr) (ps below : List Piece) → declared_in env.scope ≡ all → ValueEnds t e.kind made ps below
    → default_written env place made (declared_view e.of) value ≡ class_written_or_broken env (known_view found) place (expression_of made place (declared_view e.of)) value

-- a value that breaks this rule where it is assigned to at this place, in a project that declares this
abbrev pub EndsWrong : (all : Declarations) → Ending → (rule : ℕ) → Place → Type 0
EndsWrong all e rule place =
    (env : Env) (t : Tables) (made : bound.Node) (value : bound.Expr) (ps below : List Piece) → declared_in env.scope ≡ all → ValueEnds t e.kind made ps below
    → value_written env place value made (declared_view e.of) ≡ Some (broken_target rule place value (also (expression_of made place (declared_view e.of)) no_exprs))

-- a value is an element with so many numbers, and no object
pub record EndsItem (e : Ending) (count : ℕ) : Type 0 where
  pub kind_is : e.kind ≡ kinds.ElementValue count
  pub no_object : is_object (declared_view e.of) ≡ false

-- what brackets made of a term is assigned the value that was pushed below it, in a project that declares this
pub record AssignsIndexed (all : Declarations) (has : Bool) (may : Option Bool) (place : Place) (x : Term) (d e : Drafted) (kind : ActionKind) : Type 0 where
  pub grown : Grown d e
  pub named : ActionNamed e.tables kind
  pub stands : (env : Env) → has_class env.scope.spaces ≡ has → declared_in env.scope ≡ all → (z : plain.Term) (value : bound.Expr) → MayBe env may value → TermStands env d.tables x z d.pieces (an_expr value ∷ [])
      → ActionIs kind (assigned env place value [] z) e.tables e.pieces

-- whether the run says what arguments lead to that index a value whose last node isn't pushed, in a project with a class or
-- without; and the same of a term
abbrev pub EndsLate : (has : Bool) → Tables → Ending → (late : Bool) → Type 0
EndsLate has t e late = (env : Env) (made : bound.Node) (place : Place) (ps below : List Piece) → has_class env.scope.spaces ≡ has → ValueEnds t e.kind made ps below
    → (is_variant (declared_view e.of) || (is_of_class (declared_view e.of) || is_found_late env (expression_of made place (declared_view e.of)))) ≡ late

abbrev pub IndexedLate : (has : Bool) → Tables → Term → (late : Bool) → Type 0
IndexedLate has t x late = (env : Env) (place : Place) (z : plain.Term) (ps below : List Piece) → has_class env.scope.spaces ≡ has → TermStands env t x z ps below → is_indexed_late env place z ≡ late

-- a term is a value in which arguments lead on as the run says
pub record IsLateValue (has : Bool) (t : Tables) (x : Term) (e : Ending) : Type 0 where
  pub is : x ≡ term.Value e
  pub late : IsFoundLate has t e true
