-- Serves the code: terms that may be objects, and terms that are variables.
use Rattle.std.specs.Prelude.{◌≡◌, Bool, ◌||◌, List, Option, Some, None}
use Rattle.bound_project.specs.declared.declared_type.DeclaredType.{DeclaredType}
use Rattle.bound_project.specs.declared.variable.Variable.{Variable}
use Rattle.bound_project.specs.View.{declared_view, variable_view}
use Rattle.bound_project.specs.Pieces.{Piece, Tables}
use Rattle.bound_members.specs.bound_calls.specs.bound_declarations.specs.constant_values.specs.declared_names.specs.binder.specs.Types.{is_object}
use Rattle.bound_members.specs.bound_calls.specs.bound_declarations.specs.constant_values.specs.declared_names.specs.binder.specs.Constants.{is_variant}
use Rattle.bound_members.specs.bound_calls.specs.bound_forms.specs.Terms.{Env}
use Rattle.bound_members.specs.bound_calls.specs.bound_forms.specs.Terms as plain
use Rattle.bound_members.specs.bound_calls.specs.bound_forms.specs.StatementsBound.{plain_variable}
use Rattle.bound_members.specs.bound_calls.specs.declared.term.Term.{Term}
use Rattle.bound_members.specs.bound_calls.specs.Standing.{TermStands}

-- a type of what may be an object
abbrev pub may_be_object : DeclaredType → Bool
may_be_object of = is_object (declared_view of) || is_variant (declared_view of)

-- a term is this variable, where there is one
abbrev pub IsVariable : Term → Option Variable → Type 0
IsVariable x None = Unit {0}
IsVariable x (Some v) = (env : Env) (t : Tables) (y : plain.Term) (ps below : List Piece) → TermStands env t x y ps below → plain_variable y ≡ Some (variable_view v)
