-- Serves the code: what names of procedures and modules are.
use Rattle.std.specs.Prelude.{◌≡◌, ℕ, ◌==◌, Bool, ◌||◌, not, List, length, codes, bytes_eq, Option, Some, None, if◌then◌else◌, slice_get, false, true}
use Rattle.vba_values.specs.Types.{Declared}
use Rattle.vba_words.specs.declared.identifier.Identifier.{Identifier}
use Rattle.bound_members.specs.bound_calls.specs.bound_declarations.specs.constant_values.specs.declared_names.specs.binder.specs.Declarations.{Local}
use Rattle.bound_members.specs.bound_calls.specs.bound_declarations.specs.constant_values.specs.declared_names.specs.binder.specs.Scopes.{Scope}
use Rattle.bound_members.specs.bound_calls.specs.bound_declarations.specs.constant_values.specs.declared_names.specs.binder.specs.Storage.{own_storage}
use Rattle.bound_members.specs.bound_calls.specs.bound_forms.specs.Terms.{Env}
use Rattle.bound_members.specs.bound_calls.specs.bound_forms.specs.Terms as plain
use Rattle.bound_members.specs.bound_calls.specs.bound_forms.specs.ExpressionsBound.{own_term}
use Rattle.vba_values.specs.Types as type
use Rattle.bound_project.specs.Expressions.{Storage, shared, active_sheet, host_object, Lvalue, variable, as_new}
use Rattle.bound_project.specs.Project.{Declaration}
use Rattle.bound_project.specs.View.{declared_view}
use Rattle.bound_names.specs.declared.names.Shape.{Shape}
use Rattle.vba_values.specs.declared.object.HostRef.TheVariants as host
use Rattle.bound_names.specs.declared.names.Making.{Making}
use Rattle.bound_names.specs.declared.names.Making.TheVariants as making

-- the type of a variable, and how many bounds it is declared with
pub record IsShape (of : Declared) (bounds : ℕ) (x : Shape) : Type 0 where
  pub of_is : of ≡ declared_view x.of
  pub bounds_are : bounds ≡ x.bounds

-- whether an object is made where a variable is read, by the class of a variable declared As New, and of a parameter
abbrev pub making_of : Option ℕ → Making
making_of None = making.Never
making_of (Some number) = making.New number

abbrev pub making_through : Bool → Making
making_through true = making.Through
making_through false = making.Never

-- a variable that is kept there
abbrev pub kept_at : Storage → Declared → (bounds : ℕ) → Lvalue
kept_at storage of bounds = variable (record { storage = storage; of = of; bounded = not (bounds == 0) })

abbrev pub made_term : Making → Storage → Declared → (bounds : ℕ) → plain.Term
made_term making.Never storage of bounds = plain.a_place (kept_at storage of bounds) of bounds true false
made_term making.Through storage of bounds = plain.a_place (kept_at storage of bounds) of bounds true true
made_term (making.New number) storage of bounds = plain.a_place (as_new number (kept_at storage of bounds)) of bounds true true

-- a name of a procedure is a variable of this type, with so many declared bounds, and so made
abbrev pub OwnShaped : Scope → Local → Declared → (bounds : ℕ) → Making → Type 0
OwnShaped s l of bounds m = (env : Env) (x : Identifier) (number : ℕ) → env.scope ≡ s
    → own_term env x number l ≡ made_term m (own_storage env.scope env.first number l.own) of bounds

-- a variable among those of a project
pub record SharedShape (ds : List Declaration) (kept : Storage) (x : Shape) : Type 0 where
  pub number : ℕ
  pub kept_is : kept ≡ shared number
  pub declaration : Declaration
  pub at : slice_get ds number ≡ Some declaration
  pub shape : IsShape declaration.of (length declaration.bounds) x

-- a name of the host that is neither Err, nor the sheets, nor a member of the active sheet
abbrev pub host_rest : Identifier → plain.Term
host_rest x =
    if bytes_eq x.name (codes "activesheet") then plain.a_value active_sheet type.worksheet
    else if bytes_eq x.name (codes "thisworkbook") || bytes_eq x.name (codes "activeworkbook") then plain.a_value (host_object host.Workbook) type.object
    else if bytes_eq x.name (codes "application") then plain.a_value (host_object host.Application) type.object
    else plain.no_term
