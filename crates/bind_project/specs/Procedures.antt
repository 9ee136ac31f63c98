-- Serves the code: the procedures of a module, by their rows.
use Rattle.std.specs.Prelude.{◌≡◌, ℕ, List, [], ◌∷◌, map, Some, slice_get}
use Rattle.binder.specs.Declarations.{Written}
use Rattle.binder.specs.Scopes.{Space, Scope}
use Rattle.binder.specs.Names.{locals_of, scope_in}
use Rattle.binder.specs.Storage.{first_static}
use Rattle.bound_names.specs.bound_members.specs.bound_calls.specs.bound_declarations.specs.constant_values.specs.Tables.{AreOwnValues}
use Rattle.bound_names.specs.bound_members.specs.bound_calls.specs.bound_declarations.specs.constant_values.specs.declared_names.specs.View.{local_view, written_view}
use Rattle.bound_names.specs.project_tables.specs.declared.rows.ProcedureRow.{ProcedureRow}

-- a procedure by the number of its entry
abbrev pub numbered_view : ProcedureRow → ℕ × Written
numbered_view row = (row.number, written_view row.written)

-- a row tells of its procedure what the module says
pub record RowFits (s : Scope) (row : ProcedureRow) : Type 0 where
  pub locals : map local_view row.locals.items ≡ locals_of s (written_view row.written)
  pub first : row.first ≡ first_static s row.number
  pub values : AreOwnValues row.values (scope_in s (written_view row.written))

abbrev pub RowsFit : Scope → List ProcedureRow → Type 0
RowsFit s [] = Unit {0}
RowsFit s (row ∷ rows) = RowFits s row × RowsFit s rows

-- modules stand where their numbers say
abbrev pub AllPlaced : List Space → List Space → Type 0
AllPlaced all [] = Unit {0}
AllPlaced all (space ∷ spaces) = (slice_get all space.number ≡ Some space) × AllPlaced all spaces
