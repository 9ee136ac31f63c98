-- Serves the code: the procedures of a module one after another.
use Rattle.std.specs.Prelude.{ℕ, ◌+◌, ◌==◌, List, [], ◌∷◌, ◌++◌, map, if◌then◌else◌, Vec}
use Rattle.std.specs.declared.alloc.Global.{Global}
use Rattle.bound_project.specs.Project as bound
use Rattle.bound_declarations.specs.Whole.{procedure_in}
use Rattle.bound_declarations.specs.constant_values.specs.declared_names.specs.binder.specs.Declarations.{Written, Local}
use Rattle.bound_declarations.specs.constant_values.specs.declared_names.specs.binder.specs.Scopes.{Space, Scope}
use Rattle.bound_declarations.specs.constant_values.specs.declared_names.specs.binder.specs.Names.{scope_of, locals_of}
use Rattle.bound_declarations.specs.constant_values.specs.declared_names.specs.binder.specs.Storage.{declarations_if, is_static, is_variable, parameters_of}
use Rattle.bound_declarations.specs.constant_values.specs.declared_names.specs.binder.specs.Types.{counted}
use Rattle.bound_declarations.specs.constant_values.specs.declared_names.specs.Outside.{the_outside}
use Rattle.bound_declarations.specs.constant_values.specs.declared_names.specs.View.{local_view, space_view}
use Rattle.bound_declarations.specs.constant_values.specs.declared_names.specs.declared.space.Space.{Space as SpaceHere}
use Rattle.bound_declarations.specs.constant_values.specs.Rounds.{IsPlaced}
use Rattle.bound_declarations.specs.constant_values.specs.Tables.{AreOwnValues, AreProjectValues}
use Rattle.bound_declarations.specs.constant_values.specs.declared.project.ProjectValues.{ProjectValues}
use Rattle.project_tables.specs.declared.rows.ProcedureRow.{ProcedureRow}
use Rattle.project_tables.specs.Rows.{Row, AreRowsOf}
use Rattle.project_tables.specs.Signed.{Signed}

-- the scope in a procedure, by its names
abbrev pub with_names : Scope → List Local → Scope
with_names s ls = record s { locals = ls }

-- the scope of the declarations of a module
abbrev pub module_scope : List SpaceHere → SpaceHere → Scope
module_scope spaces here = scope_of the_outside (map space_view spaces) (space_view here)

-- the procedures of each module
abbrev pub row_lists : List (Vec ProcedureRow Global) → List (List ProcedureRow)
row_lists of = map (λ rows. rows.items) of

-- a procedure whose first static is told
abbrev pub row_at : Scope → ℕ → ℕ × Written → Row
row_at s first p = record { number = p.0; written = p.1; locals = locals_of s p.1; first = first }

-- procedures one after another, the first static of the first told
abbrev pub rows_from : Scope → ℕ → List (ℕ × Written) → List Row
rows_from s first [] = []
rows_from s first (p ∷ ps) = row_at s first p ∷ rows_from s (first + counted is_static (locals_of s p.1)) ps

-- how many variables a module has itself: those of a class are not shared
abbrev pub own_variables : Space → ℕ
own_variables space = if space.source.is_class then 0 else counted is_variable space.entries

-- how many statics procedures have
abbrev pub statics_of : List Row → ℕ
statics_of [] = 0
statics_of (row ∷ rows) = counted is_static row.locals + statics_of rows

-- the statics of a procedure
abbrev pub own_statics : Scope → Row → List bound.Declaration
own_statics s row = declarations_if is_static (with_names s row.locals) row.locals

-- those of procedures
abbrev pub statics_in : Scope → List Row → List bound.Declaration
statics_in s [] = []
statics_in s (row ∷ rows) = own_statics s row ++ statics_in s rows

-- a procedure as it is bound
abbrev pub procedure_of : Scope → Row → bound.Procedure
procedure_of s row = procedure_in (with_names s row.locals) row.written

-- the values of the names of a procedure
abbrev pub HasValues : Scope → ProcedureRow → Type 0
HasValues s row = AreOwnValues row.values (with_names s (map local_view row.locals.items))

abbrev pub HaveOwnValues : Scope → List ProcedureRow → Type 0
HaveOwnValues s [] = Unit {0}
HaveOwnValues s (row ∷ rows) = HasValues s row × HaveOwnValues s rows

-- a module with its procedures
pub record IsModule (s : Scope) (project : ProjectValues) (rows : List ProcedureRow) : Type 0 where
  pub placed : IsPlaced s
  pub values : AreProjectValues project s.spaces
  pub rows_are : AreRowsOf s rows

-- the parameters of a procedure
abbrev pub signed_row : Scope → Row → Signed
signed_row s row = record { number = row.number; parameters = parameters_of (with_names s row.locals) row.written }

-- those of the procedure with a number, where there is one
abbrev pub parameters_at : List Signed → ℕ → List bound.Parameter
parameters_at [] number = []
parameters_at (x ∷ xs) number = if x.number == number then x.parameters else parameters_at xs number
