-- Serves the code: the procedures of a project, each with its names and the number of its first static.
use Rattle.std.specs.Prelude.{◌≡◌, ℕ, List, [], ◌∷◌, map}
use Rattle.bound_declarations.specs.constant_values.specs.declared_names.specs.binder.specs.Declarations.{Written, Local}
use Rattle.bound_declarations.specs.constant_values.specs.declared_names.specs.binder.specs.Scopes.{Space, Scope}
use Rattle.bound_declarations.specs.constant_values.specs.declared_names.specs.binder.specs.Names.{scope_of, scope_in, locals_of}
use Rattle.bound_declarations.specs.constant_values.specs.declared_names.specs.binder.specs.Storage.{first_static}
use Rattle.bound_declarations.specs.constant_values.specs.declared_names.specs.binder.specs.Projects.{numbered}
use Rattle.bound_declarations.specs.constant_values.specs.declared_names.specs.Outside.{the_outside}
use Rattle.bound_declarations.specs.constant_values.specs.declared_names.specs.View.{local_view, written_view}
use Rattle.bound_declarations.specs.constant_values.specs.Tables.{AreProjectValues, AreOwnValues}
use Rattle.project_tables.specs.declared.rows.ProcedureRow.{ProcedureRow}
use Rattle.project_tables.specs.declared.rows.Rows.{Rows}

-- a procedure by the number of its entry
pub record Row : Type 0 where
  pub number : ℕ
  pub written : Written
  pub locals : List Local
  pub first : ℕ

abbrev pub row_of : Scope → ℕ × Written → Row
row_of s p = record { number = p.0; written = p.1; locals = locals_of s p.1; first = first_static s p.0 }

abbrev pub row_view : ProcedureRow → Row
row_view row = record { number = row.number; written = written_view row.written; locals = map local_view row.locals.items; first = row.first }

-- each procedure has the values of its own constants
abbrev pub HaveValues : Scope → List ProcedureRow → Type 0
HaveValues s [] = Unit {0}
HaveValues s (row ∷ rows) = AreOwnValues row.values (scope_in s (written_view row.written)) × HaveValues s rows

-- the procedures of a module
pub record AreRowsOf (s : Scope) (rows : List ProcedureRow) : Type 0 where
  pub rows_are : map row_view rows ≡ map (row_of s) (numbered 0 s.here.entries)
  pub values : HaveValues s rows

-- those of the modules of a project
abbrev pub AreRowsFrom : List Space → List (List ProcedureRow) → List Space → Type 0
AreRowsFrom all [] [] = Unit {0}
AreRowsFrom all (rows ∷ others) (space ∷ spaces) = AreRowsOf (scope_of the_outside all space) rows × AreRowsFrom all others spaces
AreRowsFrom all rows spaces = ⊥

pub record AreRows (rows : Rows) (spaces : List Space) : Type 0 where
  pub values : AreProjectValues rows.values spaces
  pub rows_are : AreRowsFrom spaces (map (λ row. row.items) rows.of.items) spaces
