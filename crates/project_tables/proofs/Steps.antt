-- One procedure more, or one module.
use Rattle.std.proofs.Common.{◌≡◌, ℕ, suc, ◌+◌, List, [], ◌∷◌, ◌++◌, map, refl, sym, ap, ◌∙◌, subst, Vec, length, take}
use Rattle.std.specs.declared.alloc.Global.{Global}
use Rattle.std.proofs.lemmas.List.{map-append}
use Rattle.bound_declarations.specs.constant_values.specs.declared_names.specs.binder.specs.Projects.{numbered}
use Rattle.bound_declarations.specs.constant_values.specs.declared_names.specs.binder.specs.Declarations.{Written, Local, What, a_variable, a_constant, an_enum, a_member, a_type, an_event, a_procedure, Entry}
use Rattle.bound_declarations.specs.constant_values.specs.declared_names.specs.binder.specs.Scopes.{Space, Scope}
use Rattle.bound_declarations.specs.constant_values.specs.declared_names.specs.binder.specs.Names.{scope_of, scope_in, locals_of}
use Rattle.bound_declarations.specs.constant_values.specs.declared_names.specs.binder.specs.Storage.{is_static, declarations_if, static_declarations, first_static, shared_before, is_variable}
use Rattle.bound_declarations.specs.constant_values.specs.declared_names.specs.binder.specs.Types.{counted}
use Rattle.bound_declarations.specs.constant_values.specs.declared_names.specs.Outside.{the_outside}
use Rattle.bound_declarations.specs.constant_values.specs.declared_names.specs.View.{local_view, written_view}
use Rattle.bound_declarations.specs.constant_values.specs.Rounds.{IsPlaced}
use Rattle.bound_declarations.specs.constant_values.specs.Tables.{AreOwnValues}
use Rattle.project_tables.specs.declared.rows.ProcedureRow.{ProcedureRow}
use Rattle.project_tables.specs.Rows.{Row, row_of, row_view, HaveValues, AreRowsOf, AreRowsFrom}
use Rattle.project_tables.specs.Steps.{with_names, row_at, rows_from, own_variables, row_lists, HasValues, HaveOwnValues}
use Rattle.project_tables.proofs.Counts.{rows_numbered}

pub rows_push : (rows : List ProcedureRow) (row : ProcedureRow) → map row_view (rows ++ row ∷ []) ≡ map row_view rows ++ row_view row ∷ []
rows_push rows row = map-append row_view rows (row ∷ [])

pub row_lists_push : (of : List (Vec ProcedureRow Global)) (rows : Vec ProcedureRow Global) → row_lists (of ++ rows ∷ []) ≡ row_lists of ++ rows.items ∷ []
row_lists_push of rows = map-append (λ (rows : Vec ProcedureRow Global). rows.items) of (rows ∷ [])

pub values_push : (s : Scope) (rows : List ProcedureRow) (row : ProcedureRow) → HaveOwnValues s rows → HasValues s row → HaveOwnValues s (rows ++ row ∷ [])
values_push s [] row h has = (has, tt)
values_push s (r ∷ rows) row h has = (h.0, values_push s rows row h.1 has)

-- a scope stands where it stood, with other names
pub placed_with : (s : Scope) (ls : List Local) → IsPlaced s → IsPlaced (with_names s ls)
placed_with s ls placed = record { numbered = placed.numbered; here = placed.here }

-- the values of names that are those of a procedure
pub values_in : (s : Scope) (row : ProcedureRow) → map local_view row.locals.items ≡ locals_of s (written_view row.written) → HasValues s row
    → AreOwnValues row.values (scope_in s (written_view row.written))
values_in s row is has = subst (λ (ls : List Local). AreOwnValues row.values (with_names s ls)) is has

values_out : (s : Scope) (row : ProcedureRow) → map local_view row.locals.items ≡ locals_of s (written_view row.written)
    → AreOwnValues row.values (scope_in s (written_view row.written)) → HasValues s row
values_out s row is has = subst (λ (ls : List Local). AreOwnValues row.values (with_names s ls)) (sym is) has

-- each procedure that is seen so has the names of its own
all_values_in : (s : Scope) (rows : List ProcedureRow) (ps : List (ℕ × Written)) → map row_view rows ≡ map (row_of s) ps → HaveOwnValues s rows → HaveValues s rows
all_values_in s [] ps is has = tt
all_values_in s (row ∷ rows) [] is has = absurd cc
all_values_in s (row ∷ rows) (p ∷ ps) is has =
    let here : row_view row ≡ row_of s p = cc in
    let others : map row_view rows ≡ map (row_of s) ps = cc in
    let names : map local_view row.locals.items ≡ locals_of s p.1 = ap (λ (r : Row). r.locals) here in
    let same : written_view row.written ≡ p.1 = ap (λ (r : Row). r.written) here in
    (values_in s row (names ∙ ap (locals_of s) (sym same)) has.0, all_values_in s rows ps others has.1)

pub all_values_out : (s : Scope) (rows : List ProcedureRow) (ps : List (ℕ × Written)) → map row_view rows ≡ map (row_of s) ps → HaveValues s rows → HaveOwnValues s rows
all_values_out s [] ps is has = tt
all_values_out s (row ∷ rows) [] is has = absurd cc
all_values_out s (row ∷ rows) (p ∷ ps) is has =
    let here : row_view row ≡ row_of s p = cc in
    let others : map row_view rows ≡ map (row_of s) ps = cc in
    let names : map local_view row.locals.items ≡ locals_of s p.1 = ap (λ (r : Row). r.locals) here in
    let same : written_view row.written ≡ p.1 = ap (λ (r : Row). r.written) here in
    (values_out s row (names ∙ ap (locals_of s) (sym same)) has.0, all_values_out s rows ps others has.1)

-- the values of the names of each procedure of a module
pub own_values_of : (s : Scope) (rows : List ProcedureRow) → AreRowsOf s rows → HaveOwnValues s rows
own_values_of s rows are = all_values_out s rows (numbered 0 s.here.entries) are.rows_are are.values

-- the procedures of one module more
pub rows_more : (all : List Space) (of : List (List ProcedureRow)) (done : List Space) (rows : List ProcedureRow) (space : Space)
    → AreRowsFrom all of done → AreRowsOf (scope_of the_outside all space) rows → AreRowsFrom all (of ++ rows ∷ []) (done ++ space ∷ [])
rows_more all [] [] rows space before are = (are, tt)
rows_more all [] (s ∷ done) rows space before are = absurd before
rows_more all (r ∷ of) [] rows space before are = absurd before
rows_more all (r ∷ of) (s ∷ done) rows space before are = (before.0, rows_more all of done rows space before.1 are)

-- the procedures of a module, one after another
pub module_rows_are : (s : Scope) (rows : List ProcedureRow) (first : ℕ) → first ≡ shared_before s s.spaces s.here + own_variables s.here
    → map row_view rows ≡ rows_from s first (numbered 0 s.here.entries) → HaveOwnValues s rows → AreRowsOf s rows
module_rows_are s rows first is are values =
    let rows_are : map row_view rows ≡ map (row_of s) (numbered 0 s.here.entries) = are ∙ rows_numbered s first is in
    record { rows_are = rows_are; values = all_values_in s rows (numbered 0 s.here.entries) rows_are values }
