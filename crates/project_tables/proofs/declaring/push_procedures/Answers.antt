use Rattle.std.proofs.Common.{◌≡◌, List, [], ◌++◌, map, sym, ap, ◌∙◌, drop, append-nil, arith}
use Rattle.std.proofs.lemmas.List.{drop_all}
use Rattle.bound_project.specs.Project.{Procedure}
use Rattle.bound_project.specs.View.{procedure_view}
use Rattle.project_tables.specs.declared.rows.ProcedureRow.{ProcedureRow}
use Rattle.project_tables.specs.Rows.{row_view}
use Rattle.project_tables.specs.Steps.{module_scope, procedure_of}
use Rattle.project_tables.proofs.Shared.{module_bound}
use Rattle.project_tables.proofs.declaring.push_procedures.Goals as goal

pub returns : goal.returns
returns c =
    let s = module_scope c.args.spaces.now c.args.space.now in
    let rows : List ProcedureRow = c.args.rows.now in
    let now : List Procedure = map procedure_view c.loop-row.procedures.items in
    let old : List Procedure = map procedure_view c.args.procedures.now.items in
    let none : drop c.loop-row.row-index rows ≡ [] = drop_all c.loop-row.row-index rows (omega (arith, c.loop-row-test.false)) in
    sym (append-nil now)
    ∙ (ap (λ (xs : List ProcedureRow). now ++ map (procedure_of s) (map row_view xs)) (sym none)
    ∙ (c.loop-row.invariant.bound
    ∙ ap (λ (xs : List Procedure). old ++ xs) (module_bound s rows c.requires.rows_are)))
