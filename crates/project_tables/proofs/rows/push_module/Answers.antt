use Rattle.std.proofs.Common.{List, [], ◌∷◌, ◌++◌, map, subst, sym}
use Rattle.bound_declarations.specs.constant_values.specs.declared_names.specs.View.{space_view}
use Rattle.project_tables.specs.declared.rows.ProcedureRow.{ProcedureRow}
use Rattle.project_tables.specs.Rows.{AreRowsFrom}
use Rattle.project_tables.specs.Steps.{row_lists}
use Rattle.project_tables.proofs.Steps.{rows_more}
use Rattle.project_tables.proofs.rows.push_module.Goals as goal

pub returns-clause-of : goal.returns-clause-of
returns-clause-of c = λ done before.
    let all = map space_view c.args.spaces.now in
    let space = space_view c.args.space.now in
    subst (λ (of : List (List ProcedureRow)). AreRowsFrom all of (done ++ space ∷ [])) (sym c.in_ok-push_rows.ensures)
    (rows_more all (row_lists c.args.of.now.items) done c.in_ok-rows.rows.items space before c.in_ok-rows.ensures)
