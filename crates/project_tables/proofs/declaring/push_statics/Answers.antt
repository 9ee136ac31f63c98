use Rattle.std.proofs.Common.{◌≡◌, List, [], ◌++◌, map, sym, ap, ◌∙◌, drop, append-nil, arith}
use Rattle.std.proofs.lemmas.List.{drop_all}
use Rattle.bound_project.specs.Project.{Declaration}
use Rattle.bound_project.specs.View.{declaration_view}
use Rattle.bound_declarations.specs.constant_values.specs.declared_names.specs.View.{scope_view}
use Rattle.project_tables.specs.declared.rows.ProcedureRow.{ProcedureRow}
use Rattle.project_tables.specs.Rows.{row_view}
use Rattle.project_tables.specs.Steps.{statics_in}
use Rattle.project_tables.proofs.declaring.push_statics.Goals as goal

pub returns : goal.returns
returns c =
    let s = scope_view c.args.scope in
    let rows : List ProcedureRow = c.args.rows.now in
    let now : List Declaration = map declaration_view c.loop-row.shared.items in
    let none : drop c.loop-row.row-index rows ≡ [] = drop_all c.loop-row.row-index rows (omega (arith, c.loop-row-test.false)) in
    sym (append-nil now)
    ∙ (ap (λ (xs : List ProcedureRow). now ++ statics_in s (map row_view xs)) (sym none)
    ∙ c.loop-row.invariant.shared)
