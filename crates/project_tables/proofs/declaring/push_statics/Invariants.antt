use Rattle.std.proofs.Common.{◌≡◌, ◌++◌, map, drop}
use Rattle.bound_project.specs.View.{declaration_view}
use Rattle.bound_declarations.specs.constant_values.specs.declared_names.specs.View.{scope_view}
use Rattle.project_tables.specs.Rows.{row_view}
use Rattle.project_tables.specs.Steps.{HaveOwnValues, statics_in}
use Rattle.project_tables.proofs.declaring.push_statics.Given as goal

abbrev pub invariant-loop-row : goal.invariant-loop-row
invariant-loop-row l = record {
  shared : map declaration_view l.shared.items ++ statics_in (scope_view l.scope) (map row_view (drop l.row-index l.rows))
      ≡ map declaration_view l.fn.shared.items ++ statics_in (scope_view l.scope) (map row_view l.rows);
  values : HaveOwnValues (scope_view l.scope) (drop l.row-index l.rows);
}
