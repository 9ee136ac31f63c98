use Rattle.std.proofs.Common.{◌≡◌, ◌++◌, map, drop}
use Rattle.bound_project.specs.View.{procedure_view}
use Rattle.bound_declarations.specs.constant_values.specs.declared_names.specs.View.{scope_view}
use Rattle.project_tables.specs.Rows.{row_view}
use Rattle.project_tables.specs.Steps.{HaveOwnValues, procedure_of}
use Rattle.project_tables.proofs.declaring.push_procedures.Given as goal

abbrev pub invariant-loop-row : goal.invariant-loop-row
invariant-loop-row l = record {
  bound : map procedure_view l.procedures.items ++ map (procedure_of (scope_view l.scope)) (map row_view (drop l.row-index l.rows))
      ≡ map procedure_view l.fn.procedures.items ++ map (procedure_of (scope_view l.scope)) (map row_view l.rows);
  values : HaveOwnValues (scope_view l.scope) (drop l.row-index l.rows);
}
