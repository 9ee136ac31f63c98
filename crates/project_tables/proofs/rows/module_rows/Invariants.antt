use Rattle.std.proofs.Common.{◌≡◌, ◌++◌, map, drop}
use Rattle.bound_declarations.specs.constant_values.specs.declared_names.specs.binder.specs.Projects.{numbered}
use Rattle.bound_declarations.specs.constant_values.specs.declared_names.specs.View.{entry_view, scope_view}
use Rattle.project_tables.specs.Rows.{row_view}
use Rattle.project_tables.specs.Steps.{HaveOwnValues, rows_from}
use Rattle.project_tables.proofs.rows.module_rows.Given as goal

abbrev pub invariant-loop-number : goal.invariant-loop-number
invariant-loop-number l = record {
  rows : map row_view l.rows.items ++ rows_from (scope_view l.scope) l.first (numbered l.number (map entry_view (drop l.number l.scope.here.now.entries.items)))
      ≡ rows_from (scope_view l.scope) l.initial.first (numbered 0 (map entry_view l.scope.here.now.entries.items));
  values : HaveOwnValues (scope_view l.scope) l.rows.items;
}
