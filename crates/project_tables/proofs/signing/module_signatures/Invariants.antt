use Rattle.std.proofs.Common.{◌≡◌, ◌++◌, map, drop}
use Rattle.bound_declarations.specs.constant_values.specs.declared_names.specs.View.{scope_view}
use Rattle.project_tables.specs.Rows.{row_view}
use Rattle.project_tables.specs.Signed.{signed_view}
use Rattle.project_tables.specs.Steps.{HaveOwnValues, signed_row}
use Rattle.project_tables.proofs.signing.module_signatures.Given as goal

abbrev pub invariant-loop-row : goal.invariant-loop-row
invariant-loop-row l = record {
  signed : map signed_view l.signatures.items ++ map (signed_row (scope_view l.scope)) (map row_view (drop l.row-index l.rows))
      ≡ map (signed_row (scope_view l.scope)) (map row_view l.rows);
  values : HaveOwnValues (scope_view l.scope) (drop l.row-index l.rows);
}
