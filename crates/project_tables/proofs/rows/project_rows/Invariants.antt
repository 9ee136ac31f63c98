use Rattle.std.proofs.Common.{◌≡◌, map, take, length}
use Rattle.bound_declarations.specs.constant_values.specs.declared_names.specs.binder.specs.Storage.{shared_from}
use Rattle.bound_declarations.specs.constant_values.specs.declared_names.specs.View.{space_view}
use Rattle.project_tables.specs.Rows.{AreRowsFrom}
use Rattle.project_tables.specs.Signed.{whole_scope}
use Rattle.project_tables.specs.Steps.{row_lists}
use Rattle.project_tables.proofs.rows.project_rows.Given as goal

abbrev pub invariant-loop-space : goal.invariant-loop-space
invariant-loop-space l = record {
  before : l.before ≡ length (shared_from (whole_scope (map space_view l.spaces)) (map space_view (take l.space-index l.spaces)));
  rows : AreRowsFrom (map space_view l.spaces) (row_lists l.of.items) (map space_view (take l.space-index l.spaces));
}
