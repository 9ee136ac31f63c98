use Rattle.std.proofs.Common.{◌≡◌, map, drop}
use Rattle.bound_declarations.specs.constant_values.specs.declared_names.specs.binder.specs.ClassTables.{is_among}
use Rattle.bound_declarations.specs.constant_values.specs.declared_names.specs.View.{entry_view}
use Rattle.project_tables.proofs.class_tables.is_among.Given as goal

abbrev pub invariant-loop-entry : goal.invariant-loop-entry
invariant-loop-entry l = is_among (map entry_view (drop l.entry-index l.entries)) l.name ≡ is_among (map entry_view l.entries) l.name
