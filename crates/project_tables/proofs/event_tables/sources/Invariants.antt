use Rattle.std.proofs.Common.{◌≡◌, ◌++◌, map, drop}
use Rattle.bound_declarations.specs.constant_values.specs.declared_names.specs.binder.specs.EventTables.{sources_from}
use Rattle.bound_declarations.specs.constant_values.specs.declared_names.specs.View.{entry_view, scope_view}
use Rattle.project_tables.proofs.event_tables.sources.Given as goal

abbrev pub invariant-loop-number : goal.invariant-loop-number
invariant-loop-number l =
    l.sources.items ++ sources_from (scope_view l.scope) l.number (map entry_view (drop l.number l.scope.here.now.entries.items))
    ≡ sources_from (scope_view l.scope) 0 (map entry_view l.scope.here.now.entries.items)
