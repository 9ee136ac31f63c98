use Rattle.std.proofs.Common.{◌≡◌, map, drop}
use Rattle.bound_declarations.specs.constant_values.specs.declared_names.specs.binder.specs.EventTables.{handles}
use Rattle.bound_declarations.specs.constant_values.specs.declared_names.specs.binder.specs.Scopes.{first_at}
use Rattle.bound_declarations.specs.constant_values.specs.declared_names.specs.View.{entry_view}
use Rattle.project_tables.proofs.event_tables.handler_named.Given as goal

abbrev pub invariant-loop-number : goal.invariant-loop-number
invariant-loop-number l =
    first_at (handles l.variable l.event) l.number (map entry_view (drop l.number l.scope.here.now.entries.items))
    ≡ first_at (handles l.variable l.event) 0 (map entry_view l.scope.here.now.entries.items)
