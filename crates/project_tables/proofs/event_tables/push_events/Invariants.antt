use Rattle.std.proofs.Common.{◌≡◌, ◌++◌, map, drop}
use Rattle.bound_declarations.specs.constant_values.specs.declared_names.specs.binder.specs.EventTables.{declared_events}
use Rattle.bound_project.specs.View.{event_view}
use Rattle.bound_declarations.specs.constant_values.specs.declared_names.specs.View.{entry_view, scope_view}
use Rattle.project_tables.proofs.event_tables.push_events.Given as goal

abbrev pub invariant-loop-entry : goal.invariant-loop-entry
invariant-loop-entry l =
    map event_view l.events.items ++ declared_events (scope_view l.constants.scope) (map entry_view (drop l.entry-index l.entries))
    ≡ map event_view l.fn.events.items ++ declared_events (scope_view l.constants.scope) (map entry_view l.entries)
