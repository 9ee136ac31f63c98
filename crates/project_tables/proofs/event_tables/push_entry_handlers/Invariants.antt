use Rattle.std.proofs.Common.{◌≡◌, ◌++◌, map, drop}
use Rattle.bound_declarations.specs.constant_values.specs.declared_names.specs.binder.specs.EventTables.{handlers_of}
use Rattle.bound_project.specs.View.{handler_view}
use Rattle.bound_declarations.specs.constant_values.specs.declared_names.specs.View.{entry_view, scope_view}
use Rattle.project_tables.specs.EventParts.{names_in}
use Rattle.project_tables.proofs.event_tables.push_entry_handlers.Given as goal

abbrev pub invariant-loop-entry : goal.invariant-loop-entry
invariant-loop-entry l =
    map handler_view l.handlers.items ++ handlers_of (scope_view l.scope) l.field l.variable l.event (names_in (map entry_view (drop l.entry-index l.entries)))
    ≡ map handler_view l.fn.handlers.items ++ handlers_of (scope_view l.scope) l.field l.variable 0 (names_in (map entry_view l.entries))
