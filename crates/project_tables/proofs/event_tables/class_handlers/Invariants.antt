use Rattle.std.proofs.Common.{◌≡◌, ◌++◌, map, drop}
use Rattle.bound_declarations.specs.constant_values.specs.declared_names.specs.binder.specs.EventTables.{handlers_from}
use Rattle.bound_project.specs.View.{handler_view}
use Rattle.bound_declarations.specs.constant_values.specs.declared_names.specs.View.{entry_view, scope_view}
use Rattle.project_tables.proofs.event_tables.class_handlers.Given as goal

abbrev pub invariant-loop-number : goal.invariant-loop-number
invariant-loop-number l =
    map handler_view l.handlers.items ++ handlers_from (scope_view l.constants.scope) l.number (map entry_view (drop l.number l.constants.scope.here.now.entries.items))
    ≡ handlers_from (scope_view l.constants.scope) 0 (map entry_view l.constants.scope.here.now.entries.items)
