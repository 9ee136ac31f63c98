use Rattle.std.proofs.Common.{◌≡◌, map, drop}
use Rattle.bound_declarations.specs.constant_values.specs.declared_names.specs.binder.specs.Projects as projects
use Rattle.bound_declarations.specs.constant_values.specs.declared_names.specs.View.{entry_view, scope_view}
use Rattle.project_tables.specs.Startups.{startup_view}
use Rattle.project_tables.proofs.startup.startup_in.Given as goal

abbrev pub invariant-loop-number : goal.invariant-loop-number
invariant-loop-number l =
    projects.startup_in (scope_view l.scope) (startup_view l.startup) (projects.numbered l.number (map entry_view (drop l.number l.scope.here.now.entries.items)))
    ≡ projects.startup_in (scope_view l.scope) (startup_view l.startup) (projects.numbered 0 (map entry_view l.scope.here.now.entries.items))
