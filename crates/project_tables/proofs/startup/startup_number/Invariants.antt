use Rattle.std.proofs.Common.{◌≡◌, map, drop}
use Rattle.bound_declarations.specs.constant_values.specs.declared_names.specs.binder.specs.Projects as projects
use Rattle.bound_declarations.specs.constant_values.specs.declared_names.specs.View.{space_view}
use Rattle.project_tables.specs.Signed.{whole_scope}
use Rattle.project_tables.specs.Startups.{startup_view}
use Rattle.project_tables.proofs.startup.startup_number.Given as goal

abbrev pub invariant-loop-space : goal.invariant-loop-space
invariant-loop-space l =
    projects.startup_number (whole_scope (map space_view l.spaces)) (startup_view l.startup) (map space_view (drop l.space-index l.spaces))
    ≡ projects.startup_number (whole_scope (map space_view l.spaces)) (startup_view l.startup) (map space_view l.spaces)
