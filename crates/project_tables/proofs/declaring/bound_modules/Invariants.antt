use Rattle.std.proofs.Common.{◌≡◌, ◌++◌, map, drop}
use Rattle.bound_declarations.specs.constant_values.specs.declared_names.specs.binder.specs.Projects.{bound_module}
use Rattle.bound_project.specs.View.{module_view}
use Rattle.bound_declarations.specs.constant_values.specs.declared_names.specs.View.{space_view}
use Rattle.project_tables.proofs.declaring.bound_modules.Given as goal

abbrev pub invariant-loop-space : goal.invariant-loop-space
invariant-loop-space l =
    map module_view l.modules.items ++ map bound_module (map space_view (drop l.space-index l.spaces)) ≡ map bound_module (map space_view l.spaces)
