use Rattle.std.proofs.Common.{◌≡◌, ◌++◌, map, drop}
use Rattle.constant_values.specs.declared_names.specs.binder.specs.Storage.{types_of_space}
use Rattle.bound_project.specs.View.{user_type_view}
use Rattle.constant_values.specs.declared_names.specs.View.{entry_view, scope_view}
use Rattle.bound_declarations.proofs.user_types.module_types.Given as goal

abbrev pub invariant-loop-entry : goal.invariant-loop-entry
invariant-loop-entry l =
    map user_type_view l.types.items ++ types_of_space (scope_view l.constants.scope) (map entry_view (drop l.entry-index l.entries))
    ≡ map user_type_view l.fn.types.items ++ types_of_space (scope_view l.constants.scope) (map entry_view l.entries)
