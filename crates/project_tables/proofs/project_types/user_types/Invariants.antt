use Rattle.std.proofs.Common.{◌≡◌, ◌++◌, map, drop}
use Rattle.bound_declarations.specs.constant_values.specs.declared_names.specs.binder.specs.Storage.{types_from}
use Rattle.bound_project.specs.View.{user_type_view}
use Rattle.bound_declarations.specs.constant_values.specs.declared_names.specs.View.{space_view}
use Rattle.project_tables.specs.Signed.{whole_scope}
use Rattle.project_tables.proofs.project_types.user_types.Given as goal

abbrev pub invariant-loop-space : goal.invariant-loop-space
invariant-loop-space l =
    map user_type_view l.types.items ++ types_from (whole_scope (map space_view l.spaces)) (map space_view (drop l.space-index l.spaces))
    ≡ types_from (whole_scope (map space_view l.spaces)) (map space_view l.spaces)
