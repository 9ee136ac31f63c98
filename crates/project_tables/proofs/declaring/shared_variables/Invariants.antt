use Rattle.std.proofs.Common.{◌≡◌, ◌++◌, map, drop}
use Rattle.bound_declarations.specs.constant_values.specs.declared_names.specs.binder.specs.Storage.{shared_from}
use Rattle.bound_project.specs.View.{declaration_view}
use Rattle.bound_declarations.specs.constant_values.specs.declared_names.specs.View.{space_view}
use Rattle.project_tables.specs.Signed.{whole_scope}
use Rattle.project_tables.proofs.declaring.shared_variables.Given as goal

abbrev pub invariant-loop-number : goal.invariant-loop-number
invariant-loop-number l =
    map declaration_view l.shared.items ++ shared_from (whole_scope (map space_view l.spaces)) (map space_view (drop l.number l.spaces))
    ≡ shared_from (whole_scope (map space_view l.spaces)) (map space_view l.spaces)
