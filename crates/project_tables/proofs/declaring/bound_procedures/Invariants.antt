use Rattle.std.proofs.Common.{◌≡◌, ◌++◌, map, drop}
use Rattle.std.specs.Prelude.{flat_map}
use Rattle.bound_declarations.specs.constant_values.specs.declared_names.specs.binder.specs.Projects.{procedures_of}
use Rattle.bound_declarations.specs.constant_values.specs.declared_names.specs.binder.specs.Constants.{home}
use Rattle.bound_project.specs.View.{procedure_view}
use Rattle.bound_declarations.specs.constant_values.specs.declared_names.specs.View.{space_view}
use Rattle.project_tables.specs.Signed.{whole_scope}
use Rattle.project_tables.proofs.declaring.bound_procedures.Given as goal

abbrev pub invariant-loop-number : goal.invariant-loop-number
invariant-loop-number l =
    map procedure_view l.procedures.items ++ flat_map (λ space. procedures_of (home (whole_scope (map space_view l.spaces)) space)) (map space_view (drop l.number l.spaces))
    ≡ flat_map (λ space. procedures_of (home (whole_scope (map space_view l.spaces)) space)) (map space_view l.spaces)
