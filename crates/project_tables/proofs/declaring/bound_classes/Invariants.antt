use Rattle.std.proofs.Common.{◌≡◌, ◌++◌, map, drop}
use Rattle.std.specs.Prelude.{flat_map}
use Rattle.bound_declarations.specs.constant_values.specs.declared_names.specs.binder.specs.Projects.{class_of}
use Rattle.bound_declarations.specs.constant_values.specs.declared_names.specs.binder.specs.Constants.{home}
use Rattle.bound_project.specs.View.{class_view}
use Rattle.bound_declarations.specs.constant_values.specs.declared_names.specs.View.{space_view}
use Rattle.project_tables.specs.Signed.{whole_scope}
use Rattle.project_tables.proofs.declaring.bound_classes.Given as goal

abbrev pub invariant-loop-space : goal.invariant-loop-space
invariant-loop-space l =
    map class_view l.classes.items ++ flat_map (λ space. class_of (home (whole_scope (map space_view l.spaces)) space)) (map space_view (drop l.space-index l.spaces))
    ≡ flat_map (λ space. class_of (home (whole_scope (map space_view l.spaces)) space)) (map space_view l.spaces)
