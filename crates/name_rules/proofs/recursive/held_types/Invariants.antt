use Rattle.std.proofs.Common.{◌≡◌, ◌+◌, [], ◌++◌, length, drop, take, map}
use Rattle.constant_values.specs.declared_names.specs.binder.specs.Violations as violations
use Rattle.constant_values.specs.declared_names.specs.Outside.{the_outside}
use Rattle.constant_values.specs.declared_names.specs.View.{space_view}
use Rattle.name_rules.proofs.recursive.held_types.Given as goal

abbrev pub invariant-loop-space : goal.invariant-loop-space
invariant-loop-space l =
    map (λ v. v.items) l.types.items ++ violations.held_types the_outside (map space_view l.spaces) (map space_view (drop l.space-index l.spaces))
    ≡ violations.held_types the_outside (map space_view l.spaces) (map space_view l.spaces)
