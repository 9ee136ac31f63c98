use Rattle.std.proofs.Common.{◌≡◌, ◌++◌, map, drop}
use Rattle.constant_values.specs.declared_names.specs.binder.specs.Storage.{declared_field}
use Rattle.bound_project.specs.View.{declaration_view}
use Rattle.constant_values.specs.declared_names.specs.View.{scope_view}
use Rattle.said_parts.specs.View.{field_view}
use Rattle.bound_declarations.proofs.user_types.declared_fields.Given as goal

abbrev pub invariant-loop-member : goal.invariant-loop-member
invariant-loop-member l =
    map declaration_view l.fields.items ++ map (declared_field (scope_view l.constants.scope)) (map (λ m. field_view m.now) (drop l.member-index l.members))
    ≡ map (declared_field (scope_view l.constants.scope)) (map (λ m. field_view m.now) l.members)
