use Rattle.std.proofs.Common.{◌≡◌, ◌+◌, [], ◌++◌, length, drop, take, map}
use Rattle.constant_values.specs.declared_names.specs.binder.specs.Violations as violations
use Rattle.constant_values.specs.declared_names.specs.View.{scope_view}
use Rattle.said_parts.specs.View.{field_view}
use Rattle.name_rules.proofs.recursive.held_in.Given as goal

abbrev pub invariant-loop-field : goal.invariant-loop-field
invariant-loop-field l =
    l.held.items ++ violations.held_in (scope_view l.scope) (map (λ f. field_view f.now) (drop l.field-index l.fields))
    ≡ violations.held_in (scope_view l.scope) (map (λ f. field_view f.now) l.fields)
