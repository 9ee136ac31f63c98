use Rattle.std.proofs.Common.{◌≡◌, drop, map}
use Rattle.std.specs.Prelude.{flat_map}
use Rattle.constant_values.specs.declared_names.specs.binder.specs.Violations.{field_faults}
use Rattle.constant_values.specs.declared_names.specs.View.{scope_view}
use Rattle.said_parts.specs.View.{field_view}
use Rattle.use_rules.specs.Found.{noted}
use Rattle.name_rules.proofs.constants.note_fields.Given as goal

abbrev pub invariant-loop-field : goal.invariant-loop-field
invariant-loop-field l =
    noted 20 l.least (flat_map (field_faults (scope_view l.constants.scope)) (map (λ f. field_view f.now) (drop l.field-index l.fields)))
    ≡ noted 20 l.fn.least (flat_map (field_faults (scope_view l.constants.scope)) (map (λ f. field_view f.now) l.fields))
