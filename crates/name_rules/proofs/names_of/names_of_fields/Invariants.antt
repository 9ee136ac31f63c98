use Rattle.std.proofs.Common.{◌≡◌, ◌++◌, drop, map}
use Rattle.constant_values.specs.declared_names.specs.binder.specs.Declarations.{FieldWritten}
use Rattle.said_parts.specs.View.{field_view}
use Rattle.name_rules.proofs.names_of.names_of_fields.Given as goal

abbrev pub invariant-loop-field : goal.invariant-loop-field
invariant-loop-field l =
    map (λ x. x.now) l.names.items ++ map (λ (f : FieldWritten). f.name) (map (λ f. field_view f.now) (drop l.field-index l.fields))
    ≡ map (λ (f : FieldWritten). f.name) (map (λ f. field_view f.now) l.fields)
