use Rattle.std.proofs.Common.{◌≡◌, ◌++◌, drop, map}
use Rattle.std.specs.Prelude.{flat_map}
use Rattle.binder.specs.Said as plain
use Rattle.said_parts.specs.View.{all_said, field_view}
use Rattle.said_parts.proofs.headers.push_fields.Given as goal

abbrev pub invariant-loop-field : goal.invariant-loop-field
invariant-loop-field l =
    all_said l.said.items ++ flat_map plain.field_said (map (λ f. field_view f.now) (drop l.field-index l.fields))
    ≡ all_said l.fn.said.items ++ flat_map plain.field_said (map (λ f. field_view f.now) l.fields)
