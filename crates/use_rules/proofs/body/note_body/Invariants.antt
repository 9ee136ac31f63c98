use Rattle.std.proofs.Common.{◌≡◌, [], drop, map}
use Rattle.std.specs.Prelude.{flat_map}
use Rattle.declared_names.specs.binder.specs.Said.{said_in_part}
use Rattle.declared_names.specs.binder.specs.Violations.{label_said, names_said, types_said}
use Rattle.declared_names.specs.View.{scope_view}
use Rattle.declared_names.specs.module_parts.specs.View.{parts_view}
use Rattle.use_rules.specs.Found.{noted}
use Rattle.use_rules.specs.View.{kinds_stack}
use Rattle.use_rules.specs.Walked.{walked}
use Rattle.use_rules.proofs.body.note_body.Given as goal

abbrev pub invariant-loop-part : goal.invariant-loop-part
invariant-loop-part l = record {
  types : noted 16 l.found.types (walked (λ within. types_said (scope_view l.scope)) l.is_static (kinds_stack l.opened.items) (parts_view (drop l.part-index l.parts)))
      ≡ noted 16 l.fn.found.types (walked (λ within. types_said (scope_view l.scope)) l.is_static [] (parts_view l.parts));
  names : noted 17 l.found.names (walked (names_said (scope_view l.scope)) l.is_static (kinds_stack l.opened.items) (parts_view (drop l.part-index l.parts)))
      ≡ noted 17 l.fn.found.names (walked (names_said (scope_view l.scope)) l.is_static [] (parts_view l.parts));
  labels : noted 18 l.found.labels (flat_map (label_said (map (λ label. label.now) l.labels)) (flat_map (said_in_part l.is_static) (parts_view (drop l.part-index l.parts))))
      ≡ noted 18 l.fn.found.labels (flat_map (label_said (map (λ label. label.now) l.labels)) (flat_map (said_in_part l.is_static) (parts_view l.parts)));
}
