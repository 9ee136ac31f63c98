use Rattle.std.proofs.Common.{map, refl}
use Rattle.declared_names.specs.binder.specs.Violations.{label_said, names_said, types_said}
use Rattle.declared_names.specs.View.{scope_view}
use Rattle.use_rules.specs.View.{kinds_stack}
use Rattle.use_rules.specs.Walked.{is_within}
use Rattle.use_rules.proofs.Standing.{more_walked, more_said}
use Rattle.use_rules.proofs.body.note_body.Goals as goal

pub loop-part-preserved : goal.loop-part-preserved
loop-part-preserved c = record {
  types =
      more_walked 16 (λ within. types_said (scope_view c.args.scope)) c.args.is_static (is_within (kinds_stack c.loop-part.opened.items))
      c.loop-part.found.types c.note_part.new.found.types _
      (kinds_stack c.loop-part.opened.items) (kinds_stack c.go_behind.new.opened.items) c.part-item.result c.args.parts.now c.loop-part.part-index
      c.loop-part-test.true c.part-item.is c.in_ok-go_behind.ensures refl c.in_ok-note_part.ensures.types c.loop-part.invariant.types;
  names =
      more_walked 17 (names_said (scope_view c.args.scope)) c.args.is_static c.is_in_with-in_with.result
      c.loop-part.found.names c.note_part.new.found.names _
      (kinds_stack c.loop-part.opened.items) (kinds_stack c.go_behind.new.opened.items) c.part-item.result c.args.parts.now c.loop-part.part-index
      c.loop-part-test.true c.part-item.is c.in_ok-go_behind.ensures (cc) c.in_ok-note_part.ensures.names c.loop-part.invariant.names;
  labels =
      more_said 18 (label_said (map (λ l. l.now) c.args.labels.now)) c.args.is_static c.loop-part.found.labels c.note_part.new.found.labels _
      c.part-item.result c.args.parts.now c.loop-part.part-index
      c.loop-part-test.true c.part-item.is c.in_ok-note_part.ensures.labels c.loop-part.invariant.labels;
}
