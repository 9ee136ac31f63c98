use Rattle.std.proofs.Common.{Bor}
use Rattle.constant_values.specs.declared_names.specs.binder.specs.Violations.{field_faults}
use Rattle.constant_values.specs.declared_names.specs.View.{scope_view}
use Rattle.said_parts.specs.View.{field_view}
use Rattle.vba_tree.specs.declared.line.TypeMember.{TypeMember}
use Rattle.name_rules.proofs.Gathered.{item_noted}
use Rattle.name_rules.proofs.constants.note_fields.Goals as goal

pub loop-field-preserved : goal.loop-field-preserved
loop-field-preserved c =
    item_noted 20 (field_faults (scope_view c.args.constants.scope)) (λ (f : Bor TypeMember). field_view f.now) c.loop-field.least c.note_field.new.least _
    c.args.fields.now c.loop-field.field-index c.field-item.result c.loop-field-test.true c.field-item.is c.in_ok-note_field.ensures c.loop-field.invariant
