use Rattle.std.proofs.Common.{Bor}
use Rattle.constant_values.specs.declared_names.specs.binder.specs.Violations as violations
use Rattle.constant_values.specs.declared_names.specs.View.{scope_view}
use Rattle.said_parts.specs.View.{field_view}
use Rattle.vba_tree.specs.declared.line.TypeMember.{TypeMember}
use Rattle.name_rules.specs.Held.{number_in_field}
use Rattle.name_rules.proofs.Gathered.{collected}
use Rattle.name_rules.proofs.TypesHeld.{field_held}
use Rattle.name_rules.proofs.recursive.held_in.Goals as goal

pub loop-field-preserved : goal.loop-field-preserved
loop-field-preserved c =
    let s = scope_view c.args.scope in
    collected (violations.held_in s) (number_in_field s) (field_held s) (λ (f : Bor TypeMember). field_view f.now) c.loop-field.held.items c.push_held.new.held.items _
    c.args.fields.now c.loop-field.field-index c.field-item.result c.loop-field-test.true c.field-item.is c.in_ok-push_held.ensures c.loop-field.invariant
