use Rattle.std.proofs.Common.{ap, ◌∙◌}
use Rattle.vba_module.specs.Misplaced.{place_if}
use Rattle.bound_declarations.specs.constant_values.specs.declared_names.specs.binder.specs.Declarations as plain
use Rattle.bound_declarations.specs.constant_values.specs.declared_names.specs.binder.specs.Violations.{place_of_name}
use Rattle.bound_declarations.specs.constant_values.specs.declared_names.specs.View.{entry_view, scope_view}
use Rattle.signature_rules.specs.Signatures.{differ}
use Rattle.use_rules.specs.Found.{noted}
use Rattle.signature_rules.proofs.Later.{later_noted}
use Rattle.signature_rules.proofs.properties.note_properties.Goals as goal

pub loop-number-preserved : goal.loop-number-preserved
loop-number-preserved c =
    let x = c.index-entries-number.result in
    later_noted 31 (differ (scope_view c.args.scope)) (λ (e : plain.Entry). place_of_name e.name) entry_view c.loop-number.least c.note_place.new.least _ c.args.entries.now c.loop-number.number x
    c.loop-number-test.true c.index-entries-number.is
    (c.note_place.ensures ∙ ap (λ b. noted 31 c.loop-number.least (place_if b (place_of_name x.name.now))) c.in_ok-broken.ensures) c.loop-number.invariant
