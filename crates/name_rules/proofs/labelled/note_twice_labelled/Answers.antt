use Rattle.std.proofs.Common.{Bor, ap, ◌∙◌}
use Rattle.vba_tree.specs.declared.line.LineLabel.{LineLabel}
use Rattle.vba_module.specs.Misplaced.{place_if}
use Rattle.constant_values.specs.declared_names.specs.binder.specs.Violations.{place_of_label, same_label}
use Rattle.use_rules.specs.Found.{noted}
use Rattle.name_rules.proofs.Later.{later_noted}
use Rattle.name_rules.proofs.labelled.note_twice_labelled.Goals as goal

pub loop-number-preserved : goal.loop-number-preserved
loop-number-preserved c =
    let x = c.index-labels-number.result in
    later_noted 19 same_label place_of_label (λ (y : Bor LineLabel). y.now) c.loop-number.least c.note_place.new.least _ c.args.labels.now c.loop-number.number x
    c.loop-number-test.true c.index-labels-number.is
    (c.note_place.ensures
    ∙ ap (λ place. noted 19 c.loop-number.least (place_if c.stands_among-broken.result place)) c.place_of_label.ensures
    ∙ ap (λ b. noted 19 c.loop-number.least (place_if b (place_of_label x.now))) c.stands_among-broken.ensures) c.loop-number.invariant
