use Rattle.std.proofs.Common.{ap, ◌∙◌}
use Rattle.vba_module.specs.Misplaced.{place_if}
use Rattle.constant_values.specs.declared_names.specs.binder.specs.Declarations as plain
use Rattle.constant_values.specs.declared_names.specs.binder.specs.Violations.{clashes, place_of_name}
use Rattle.constant_values.specs.declared_names.specs.View.{entry_view}
use Rattle.use_rules.specs.Found.{noted}
use Rattle.name_rules.proofs.Later.{later_noted}
use Rattle.name_rules.proofs.twice.note_clashes.Goals as goal

pub loop-number-preserved : goal.loop-number-preserved
loop-number-preserved c =
    let x = c.index-entries-number.result in
    later_noted 15 clashes (λ (e : plain.Entry). place_of_name e.name) entry_view c.loop-number.least c.note_place.new.least _ c.args.entries.now c.loop-number.number x
    c.loop-number-test.true c.index-entries-number.is
    (c.note_place.ensures ∙ ap (λ b. noted 15 c.loop-number.least (place_if b (place_of_name x.name.now))) c.clashes_among-broken.ensures) c.loop-number.invariant
