use Rattle.std.proofs.Common.{Bor, ap, ◌∙◌}
use Rattle.vba_words.specs.declared.identifier.Identifier.{Identifier}
use Rattle.vba_module.specs.Misplaced.{place_if}
use Rattle.constant_values.specs.declared_names.specs.binder.specs.Violations.{place_of_name, same_name}
use Rattle.use_rules.specs.Found.{noted}
use Rattle.name_rules.proofs.Later.{later_noted}
use Rattle.name_rules.proofs.twice.note_twice.Goals as goal

pub loop-number-preserved : goal.loop-number-preserved
loop-number-preserved c =
    let x = c.index-names-number.result in
    later_noted 15 same_name place_of_name (λ (y : Bor Identifier). y.now) c.loop-number.least c.note_place.new.least _ c.args.names.now c.loop-number.number x
    c.loop-number-test.true c.index-names-number.is
    (c.note_place.ensures ∙ ap (λ b. noted 15 c.loop-number.least (place_if b (place_of_name x.now))) c.is_among-broken.ensures) c.loop-number.invariant
