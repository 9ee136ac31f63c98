use Rattle.std.proofs.Common.{Bor}
use Rattle.vba_words.specs.declared.identifier.Identifier.{Identifier}
use Rattle.constant_values.specs.declared_names.specs.binder.specs.LeftOut.{suffix_left_out}
use Rattle.name_rules.proofs.Gathered.{item_noted}
use Rattle.name_rules.proofs.left_out.note_suffixes.Goals as goal

pub loop-name-preserved : goal.loop-name-preserved
loop-name-preserved c =
    item_noted 23 suffix_left_out (λ (x : Bor Identifier). x.now) c.loop-name.least c.note_suffix.new.least _
    c.args.names.now c.loop-name.name-index c.name-item.result c.loop-name-test.true c.name-item.is c.note_suffix.ensures c.loop-name.invariant
