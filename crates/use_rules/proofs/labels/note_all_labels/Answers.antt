use Rattle.std.proofs.Common.{map}
use Rattle.declared_names.specs.binder.specs.Violations.{label_said}
use Rattle.use_rules.proofs.SaidMore.{said_noted}
use Rattle.use_rules.proofs.labels.note_all_labels.Goals as goal

pub loop-one-preserved : goal.loop-one-preserved
loop-one-preserved c =
    said_noted 18 (label_said (map (λ l. l.now) c.args.labels.now)) c.loop-one.least c.note_label_said.new.least _ c.one-item.result c.args.said.now c.loop-one.one-index
    c.loop-one-test.true c.one-item.is c.note_label_said.ensures c.loop-one.invariant
