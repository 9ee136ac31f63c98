use Rattle.declared_names.specs.binder.specs.Violations.{types_said}
use Rattle.declared_names.specs.View.{scope_view}
use Rattle.use_rules.proofs.SaidMore.{said_noted}
use Rattle.use_rules.proofs.said_types.note_all_types.Goals as goal

pub loop-one-preserved : goal.loop-one-preserved
loop-one-preserved c =
    said_noted 16 (types_said (scope_view c.args.scope)) c.loop-one.least c.note_types_said.new.least _ c.one-item.result c.args.said.now c.loop-one.one-index
    c.loop-one-test.true c.one-item.is c.in_ok-note_types_said.ensures c.loop-one.invariant
