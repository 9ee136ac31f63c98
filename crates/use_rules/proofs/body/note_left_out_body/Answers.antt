use Rattle.declared_names.specs.binder.specs.LeftOut.{said_left_out}
use Rattle.declared_names.specs.View.{scope_view}
use Rattle.use_rules.proofs.Standing.{more_plain}
use Rattle.use_rules.proofs.body.note_left_out_body.Goals as goal

pub loop-part-preserved : goal.loop-part-preserved
loop-part-preserved c =
    more_plain 23 (said_left_out (scope_view c.args.scope)) c.args.is_static c.loop-part.least c.note_left_out_part.new.least _
    c.part-item.result c.args.parts.now c.loop-part.part-index
    c.loop-part-test.true c.part-item.is c.in_ok-note_left_out_part.ensures c.loop-part.invariant
