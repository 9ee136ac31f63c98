use Rattle.std.proofs.Common.{arith}
use Rattle.bound_project.specs.DraftView.{draft_view}
use Rattle.bound_calls.proofs.NamedSteps.{othering_next, othering_done}
use Rattle.bound_calls.proofs.orders.pass_others.Goals as goal

pub loop-parameter-preserved : goal.loop-parameter-preserved
loop-parameter-preserved c = (
  omega (arith, c.in_ok-number.ensures, c.loop-parameter.invariant.0),
  othering_next c.args.parameters.now c.args.given.now c.loop-parameter.parameter-index (draft_view c.args.draft.now) (draft_view c.loop-parameter.draft) (draft_view c.pass_other.new.draft) c.loop-parameter.others.items
      c.pass_other.new.others.items c.parameter-item.result c.loop-parameter.number c.loop-parameter-test.true c.parameter-item.is c.loop-parameter.invariant.0 c.loop-parameter.invariant.1 c.in_ok-pass_other.ensures,
)

pub returns : goal.returns
returns c =
    othering_done c.args.parameters.now c.args.given.now c.loop-parameter.parameter-index (draft_view c.args.draft.now) (draft_view c.loop-parameter.draft) c.loop-parameter.others.items c.loop-parameter-test.false
    c.loop-parameter.invariant.1
