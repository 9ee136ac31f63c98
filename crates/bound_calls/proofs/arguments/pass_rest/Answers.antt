use Rattle.bound_project.specs.DraftView.{draft_view}
use Rattle.bound_calls.proofs.Arguing.{resting_starts, resting_next, resting_done}
use Rattle.bound_calls.proofs.arguments.pass_rest.Goals as goal

pub loop-parameter-init : goal.loop-parameter-init
loop-parameter-init c = resting_starts c.args.parameters.now (draft_view c.args.draft.now)

pub loop-parameter-preserved : goal.loop-parameter-preserved
loop-parameter-preserved c =
    resting_next c.args.parameters.now (draft_view c.args.draft.now) (draft_view c.loop-parameter.draft) (draft_view c.pass_none.new.draft) c.loop-parameter.parameter-index c.parameter-item.result c.loop-parameter-test.true
    c.parameter-item.is c.loop-parameter.invariant c.in_ok-pass_none.ensures

pub returns : goal.returns
returns c =
    resting_done c.args.parameters.now (draft_view c.args.draft.now) (draft_view c.loop-parameter.draft) c.loop-parameter.parameter-index c.loop-parameter-test.false c.loop-parameter.invariant
