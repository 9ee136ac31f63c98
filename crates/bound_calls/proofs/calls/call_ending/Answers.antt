use Rattle.bound_project.specs.DraftView.{draft_view}
use Rattle.bound_calls.proofs.CallSteps.{ends_call}
use Rattle.bound_calls.proofs.calls.call_ending.Goals as goal

pub returns : goal.returns
returns c =
    ends_call c.args.routine c.args.passed (draft_view c.args.draft.now) (draft_view c.pass_rest.new.draft) c.in_ok-left.left c.in_ok-arguments.arguments c.call_kind.result c.call_kind.ensures c.in_ok-left.ensures c.in_ok-arguments.ensures c.in_ok-pass_rest.ensures
