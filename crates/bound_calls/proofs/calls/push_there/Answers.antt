use Rattle.std.proofs.lemmas.Result.{on_ok_weaker}
use Rattle.bound_project.specs.DraftView.{draft_view}
use Rattle.bound_calls.proofs.CallSteps.{receives_pushed}
use Rattle.bound_calls.proofs.calls.push_there.Goals as goal

pub returns : goal.returns
returns c =
    on_ok_weaker c.push_node.result (λ h. receives_pushed c.args.of c.nowhere.result (draft_view c.args.draft.now) (draft_view c.push_node.new.draft) h) c.push_node.ensures
