use Rattle.std.proofs.lemmas.Result.{on_ok_weaker}
use Rattle.bound_project.specs.DraftView.{draft_view}
use Rattle.bound_calls.proofs.CallSteps.{receives_own}
use Rattle.bound_calls.proofs.calls.push_own.Goals as goal

pub returns : goal.returns
returns c =
    on_ok_weaker c.push_node-2.result
    (λ h. receives_own c.args.of c.nowhere.result c.nowhere-2.result (draft_view c.args.draft.now) (draft_view c.push_node.new.draft) (draft_view c.push_node-2.new.draft) c.nowhere.ensures c.in_ok-push_node.ensures h) c.push_node-2.ensures
