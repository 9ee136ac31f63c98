use Rattle.std.proofs.lemmas.Result.{on_ok_weaker}
use Rattle.bound_project.specs.DraftView.{draft_view}
use Rattle.bound_calls.proofs.Taking.{pushes_sheet}
use Rattle.bound_calls.proofs.take.push_sheet.Goals as goal

pub returns : goal.returns
returns c =
    on_ok_weaker c.push_node.result (λ h. pushes_sheet c.nowhere.result (draft_view c.args.draft.now) (draft_view c.push_node.new.draft) c.nowhere.ensures h) c.push_node.ensures
