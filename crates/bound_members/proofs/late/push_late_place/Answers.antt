use Rattle.std.proofs.lemmas.Result.{on_ok_weaker}
use Rattle.bound_project.specs.DraftView.{draft_view}
use Rattle.bound_members.proofs.LateSteps.{lends_late, still_named}
use Rattle.bound_members.proofs.late.push_late_place.Goals as goal

pub push_node-requires-2 : goal.push_node-requires-2
push_node-requires-2 c = still_named (draft_view c.args.draft.now) (draft_view c.push_node.new.draft) _ c.args.member c.in_ok-push_node.ensures c.requires.member

pub returns : goal.returns
returns c =
    let d = draft_view c.args.draft.now in
    let f = draft_view c.push_node.new.draft in
    on_ok_weaker c.push_node-2.result (λ h. lends_late c.args.aim c.args.member c.args.argument c.args.lent c.args.place c.args.place d f (draft_view c.push_node-2.new.draft) c.in_ok-push_node.ensures h) c.push_node-2.ensures
