use Rattle.std.proofs.lemmas.Result.{on_ok_weaker}
use Rattle.bound_project.specs.DraftView.{draft_view}
use Rattle.bound_calls.proofs.Arguing.{lent}
use Rattle.bound_calls.proofs.arguments.lend.Goals as goal

pub returns : goal.returns
returns c =
    let d = draft_view c.args.draft.now in
    let m = draft_view c.push_node.new.draft in
    let e = draft_view c.push_node-2.new.draft in
    on_ok_weaker c.push_node-2.result (λ n. lent c.args.kind c.args.place c.args.of d m e c.in_ok-push_node.ensures n) c.push_node-2.ensures
