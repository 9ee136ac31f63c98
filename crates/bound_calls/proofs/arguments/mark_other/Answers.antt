use Rattle.std.proofs.Common.{ℕ, ap, ◌∙◌}
use Rattle.std.proofs.lemmas.Result.{on_ok_weaker}
use Rattle.bound_project.specs.DraftView.{draft_view}
use Rattle.bound_calls.proofs.Arguing.{behind, marked_by, marked_other}
use Rattle.bound_calls.proofs.Referring.{variant}
use Rattle.bound_calls.proofs.arguments.mark_other.Goals as goal

pub returns : goal.returns
returns c =
    let d = draft_view c.args.draft.now in
    let d1 = draft_view c.push_node.new.draft in
    let d2 = draft_view c.push_node-2.new.draft in
    let d3 = draft_view c.push_node-3.new.draft in
    let e = draft_view c.push_node-4.new.draft in
    let by_rule = c.in_ok-push_node-3.ensures ∙ ap (λ (rule : ℕ). behind (marked_by rule c.args.place) c.args.place variant d2) c.other_rule-rule.ensures in
    on_ok_weaker c.push_node-4.result (λ n. marked_other c.args.lent c.args.parameter c.args.place d d1 d2 d3 e c.in_ok-push_node.ensures c.in_ok-push_node-2.ensures by_rule n) c.push_node-4.ensures
