use Rattle.std.proofs.lemmas.Result.{on_ok_weaker}
use Rattle.bound_project.specs.DraftView.{draft_view}
use Rattle.bound_actions.proofs.NamedCalls.{pushes_values}
use Rattle.bound_actions.proofs.statement_calls.push_values.Goals as goal

pub returns : goal.returns
returns c =
    let d = draft_view c.args.draft.now in
    let m = draft_view c.gathered_ending.new.draft in
    let e = draft_view c.push_term.new.draft in
    on_ok_weaker c.push_term.result (λ h. pushes_values c.args.routine c.args.passed c.args.values c.args.place d m e c.in_ok-ending.ending c.requires c.in_ok-ending.ensures h) c.push_term.ensures
