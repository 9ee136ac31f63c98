use Rattle.std.proofs.lemmas.Result.{on_ok_weaker}
use Rattle.bound_project.specs.DraftView.{draft_view}
use Rattle.statement_terms.proofs.NamedCalls.{pushes_call}
use Rattle.statement_terms.proofs.statement_calls.push_call.Goals as goal

pub returns : goal.returns
returns c =
    let d = draft_view c.args.draft.now in
    let m = draft_view c.call_ending.new.draft in
    let e = draft_view c.push_term.new.draft in
    on_ok_weaker c.push_term.result (λ h. pushes_call c.args.routine c.args.passed c.args.place d m e c.in_ok-ending.ending c.in_ok-ending.ensures h) c.push_term.ensures
