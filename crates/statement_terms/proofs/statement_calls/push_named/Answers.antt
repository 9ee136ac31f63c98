use Rattle.std.proofs.lemmas.Result.{on_ok_weaker}
use Rattle.std.specs.Prelude.{reverse}
use Rattle.bound_project.specs.DraftView.{draft_view}
use Rattle.statement_terms.proofs.NamedCalls.{pushes_named, some_reversed}
use Rattle.statement_terms.proofs.statement_calls.push_named.Goals as goal

pub returns : goal.returns
returns c =
    let d = draft_view c.args.draft.now in
    let m = draft_view c.named_ending.new.draft in
    let e = draft_view c.push_term.new.draft in
    let named = c.args.named.items in
    on_ok_weaker c.push_term.result (λ h. pushes_named c.args.routine c.args.passed (reverse named) c.args.place d m e c.in_ok-ending.ending (some_reversed named c.requires) c.in_ok-ending.ensures h) c.push_term.ensures
