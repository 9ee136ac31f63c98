use Rattle.std.proofs.Common.{ℕ, sym, subst}
use Rattle.std.proofs.lemmas.Result.{IfOk-weaker}
use Rattle.bound_project.specs.DraftView.{draft_view}
use Rattle.bound_actions.specs.Raised.{LeftPushed}
use Rattle.bound_actions.proofs.Raised.{left_gathered}
use Rattle.bound_actions.proofs.events.push_left.Goals as goal

pub returns-then-values-eq0 : goal.returns-then-values-eq0
returns-then-values-eq0 c =
    let w = c.in_ok-_written in
    let P : ℕ → Type 0 = λ n. LeftPushed c.args.passed n (draft_view c.args.draft.now) (draft_view c.push_rest.new.draft) w.arguments in
    subst P (sym c.if-values-eq0.true) (w._written, w.ensures)

pub returns : goal.returns
returns c =
    let d = draft_view c.args.draft.now in
    let e = draft_view c.push_gathered.new.draft in
    IfOk-weaker c.push_gathered.result _ _ (λ n h. left_gathered c.args.passed c.args.values d e n c.if-values-eq0.false h) c.push_gathered.ensures
