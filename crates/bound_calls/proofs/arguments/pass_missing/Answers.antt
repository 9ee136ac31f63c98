use Rattle.std.proofs.Common.{refl}
use Rattle.bound_project.specs.DraftView.{draft_view}
use Rattle.bound_calls.proofs.Arguing.{passes_missing}
use Rattle.bound_calls.proofs.arguments.pass_missing.Goals as goal

pub returns : goal.returns
returns c =
    passes_missing c.args.passed (record { left = c.in-Some.left; count = c.in_ok-count.count }) c.in-Some.parameter.now c.in-Some.left.now (draft_view c.args.draft.now) (draft_view c.pass_none.new.draft) c.in-Some.ensures.cases.0 refl
    c.in_ok-count.ensures c.if-parameter.false c.in_ok-pass_none.ensures
