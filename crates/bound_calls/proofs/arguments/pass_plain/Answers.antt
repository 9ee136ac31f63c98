use Rattle.std.proofs.Common.{refl}
use Rattle.bound_project.specs.DraftView.{draft_view}
use Rattle.bound_calls.proofs.Arguing.{passes_plain}
use Rattle.bound_calls.proofs.arguments.pass_plain.Goals as goal

pub returns : goal.returns
returns c =
    passes_plain c.args.passed (record { left = c.in-Some.left; count = c.in_ok-count.count }) c.args.tree c.in-Some.parameter.now c.in-Some.left.now (draft_view c.args.draft.now) (draft_view c.pass_tree.new.draft)
    c.in-Some.ensures.cases.0 refl c.in_ok-count.ensures c.in_ok-pass_tree.ensures
