use Rattle.std.proofs.lemmas.Result.{IfOk-weaker}
use Rattle.bound_project.specs.DraftView.{draft_view}
use Rattle.bound_calls.proofs.Referring.{operand_alone}
use Rattle.bound_calls.proofs.Taking.{no_err}
use Rattle.bound_calls.proofs.references.push_other.Goals as goal

pub returns : goal.returns
returns c =
    let x = c.args.tree in
    IfOk-weaker c.push_standing.result _ _
    (λ of h. operand_alone x (draft_view c.args.draft.now) (draft_view c.alone.new.draft) (draft_view c.push_standing.new.draft) c.in_ok-made.made of (no_err x.term c.requires.other) c.in_ok-made.ensures h) c.push_standing.ensures
