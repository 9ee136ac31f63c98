use Rattle.std.proofs.lemmas.Result.{IfOk-weaker}
use Rattle.bound_project.specs.DraftView.{draft_view}
use Rattle.bound_calls.proofs.Referring.{given_alone}
use Rattle.bound_calls.proofs.references.given_ending.Goals as goal

pub returns : goal.returns
returns c =
    IfOk-weaker c.read_given.result _ _
    (λ v h. given_alone c.args.term c.args.place (draft_view c.args.draft.now) (draft_view c.alone.new.draft) (draft_view c.read_given.new.draft) c.in_ok-made.made v c.in_ok-made.ensures h) c.read_given.ensures
