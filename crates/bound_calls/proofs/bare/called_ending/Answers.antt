use Rattle.std.proofs.Common.{sym, ◌∙◌}
use Rattle.std.proofs.lemmas.Result.{IfOk-weaker}
use Rattle.bound_project.specs.DraftView.{draft_view}
use Rattle.bound_calls.proofs.Lacking.{calls_lacking, calls_taken}
use Rattle.bound_calls.proofs.bare.called_ending.Goals as goal

pub returns-then-not-takes_none : goal.returns-then-not-takes_none
returns-then-not-takes_none c =
    calls_lacking c.args.routine c.args.place (draft_view c.args.draft.now) (draft_view c.lacking_ending.new.draft) c.in_ok-ending.ending (sym c.takes_none.ensures ∙ c.if-not-takes_none.true) c.in_ok-ending.ensures

pub returns : goal.returns
returns c =
    IfOk-weaker c.routine_ending.result _ _
    (λ v h. calls_taken c.args.routine c.args.place (draft_view c.args.draft.now) (draft_view c.routine_ending.new.draft) v h) c.routine_ending.ensures
