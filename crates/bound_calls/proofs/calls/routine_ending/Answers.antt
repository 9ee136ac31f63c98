use Rattle.std.proofs.Common.{refl}
use Rattle.std.proofs.lemmas.Result.{IfOk-weaker}
use Rattle.bound_project.specs.DraftView.{draft_view}
use Rattle.bound_calls.proofs.CallSteps.{calls_routine}
use Rattle.bound_calls.proofs.calls.routine_ending.Goals as goal

pub returns : goal.returns
returns c =
    let r = c.args.routine in
    IfOk-weaker c.call_ending.result _ _
    (λ v h. calls_routine r (record { left = r.parameters; count = 0 }) (draft_view c.args.draft.now) (draft_view c.push_receiver.new.draft) (draft_view c.call_ending.new.draft) v refl refl c.in_ok-push_receiver.ensures h) c.call_ending.ensures
