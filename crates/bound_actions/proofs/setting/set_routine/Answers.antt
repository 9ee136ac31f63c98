use Rattle.std.proofs.lemmas.Result.{IfOk-weaker}
use Rattle.bound_project.specs.DraftView.{draft_view}
use Rattle.bound_actions.proofs.Refusing.{routine_set}
use Rattle.bound_actions.proofs.setting.set_routine.Goals as goal

pub set_value-requires : goal.set_value-requires
set_value-requires c = c.in_ok-ending.ensures.named

pub returns : goal.returns
returns c =
    let d = draft_view c.args.draft.now in
    let m = draft_view c.called_ending.new.draft in
    let e = draft_view c.set_value.new.draft in
    IfOk-weaker c.set_value.result _ _ (λ k s. routine_set c.args.set_word c.args.place c.args.routine d m e c.in_ok-ending.ending k c.in_ok-ending.ensures s) c.set_value.ensures
