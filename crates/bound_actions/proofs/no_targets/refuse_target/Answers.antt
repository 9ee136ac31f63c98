use Rattle.std.proofs.lemmas.Result.{IfOk-weaker}
use Rattle.bound_project.specs.DraftView.{draft_view}
use Rattle.bound_actions.proofs.Refusing.{routine_refused, target_refused}
use Rattle.bound_actions.proofs.no_targets.refuse_target.Goals as goal

pub returns-in-Routine : goal.returns-in-Routine
returns-in-Routine c =
    let d = draft_view c.args.draft.now in
    let e = draft_view c.break_procedure.new.draft in
    IfOk-weaker c.break_procedure.result _ _ (λ k b. routine_refused c.args.term c.in-Routine.routine c.args.place d e k c.in-Routine.is b) c.break_procedure.ensures

pub returns-in_ok-push_broken-in_default : goal.returns-in_ok-push_broken-in_default
returns-in_ok-push_broken-in_default c = target_refused c.args.term c.args.place (draft_view c.args.draft.now) (draft_view c.push_broken.new.draft) c.in_default.not-Routine c.in_ok-push_broken-in_default.ensures
