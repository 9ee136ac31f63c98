use Rattle.std.proofs.Common.{sym, ◌∙◌}
use Rattle.std.proofs.lemmas.Result.{IfOk-weaker}
use Rattle.bound_project.specs.DraftView.{draft_view}
use Rattle.bound_actions.proofs.Letting.{assigns_routine, assigns_sub}
use Rattle.bound_actions.proofs.assigning.assign_routine.Goals as goal

pub returns-then-is_sub_kind : goal.returns-then-is_sub_kind
returns-then-is_sub_kind c =
    let d = draft_view c.args.draft.now in
    let e = draft_view c.break_procedure.new.draft in
    IfOk-weaker c.break_procedure.result _ _ (λ k b. λ may. assigns_sub c.args.has_class may c.args.tree c.args.routine d e k c.requires (sym c.is_sub_kind.ensures ∙ c.if-is_sub_kind.true) b) c.break_procedure.ensures

pub returns : goal.returns
returns c =
    let d = draft_view c.args.draft.now in
    let m = draft_view c.called_ending.new.draft in
    let e = draft_view c.assign_value.new.draft in
    IfOk-weaker c.assign_value.result _ _
    (λ k a. λ may. assigns_routine c.args.has_class may c.args.tree c.args.routine c.in_ok-ending.ending k d m e c.requires (sym c.is_sub_kind.ensures ∙ c.if-is_sub_kind.false) c.in_ok-ending.ensures (a may)) c.assign_value.ensures
