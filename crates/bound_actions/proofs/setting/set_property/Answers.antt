use Rattle.std.proofs.Common.{true, false, refl, sym, ◌∙◌}
use Rattle.std.proofs.lemmas.Result.{IfOk-weaker}
use Rattle.bound_project.specs.DraftView.{draft_view}
use Rattle.bound_actions.proofs.Refusing.{sets_property}
use Rattle.bound_actions.proofs.setting.set_property.Goals as goal

pub returns-then-may_be_object : goal.returns-then-may_be_object
returns-then-may_be_object c =
    let d = draft_view c.args.draft.now in
    let e = draft_view c.break_procedure.new.draft in
    IfOk-weaker c.break_procedure.result _ _
    (λ k b. sets_property c.args.set_word c.args.place c.args.receiver c.args.of 27 c.args.place true d e k (sym c.if-may_be_object.true ∙ c.may_be_object.ensures) refl refl b) c.break_procedure.ensures

pub returns : goal.returns
returns c =
    let d = draft_view c.args.draft.now in
    let e = draft_view c.break_procedure-2.new.draft in
    IfOk-weaker c.break_procedure-2.result _ _
    (λ k b. sets_property c.args.set_word c.args.place c.args.receiver c.args.of 28 c.args.set_word false d e k (sym c.if-may_be_object.false ∙ c.may_be_object.ensures) refl refl b) c.break_procedure-2.ensures
