use Rattle.std.proofs.Common.{sym, ap, ◌∙◌}
use Rattle.std.proofs.lemmas.Result.{IfOk-weaker}
use Rattle.bound_project.specs.DraftView.{draft_view}
use Rattle.bound_members.specs.bound_calls.specs.Shapes.{shapes_given}
use Rattle.bound_members.specs.bound_calls.specs.Standing.{refused_rule}
use Rattle.bound_operands.proofs.untaken.refused_rule.Goals as goal

pub returns-in-Member : goal.returns-in-Member
returns-in-Member c =
    let t = (draft_view c.args.draft.now).tables in
    IfOk-weaker c.member_rule.result _ _ (λ found h. h ∙ sym (ap (λ r. refused_rule t r (shapes_given c.args.shapes.now)) c.in-Member.is)) c.member_rule.ensures

pub returns-in-Behind : goal.returns-in-Behind
returns-in-Behind c =
    let t = (draft_view c.args.draft.now).tables in
    IfOk-weaker c.rule_behind.result _ _ (λ found h. h ∙ sym (ap (λ r. refused_rule t r (shapes_given c.args.shapes.now)) c.in-Behind.is)) c.rule_behind.ensures

pub returns-in-Led : goal.returns-in-Led
returns-in-Led c =
    let t = (draft_view c.args.draft.now).tables in
    IfOk-weaker c.led_rule.result _ _ (λ found h. h ∙ sym (ap (λ r. refused_rule t r (shapes_given c.args.shapes.now)) c.in-Led.is)) c.led_rule.ensures
