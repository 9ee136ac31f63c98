use Rattle.std.proofs.Common.{None, if◌then◌else◌, sym, ap, ◌∙◌}
use Rattle.bound_project.specs.DraftView.{draft_view}
use Rattle.bound_members.specs.bound_calls.specs.bound_forms.specs.ExpressionsBound.{arguments_rule}
use Rattle.bound_members.specs.bound_calls.specs.Standing.{member_is}
use Rattle.bound_operands.proofs.untaken.member_rule.Goals as goal

pub returns : goal.returns
returns c =
    let t = (draft_view c.args.draft.now).tables in
    c.arguments_rule.ensures t ∙ sym (ap (λ b. if b then None else arguments_rule (member_is t c.args.member)) (sym c.in_ok-member_takes.ensures ∙ c.if-branch.false))
