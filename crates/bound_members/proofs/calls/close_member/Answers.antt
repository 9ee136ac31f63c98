use Rattle.std.proofs.Common.{sym, ◌∙◌}
use Rattle.bound_project.specs.DraftView.{draft_view}
use Rattle.bound_members.proofs.MemberSteps.{ends_member}
use Rattle.bound_members.proofs.calls.close_member.Goals as goal

pub returns : goal.returns
returns c =
    ends_member c.args.call (draft_view c.args.draft.now).tables c.in_ok-kind.kind (sym c.lacks_arguments.ensures ∙ c.if-lacks_arguments.false) (λ t. sym (c.takes_arguments.ensures t) ∙ c.if-not-takes_arguments.false) c.in_ok-kind.ensures
