use Rattle.std.proofs.Common.{sym, ◌∙◌}
use Rattle.bound_project.specs.DraftView.{draft_view}
use Rattle.bound_members.proofs.MemberSteps.{pushes_written}
use Rattle.bound_members.proofs.calls.push_written.Goals as goal

pub returns : goal.returns
returns c =
    pushes_written c.args.tree c.in_ok-ending.ending c.in_ok-mark_given.field-0 (draft_view c.args.draft.now) (draft_view c.given_ending.new.draft) (draft_view c.push_node.new.draft) (draft_view c.mark_given.new.draft)
    (sym c.is_value_kind.ensures ∙ c.if-not-is_value_kind.false) c.in_ok-ending.ensures c.in_ok-push_node.ensures c.in_ok-mark_given.ensures
