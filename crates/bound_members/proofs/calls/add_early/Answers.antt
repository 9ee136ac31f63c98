use Rattle.bound_project.specs.DraftView.{draft_view}
use Rattle.bound_members.proofs.MemberSteps.{adds_early}
use Rattle.bound_members.proofs.calls.add_early.Goals as goal

pub returns : goal.returns
returns c =
    adds_early c.args.call c.args.tree c.in_ok-count.count c.in_ok-written.written c.args.named (draft_view c.args.draft.now) (draft_view c.push_written.new.draft) c.in_ok-count.ensures c.in_ok-written.ensures c.requires.early c.requires.member c.in_ok-push_written.ensures
