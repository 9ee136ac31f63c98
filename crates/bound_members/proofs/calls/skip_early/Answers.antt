use Rattle.bound_project.specs.DraftView.{draft_view}
use Rattle.bound_members.proofs.MemberSteps.{skips_early}
use Rattle.bound_members.proofs.calls.skip_early.Goals as goal

pub returns : goal.returns
returns c =
    skips_early c.args.call c.in_ok-count.count (draft_view c.args.draft.now) (draft_view c.push_missing.new.draft) c.in_ok-count.ensures c.requires.early c.requires.member c.requires.unnamed c.in_ok-push_missing.ensures
