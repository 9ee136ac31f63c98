use Rattle.bound_project.specs.DraftView.{draft_view}
use Rattle.bound_calls.proofs.Taking.{reads_member}
use Rattle.bound_calls.proofs.take.member_ending.Goals as goal

pub returns : goal.returns
returns c = reads_member c.args.member (draft_view c.args.draft.now) (draft_view c.read_bare.new.draft) c.in_ok-kind.kind c.if-member-ne0.false c.in_ok-kind.ensures
