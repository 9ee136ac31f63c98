use Rattle.bound_project.specs.DraftView.{draft_view}
use Rattle.bound_calls.proofs.Taking.{reads_early}
use Rattle.bound_calls.proofs.take.read_early.Goals as goal

pub returns : goal.returns
returns c = reads_early c.args.member c.args.place (draft_view c.args.draft.now) (draft_view c.push_node.new.draft) c.requires.early c.requires.named c.in_ok-push_node.ensures
