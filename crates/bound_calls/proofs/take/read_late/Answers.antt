use Rattle.bound_project.specs.DraftView.{draft_view}
use Rattle.bound_calls.proofs.Taking.{reads_late}
use Rattle.bound_calls.proofs.take.read_late.Goals as goal

pub push_node-requires : goal.push_node-requires
push_node-requires c = c.in_ok-found.ensures.named

pub returns : goal.returns
returns c =
    reads_late c.args.member c.args.place (draft_view c.args.draft.now) (draft_view c.late_without_arguments.new.draft) (draft_view c.push_node.new.draft) c.in_ok-found.found c.requires.late c.in_ok-found.ensures c.in_ok-push_node.ensures
