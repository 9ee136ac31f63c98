use Rattle.bound_project.specs.DraftView.{draft_view}
use Rattle.bound_operands.proofs.Elements.{pushes_as_place}
use Rattle.bound_operands.proofs.indexing.push_as_place.Goals as goal

pub returns : goal.returns
returns c =
    pushes_as_place c.args.ending c.args.place (draft_view c.args.draft.now) (draft_view c.push_node.new.draft) (draft_view c.push_node-2.new.draft) c.in_ok-push_node.ensures c.in_ok-push_node-2.ensures
