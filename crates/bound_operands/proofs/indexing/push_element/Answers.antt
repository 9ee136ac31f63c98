use Rattle.bound_project.specs.DraftView.{draft_view}
use Rattle.bound_operands.proofs.Elements.{pushes_whole}
use Rattle.bound_operands.proofs.indexing.push_element.Goals as goal

pub returns : goal.returns
returns c = pushes_whole c.args.has_class c.args.ending c.in-Some.element c.args.place (draft_view c.args.draft.now) (draft_view c.push_node.new.draft) c.in-Some.ensures c.in_ok-push_node.ensures
