use Rattle.bound_project.specs.DraftView.{draft_view}
use Rattle.bound_operands.proofs.Elements.{pushes_along}
use Rattle.bound_operands.proofs.indexing.push_along.Goals as goal

pub returns : goal.returns
returns c = pushes_along c.args.ending c.args.place (draft_view c.args.draft.now) (draft_view c.push_node.new.draft) c.in_ok-push_node.ensures
