use Rattle.bound_project.specs.DraftView.{draft_view}
use Rattle.bound_operands.proofs.Elements.{opens_along}
use Rattle.bound_operands.proofs.indexing.open_along.Goals as goal

pub returns : goal.returns
returns c = λ env late. opens_along env c.args.tree c.args.at (draft_view c.args.draft.now) (draft_view c.push_node.new.draft) c.in_ok-push_node.ensures late
