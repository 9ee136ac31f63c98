use Rattle.bound_project.specs.DraftView.{draft_view}
use Rattle.bound_operands.proofs.ElementEnds.{adds_along}
use Rattle.bound_operands.proofs.indexing.add_along.Goals as goal

pub returns : goal.returns
returns c =
    adds_along c.args.indexed c.args.tree c.in_ok-count.count (draft_view c.args.draft.now) (draft_view c.push_leading.new.draft) c.requires.along c.in_ok-count.ensures c.in_ok-push_leading.ensures
