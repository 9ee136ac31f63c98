use Rattle.bound_project.specs.DraftView.{draft_view}
use Rattle.bound_operands.proofs.Library.{adds_value}
use Rattle.bound_operands.proofs.functions.add_value.Goals as goal

pub returns : goal.returns
returns c =
    adds_value c.args.call c.args.tree c.taking_of-taking.result c.in_ok-count.count (draft_view c.args.draft.now) (draft_view c.push_marked.new.draft) c.in_ok-count.ensures c.taking_of-taking.ensures c.in_ok-push_marked.ensures
