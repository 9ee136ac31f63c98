use Rattle.bound_project.specs.DraftView.{draft_view}
use Rattle.bound_operands.proofs.ElementEnds.{adds_led}
use Rattle.bound_operands.proofs.indexing.add_led.Goals as goal

pub returns : goal.returns
returns c =
    adds_led c.args.indexed c.args.tree c.in_ok-count.count (draft_view c.args.draft.now) (draft_view c.push_leading.new.draft) c.requires.led c.in_ok-count.ensures c.in_ok-push_leading.ensures
