use Rattle.bound_project.specs.DraftView.{draft_view}
use Rattle.bound_project.specs.View.{declarations_view}
use Rattle.bound_operands.proofs.LedItems.{pushes_led}
use Rattle.bound_operands.proofs.leading.push_led.Goals as goal

pub returns : goal.returns
returns c =
    pushes_led (declarations_view c.args.declared.now) c.args.class c.args.count c.args.ending c.args.place (draft_view c.args.draft.now) (draft_view c.push_node.new.draft) c.in_ok-item.item c.requires.class c.in_ok-push_node.ensures c.in_ok-item.ensures
