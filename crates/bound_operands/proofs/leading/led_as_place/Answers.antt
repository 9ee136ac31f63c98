use Rattle.bound_project.specs.DraftView.{draft_view}
use Rattle.bound_project.specs.View.{declarations_view}
use Rattle.bound_operands.proofs.LedItems.{pushes_led_place}
use Rattle.bound_operands.proofs.leading.led_as_place.Goals as goal

pub returns : goal.returns
returns c =
    pushes_led_place (declarations_view c.args.declared.now) c.args.class c.args.count c.args.ending c.in-Type.of c.args.place (draft_view c.args.draft.now) (draft_view c.push_node.new.draft) (draft_view c.push_node-2.new.draft) c.requires.class
    c.in-Type.ensures c.in_ok-push_node.ensures c.in_ok-push_node-2.ensures
