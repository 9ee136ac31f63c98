use Rattle.std.specs.Prelude.{reverse}
use Rattle.bound_project.specs.DraftView.{draft_view}
use Rattle.bound_project.specs.View.{declarations_view}
use Rattle.bound_operands.proofs.ElementEnds.{goes_end}
use Rattle.bound_operands.proofs.call_steps.step_index.Goals as goal

pub returns : goal.returns
returns c =
    let xs = reverse c.take_item.new.stack.items in
    λ env told left right. goes_end env c.in-Some.item c.in_ok-tree.tree (declarations_view c.args.declared.now) told left right xs (reverse c.args.stack.now.items) (reverse c.put_item.new.stack.items) (draft_view c.args.draft.now) (draft_view c.end_arguments.new.draft)
    c.in-Some.ensures c.in_ok-put_item.ensures c.requires c.in_ok-tree.ensures
