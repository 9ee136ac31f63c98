use Rattle.std.specs.Prelude.{reverse}
use Rattle.bound_project.specs.DraftView.{draft_view}
use Rattle.bound_operands.proofs.Library.{goes_to_function}
use Rattle.bound_operands.proofs.named.give_function.Goals as goal

pub add_named_value-requires : goal.add_named_value-requires
add_named_value-requires c = c.requires.0

pub returns : goal.returns
returns c =
    let xs = reverse c.args.stack.now.items in
    λ env comma name mark. goes_to_function env c.args.tree c.args.call c.in_ok-more.more xs (reverse c.put_item.new.stack.items) name comma mark (draft_view c.args.draft.now) (draft_view c.add_named_value.new.draft) c.in_ok-put_item.ensures
    c.requires c.in_ok-more.ensures
