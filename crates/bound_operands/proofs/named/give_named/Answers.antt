use Rattle.std.specs.Prelude.{reverse}
use Rattle.bound_project.specs.DraftView.{draft_view}
use Rattle.bound_operands.proofs.NamedMembers.{goes_to_member}
use Rattle.bound_operands.proofs.named.give_named.Goals as goal

pub add_named-requires-clause-named : goal.add_named-requires-clause-named
add_named-requires-clause-named c = c.requires.0

pub add_named-requires-clause-member : goal.add_named-requires-clause-member
add_named-requires-clause-member c = c.requires.1.0

pub returns : goal.returns
returns c =
    let xs = reverse c.args.stack.now.items in
    λ env comma mark. goes_to_member env c.args.tree c.args.call c.in_ok-more.more xs (reverse c.put_item.new.stack.items) c.args.name.now comma mark (draft_view c.args.draft.now) (draft_view c.add_named.new.draft)
    c.in_ok-put_item.ensures c.requires c.in_ok-more.ensures
