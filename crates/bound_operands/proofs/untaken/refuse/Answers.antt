use Rattle.std.proofs.Common.{◌∷◌, ap, ◌∙◌}
use Rattle.std.specs.Prelude.{reverse}
use Rattle.bound_project.specs.DraftView.{draft_view}
use Rattle.bound_members.specs.bound_calls.specs.declared.term.Item.TheVariants as item
use Rattle.bound_operands.proofs.Untaking.{goes_refused, written}
use Rattle.bound_operands.proofs.untaken.refuse.Goals as goal

pub returns : goal.returns
returns c =
    let d = draft_view c.args.draft.now in
    let e = draft_view c.push_argument.new.draft in
    λ env. goes_refused env c.args.tree c.args.item (reverse c.args.stack.now.items) (reverse c.put_item-2.new.stack.items) c.args.name d e (c.in_ok-put_item-2.ensures ∙ ap (λ l. item.Shape (written c.args.name) ∷ l) c.in_ok-put_item.ensures)
    c.requires.refused c.requires.named c.in_ok-push_argument.ensures
