use Rattle.std.proofs.Common.{◌∷◌, ap, ◌∙◌}
use Rattle.std.specs.Prelude.{reverse}
use Rattle.bound_project.specs.DraftView.{draft_view}
use Rattle.bound_calls.proofs.Steps.{settled}
use Rattle.bound_calls.proofs.stack.settle.Goals as goal

pub returns-in_ok-put_item-in-Some-Tree : goal.returns-in_ok-put_item-in-Some-Tree
returns-in_ok-put_item-in-Some-Tree c =
    let x = c.in-Some-Tree.tree in
    let xs = reverse c.take_item.new.stack.items in
    let d = draft_view c.args.draft.now in
    let e = draft_view c.push_left.new.draft in
    λ env. settled env x xs (reverse c.args.stack.now.items) (reverse c.put_item.new.stack.items) d e c.in_ok-left-in-Some-Tree.left (c.in-Some-Tree.ensures ∙ ap (λ i. i ∷ xs) c.in-Some-Tree.field-0-is) c.in_ok-put_item-in-Some-Tree.ensures c.requires
    c.in_ok-left-in-Some-Tree.ensures
