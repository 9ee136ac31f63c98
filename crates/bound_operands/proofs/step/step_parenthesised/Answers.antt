use Rattle.std.proofs.Common.{◌∷◌, ap, ◌∙◌}
use Rattle.std.specs.Prelude.{reverse}
use Rattle.bound_project.specs.DraftView.{draft_view}
use Rattle.bound_members.specs.bound_calls.proofs.Steps.{goes_parenthesised}
use Rattle.bound_operands.proofs.step.step_parenthesised.Goals as goal

pub returns : goal.returns
returns c =
    let x = c.in-Some-Tree.tree in
    let xs = reverse c.take_item.new.stack.items in
    let d = draft_view c.args.draft.now in
    let e = draft_view c.given_ending.new.draft in
    λ env left right. goes_parenthesised env x left right c.in_ok-ending.ending xs (reverse c.args.stack.now.items) (reverse c.put_item.new.stack.items) d e (c.in-Some-Tree.ensures ∙ ap (λ i. i ∷ xs) c.in-Some-Tree.field-0-is)
    c.in_ok-put_item.ensures c.requires c.in_ok-ending.ensures
