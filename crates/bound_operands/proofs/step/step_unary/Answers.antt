use Rattle.std.proofs.Common.{◌∷◌, ap, ◌∙◌}
use Rattle.std.specs.Prelude.{reverse}
use Rattle.bound_project.specs.DraftView.{draft_view}
use Rattle.bound_members.specs.bound_calls.proofs.Steps.{goes_unary}
use Rattle.bound_operands.proofs.step.step_unary.Goals as goal

pub returns : goal.returns
returns c =
    let x = c.in-Some-Tree.tree in
    let xs = reverse c.take_item.new.stack.items in
    let d = draft_view c.args.draft.now in
    let e = draft_view c.push_operand.new.draft in
    λ env. goes_unary env x c.args.operator c.args.token c.in_ok-of.of c.in_ok-term.term xs (reverse c.args.stack.now.items) (reverse c.put_item.new.stack.items) d e (c.in-Some-Tree.ensures ∙ ap (λ i. i ∷ xs) c.in-Some-Tree.field-0-is)
    c.in_ok-put_item.ensures c.requires c.in_ok-of.ensures c.in_ok-term.ensures
