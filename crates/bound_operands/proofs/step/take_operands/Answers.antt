use Rattle.std.proofs.Common.{◌∷◌, ap, ◌∙◌}
use Rattle.std.specs.Prelude.{reverse}
use Rattle.bound_members.specs.bound_calls.specs.declared.term.Item.TheVariants as item
use Rattle.bound_operands.proofs.step.take_operands.Goals as goal

pub returns : goal.returns
returns c =
    let between = reverse c.take_item.new.stack.items in
    let xs = reverse c.take_item-2.new.stack.items in
    c.in-Some-Tree.ensures ∙ ap (λ i. i ∷ between) c.in-Some-Tree.field-0-is ∙ ap (λ is. item.Tree c.in-Some-Tree.right ∷ is) (c.in-Some-Operand.ensures ∙ ap (λ i. i ∷ xs) c.in-Some-Operand.field-0-is)
