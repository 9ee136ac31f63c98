use Rattle.std.proofs.Common.{◌∷◌, refl, sym, ◌∙◌}
use Rattle.std.specs.Prelude.{reverse}
use Rattle.bound_project.specs.DraftView.{draft_view}
use Rattle.bound_members.specs.bound_calls.specs.declared.term.Item.TheVariants as item
use Rattle.bound_members.specs.bound_calls.proofs.Steps.{goes_binary}
use Rattle.bound_operands.proofs.step.step_operands.Goals as goal

pub returns : goal.returns
returns c =
    let left = c.in-Some.left in
    let xs = reverse c.take_operands.new.stack.items in
    let d = draft_view c.args.draft.now in
    let e = draft_view c.push_operand.new.draft in
    λ env compare. goes_binary env left c.in-Some.right c.args.operator c.args.token c.in_ok-of.of c.in_ok-term.term xs (reverse c.args.stack.now.items) (item.Operand left ∷ xs) (reverse c.put_item.new.stack.items) d e c.args.compare
    (sym c.is_same.ensures ∙ c.if-is_same.false) c.if-left.false compare c.in-Some.ensures refl c.in_ok-put_item.ensures c.requires c.in_ok-of.ensures c.in_ok-term.ensures
