use Rattle.std.proofs.Common.{◌≡◌, Bool, true, false, not, ◌∷◌, refl}
use Rattle.std.specs.Prelude.{reverse}
use Rattle.bound_project.specs.DraftView.{draft_view}
use Rattle.bound_members.specs.bound_calls.specs.declared.term.Item.TheVariants as item
use Rattle.bound_members.specs.bound_calls.proofs.Steps.{goes_same_object}
use Rattle.bound_operands.proofs.step.step_same.Goals as goal

referred : (b : Bool) → not b ≡ false → b ≡ true
referred true h = refl
referred false h = let e : true ≡ false = h in absurd cc

pub returns : goal.returns
returns c =
    let left = c.in-Some.left in
    let xs = reverse c.take_operands.new.stack.items in
    let d = draft_view c.args.draft.now in
    let e = draft_view c.push_reference.new.draft in
    λ env. goes_same_object env left c.in-Some-of._of c.in_ok-push_reference.field-0 c.in-Some.right c.args.token xs (reverse c.args.stack.now.items) (item.Operand left ∷ xs) (reverse c.put_item.new.stack.items) d e (referred left.is_reference c.if-not-left.false)
    c.in-Some-of.is c.in-Some.ensures refl c.in_ok-put_item.ensures c.requires c.in_ok-push_reference.ensures
