use Rattle.std.proofs.Common.{◌≡◌, List, ◌∷◌, true, false, ap, subst, ◌∙◌}
use Rattle.std.specs.Prelude.{reverse}
use Rattle.bound_project.specs.DraftView.{draft_view}
use Rattle.bound_project.specs.View.{declarations_view}
use Rattle.bound_members.specs.bound_calls.specs.declared.term.Shape.{Shape}
use Rattle.bound_operands.specs.Untaken.{ClosesUntaken}
use Rattle.bound_operands.proofs.Untaking.{goes_untaken}
use Rattle.bound_operands.proofs.untaken.index_untaken.Goals as goal

pub returns-in-Some-Untaken : goal.returns-in-Some-Untaken
returns-in-Some-Untaken c =
    let xs = reverse c.take_item.new.stack.items in
    let x = c.in-Some-Untaken.untaken in
    let d = draft_view c.args.draft.now in
    let y = c.in_ok-tree-in-Some-Untaken.tree in
    let C : List Shape → Type 0 = λ (l : List Shape). ClosesUntaken (declarations_view c.args.declared.now) d x l y in
    record {
      yes = λ e env told left right. goes_untaken env x c.in_ok-shapes.shapes.items c.in_ok-tree-in-Some-Untaken.tree (declarations_view c.args.declared.now) told left right xs (reverse c.args.stack.now.items) (reverse c.take_shapes.new.stack.items) (reverse c.put_item.new.stack.items) (draft_view c.args.draft.now)
          c.in_ok-shapes.ensures (c.in-Some-Untaken.ensures ∙ ap (λ i. i ∷ xs) c.in-Some-Untaken.field-0-is) c.in_ok-put_item-in-Some-Untaken.ensures c.requires (subst C c.deref.ensures.value c.in_ok-tree-in-Some-Untaken.ensures);
      no = λ e. let n : true ≡ false = e in absurd cc;
    }
