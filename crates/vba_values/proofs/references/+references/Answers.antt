use Rattle.std.proofs.Common.{◌++◌, take, sym, ap, ◌∙◌, append_assoc, arith}
use Rattle.vba_values.specs.Objects.{references_in, references_of}
use Rattle.vba_values.specs.View.{view, views}
use Rattle.vba_values.proofs.ReferencesInOrder.{references_next}
use Rattle.vba_values.proofs.references.+references.Goals as goal

pub add_inner_references-loop-item-preserved : goal.add_inner_references-loop-item-preserved
add_inner_references-loop-item-preserved t c =
    c.in_ok-add_references.ensures
    ∙ ap (λ rs. rs ++ references_of (view c.item-item.result)) c.loop-item.invariant
    ∙ append_assoc c.args.references.now.items (references_in (views (take c.loop-item.item-index c.deref-item-items.result.now))) (references_of (view c.item-item.result))
    ∙ ap (λ rs. c.args.references.now.items ++ rs)
    (ap (λ x. references_in (views (take c.loop-item.item-index c.deref-item-items.result.now)) ++ references_of (view x)) c.item-item.is
    ∙ sym (references_next c.deref-item-items.result.now c.loop-item.item-index c.item-item.result (omega arith)))
