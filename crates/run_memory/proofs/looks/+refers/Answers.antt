use Rattle.std.proofs.Common.{◌+◌, drop, ap, sym, ◌∙◌, arith}
use Rattle.std.specs.Prelude.{◌||◌}
use Rattle.vba_values.specs.View.{view, views}
use Rattle.vba_meaning.specs.References.{objects_in, objects_in_vals}
use Rattle.run_memory.specs.Referred.{occurs}
use Rattle.run_memory.proofs.Referred.{inside_next}
use Rattle.run_memory.proofs.looks.+refers.Goals as goal

pub any_inside_refers-returns-then-refers : goal.any_inside_refers-returns-then-refers
any_inside_refers-returns-then-refers t c =
    let o = c.args.object in
    let items = c.deref-item-items.result.now in
    let n = c.loop-item.item-index in
    let rest = occurs o (objects_in_vals (views (drop (n + 1) items))) in
    sym
    (c.loop-item.invariant
    ∙ inside_next o items n c.item-item.result (omega arith)
    ∙ ap (λ x. occurs o (objects_in (view x)) || rest) (sym c.item-item.is)
    ∙ ap (λ b. b || rest) (sym c.refers.ensures ∙ c.if-refers.true))
    ∙ ap (λ xs. occurs o (objects_in_vals (views xs))) c.deref-item-items.ensures.value

pub any_inside_refers-loop-item-preserved : goal.any_inside_refers-loop-item-preserved
any_inside_refers-loop-item-preserved t c =
    let o = c.args.object in
    let items = c.deref-item-items.result.now in
    let n = c.loop-item.item-index in
    let rest = occurs o (objects_in_vals (views (drop (n + 1) items))) in
    c.loop-item.invariant
    ∙ inside_next o items n c.item-item.result (omega arith)
    ∙ ap (λ x. occurs o (objects_in (view x)) || rest) (sym c.item-item.is)
    ∙ ap (λ b. b || rest) (sym c.refers.ensures ∙ c.if-refers.false)
