use Rattle.std.proofs.Common.{List, sym, ap, ◌∙◌}
use Rattle.std.specs.Prelude.{reverse}
use Rattle.bound_calls.specs.declared.term.Shape.{Shape}
use Rattle.bound_calls.specs.declared.term.Item.{Item}
use Rattle.bound_calls.specs.Shapes.{with_shape, with_shapes}
use Rattle.bound_calls.proofs.ShapeSteps.{shapes_more}
use Rattle.bound_calls.proofs.shapes.take_shapes.Goals as goal

pub loop-last_first-preserved : goal.loop-last_first-preserved
loop-last_first-preserved c =
    let ss = c.loop-last_first.last_first.items in
    let xs = reverse c.take_shape.new.stack.items in
    c.loop-last_first.invariant ∙ ap (λ (l : List Item). with_shapes ss l) (c.in_ok-shape.ensures ∙ ap (λ o. with_shape o xs) c.in-Some.is) ∙ sym (shapes_more ss c.in-Some.shape xs)
    ∙ ap (λ (l : List Shape). with_shapes l xs) (sym c.in_ok-push.ensures.items)
