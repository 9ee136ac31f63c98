use Rattle.std.proofs.Common.{◌≡◌, length}
use Rattle.std.specs.Prelude.{reverse}
use Rattle.bound_calls.specs.Shapes.{with_shapes}
use Rattle.bound_calls.proofs.shapes.take_shapes.Given as goal

abbrev pub invariant-loop-last_first : goal.invariant-loop-last_first
invariant-loop-last_first l = reverse l.fn.stack.items ≡ with_shapes l.last_first.items (reverse l.stack.items)

abbrev pub decreases-loop-last_first : goal.decreases-loop-last_first
decreases-loop-last_first l = length (reverse l.stack.items)
