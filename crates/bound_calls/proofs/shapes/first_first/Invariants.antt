use Rattle.std.proofs.Common.{◌≡◌, ◌++◌, length}
use Rattle.std.specs.Prelude.{reverse}
use Rattle.bound_calls.proofs.shapes.first_first.Given as goal

abbrev pub invariant-loop-shape : goal.invariant-loop-shape
invariant-loop-shape l = l.left.items ++ reverse l.shapes.items ≡ l.fn.last_first.items

abbrev pub decreases-loop-shape : goal.decreases-loop-shape
decreases-loop-shape l = length l.left.items
