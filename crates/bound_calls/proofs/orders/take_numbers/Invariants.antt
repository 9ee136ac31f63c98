use Rattle.std.proofs.Common.{◌≡◌, length}
use Rattle.std.specs.Prelude.{reverse}
use Rattle.bound_calls.specs.InOrder.{with_named}
use Rattle.bound_calls.proofs.orders.take_numbers.Given as goal

abbrev pub invariant-loop-numbers : goal.invariant-loop-numbers
invariant-loop-numbers l = reverse l.fn.stack.items ≡ with_named l.numbers.items (reverse l.stack.items)

abbrev pub decreases-loop-numbers : goal.decreases-loop-numbers
decreases-loop-numbers l = length (reverse l.stack.items)
