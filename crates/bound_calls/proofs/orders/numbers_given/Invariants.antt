use Rattle.std.proofs.Common.{◌≡◌, ◌++◌, length}
use Rattle.std.specs.Prelude.{reverse}
use Rattle.bound_calls.specs.InOrder.{numbers_given}
use Rattle.bound_calls.proofs.orders.numbers_given.Given as goal

abbrev pub invariant-loop-number : goal.invariant-loop-number
invariant-loop-number l = l.numbers.items ++ reverse l.named.items ≡ numbers_given l.fn.count (reverse l.fn.named.items)

abbrev pub decreases-loop-number : goal.decreases-loop-number
decreases-loop-number l = length l.named.items
