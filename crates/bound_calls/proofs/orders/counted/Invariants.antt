use Rattle.std.proofs.Common.{◌≡◌}
use Rattle.bound_calls.specs.InOrder.{counted_from}
use Rattle.bound_calls.proofs.orders.counted.Given as goal

abbrev pub invariant-loop-number : goal.invariant-loop-number
invariant-loop-number l = l.numbers.items ≡ counted_from 0 l.number
