use Rattle.std.proofs.Common.{◌≡◌, length}
use Rattle.bound_calls.specs.InOrder.{all_apart}
use Rattle.bound_calls.proofs.orders.are_apart.Given as goal

abbrev pub invariant-loop-number : goal.invariant-loop-number
invariant-loop-number l = all_apart l.rest ≡ all_apart l.numbers

abbrev pub decreases-loop-number : goal.decreases-loop-number
decreases-loop-number l = length l.rest
