use Rattle.std.proofs.Common.{◌≡◌}
use Rattle.bound_calls.specs.InOrder.{places_from}
use Rattle.bound_calls.proofs.orders.places_of.Given as goal

abbrev pub invariant-loop-number : goal.invariant-loop-number
invariant-loop-number l = l.places.items ≡ places_from 0 l.number l.numbers
