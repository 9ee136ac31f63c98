use Rattle.std.proofs.Common.{◌≡◌, ◌+◌, drop}
use Rattle.bound_calls.specs.InOrder.{place_in}
use Rattle.bound_calls.proofs.orders.place_in.Given as goal

abbrev pub invariant-loop-other : goal.invariant-loop-other
invariant-loop-other l = l.place + place_in l.number (drop l.other-index l.numbers) ≡ place_in l.number l.numbers
