use Rattle.std.proofs.Common.{◌≡◌, drop}
use Rattle.bound_calls.specs.InOrder.{is_there}
use Rattle.bound_calls.proofs.orders.is_there.Given as goal

abbrev pub invariant-loop-other : goal.invariant-loop-other
invariant-loop-other l = is_there l.number (drop l.other-index l.numbers) ≡ is_there l.number l.numbers
