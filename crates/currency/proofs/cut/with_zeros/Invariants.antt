use Rattle.std.proofs.Common.{◌≡◌, ◌*◌, ◌^◌}
use Rattle.std.specs.Prelude.{min}
use Rattle.currency.specs.Cut.{greatest}
use Rattle.currency.proofs.cut.with_zeros.Given as goal

abbrev pub invariant-loop : goal.invariant-loop
invariant-loop l = l.size ≡ min (l.start * 10 ^ l.counter) greatest
