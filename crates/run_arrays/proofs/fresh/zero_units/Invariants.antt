use Rattle.std.proofs.Common.{◌≡◌, replicate}
use Rattle.run_arrays.proofs.fresh.zero_units.Given as goal

abbrev pub invariant-loop : goal.invariant-loop
invariant-loop l = l.units ≡ replicate l.counter 0
