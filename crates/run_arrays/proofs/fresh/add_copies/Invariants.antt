use Rattle.std.proofs.Common.{◌≡◌, ◌++◌, map, replicate}
use Rattle.vba_values.specs.View.{view}
use Rattle.run_arrays.proofs.fresh.add_copies.Given as goal

abbrev pub invariant-loop : goal.invariant-loop
invariant-loop l = map view l.items.items ≡ map view l.initial.items.items ++ replicate l.counter (view l.item)
