use Rattle.std.proofs.Common.{◌≡◌, map, take}
use Rattle.vba_values.specs.View.{view}
use Rattle.run_arrays.proofs.preserve.copies.Given as goal

abbrev pub invariant-loop-item : goal.invariant-loop-item
invariant-loop-item l = map view l.copies.items ≡ map view (take l.item-index l.items)
