use Rattle.std.proofs.Common.{◌≡◌, map}
use Rattle.vba_values.specs.View.{view}
use Rattle.vba_meaning.specs.Effects.{slot_values}
use Rattle.run_memory.specs.View.{slot_view}
use Rattle.run_defaults.proofs.arguments.values_of.Given as goal

abbrev pub invariant-loop-slot : goal.invariant-loop-slot
invariant-loop-slot l = map view l.values.items ≡ slot_values (map slot_view l.yielded)
