use Rattle.std.proofs.Common.{◌≡◌, map, take}
use Rattle.vba_meaning.specs.Effects.{reordered}
use Rattle.run_memory.specs.View.{slot_view}
use Rattle.pcode_vm.proofs.arguments.reordered.Given as goal

abbrev pub invariant-loop-number : goal.invariant-loop-number
invariant-loop-number l = map slot_view l.ordered.items ≡ reordered (take l.number-index l.order) (map slot_view l.slots)
