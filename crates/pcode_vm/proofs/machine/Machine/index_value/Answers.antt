use Rattle.std.proofs.Common.{map, refl}
use Rattle.vba_values.specs.View.{view}
use Rattle.vba_meaning.specs.Effects.{slot_values}
use Rattle.vba_meaning.specs.Defaults.{index_along, most_passed}
use Rattle.run_memory.specs.View.{memory_view, slot_view}
use Rattle.pcode.specs.View.{code_view}
use Rattle.pcode_vm.proofs.machine.Machine.index_value.Goals as goal

pub returns : goal.returns
returns c = c.use_came.ensures c.args.self.now (index_along (code_view c.args.code.now).declared most_passed (slot_values (map slot_view c.args.slots.items)) (view c.args.value.now) (memory_view c.args.self.now.memory)) refl c.index_along-came.ensures
