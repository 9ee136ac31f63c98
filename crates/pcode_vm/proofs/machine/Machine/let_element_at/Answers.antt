use Rattle.std.proofs.Common.{map, refl}
use Rattle.vba_values.specs.View.{view}
use Rattle.vba_meaning.specs.Effects.{slot_values}
use Rattle.vba_meaning.specs.LateBound.{let_element}
use Rattle.run_memory.specs.View.{memory_view, path_view, slot_view}
use Rattle.pcode.specs.View.{code_view}
use Rattle.pcode_vm.proofs.machine.Machine.let_element_at.Goals as goal

pub returns : goal.returns
returns c = c.use_came.ensures c.args.self.now (let_element (code_view c.args.code.now).declared (path_view c.args.path) (slot_values (map slot_view c.args.slots.items)) (view c.args.value) (memory_view c.args.self.now.memory)) refl c.let_element-came.ensures
