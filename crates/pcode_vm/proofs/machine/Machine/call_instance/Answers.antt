use Rattle.std.proofs.Common.{map, refl}
use Rattle.vba_values.specs.View.{view}
use Rattle.vba_meaning.specs.LateBound.{late_called}
use Rattle.run_memory.specs.View.{memory_view, slot_view}
use Rattle.run_late.specs.View.{given_view, names_view}
use Rattle.pcode.specs.View.{code_view}
use Rattle.pcode_vm.proofs.machine.Machine.call_instance.Goals as goal

pub returns : goal.returns
returns c = c.use_came.ensures c.args.self.now (late_called (code_view c.args.code.now).declared c.args.sought.name.now (names_view c.args.sought) (given_view c.args.sought) (view c.args.base.now) (view c.args.begun.now) (map slot_view c.args.slots.items) (memory_view c.args.self.now.memory)) refl c.late_called-came.ensures
