use Rattle.std.proofs.Common.{map, refl}
use Rattle.vba_values.specs.View.{view}
use Rattle.vba_meaning.specs.LateBound.{late_set}
use Rattle.run_memory.specs.View.{memory_view, slot_view}
use Rattle.run_late.specs.View.{given_view, names_view}
use Rattle.pcode.specs.View.{code_view}
use Rattle.pcode_vm.proofs.machine.Machine.set_late_found.Goals as goal

pub returns : goal.returns
returns c = c.use_came.ensures c.args.self.now (late_set (code_view c.args.code.now).declared c.args.sought.name.now (names_view c.args.sought) (given_view c.args.sought) (view c.args.base.now) (view c.args.begun.now) (map slot_view c.args.slots.items) (view c.args.value) (memory_view c.args.self.now.memory)) refl c.late_set-came.ensures
