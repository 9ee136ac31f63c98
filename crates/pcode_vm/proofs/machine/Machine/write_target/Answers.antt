use Rattle.std.proofs.Common.{refl}
use Rattle.vba_values.specs.View.{view}
use Rattle.vba_meaning.specs.Defaults.{write_along, most_passed}
use Rattle.run_memory.specs.View.{memory_view}
use Rattle.pcode.specs.View.{code_view}
use Rattle.pcode_vm.proofs.machine.Machine.write_target.Goals as goal

pub returns : goal.returns
returns c = c.use_came.ensures c.args.self.now (write_along (code_view c.args.code.now).declared most_passed (view c.args.value) (view c.args.target.now) (memory_view c.args.self.now.memory)) refl c.write_along-came.ensures
