use Rattle.std.proofs.Common.{refl}
use Rattle.vba_values.specs.View.{view}
use Rattle.vba_meaning.specs.Defaults.{enumerator_of}
use Rattle.run_memory.specs.View.{memory_view}
use Rattle.pcode.specs.View.{code_view}
use Rattle.pcode_vm.proofs.machine.Machine.enumerate_value.Goals as goal

pub returns : goal.returns
returns c = c.use_came.ensures c.args.self.now (enumerator_of (code_view c.args.code.now).declared (view c.args.value) (memory_view c.args.self.now.memory)) refl c.enumerator_of-came.ensures
