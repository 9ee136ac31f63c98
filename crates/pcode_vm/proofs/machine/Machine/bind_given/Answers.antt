use Rattle.std.proofs.Common.{refl}
use Rattle.vba_values.specs.View.{view}
use Rattle.vba_meaning.specs.LateBound.{value_bound}
use Rattle.run_memory.specs.View.{memory_view}
use Rattle.run_late.specs.View.{given_view, names_view}
use Rattle.pcode.specs.View.{code_view, use_view}
use Rattle.pcode_vm.proofs.machine.Machine.bind_given.Goals as goal

pub returns : goal.returns
returns c = c.use_came.ensures c.args.self.now (value_bound (code_view c.args.code.now).declared (use_view c.args.aim) c.args.sought.name.now (names_view c.args.sought) (given_view c.args.sought) c.args.argument (view c.args.base.now) (view c.args.value) (memory_view c.args.self.now.memory)) refl c.value_bound-came.ensures
