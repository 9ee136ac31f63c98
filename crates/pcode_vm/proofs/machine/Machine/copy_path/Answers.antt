use Rattle.std.proofs.Common.{refl}
use Rattle.vba_values.specs.View.{view}
use Rattle.vba_meaning.specs.LateBound.{place_copied}
use Rattle.run_memory.specs.View.{memory_view, path_view}
use Rattle.run_late.specs.View.{given_view, names_view}
use Rattle.pcode.specs.View.{code_view, use_view}
use Rattle.pcode_vm.proofs.machine.Machine.copy_path.Goals as goal

pub returns : goal.returns
returns c = c.use_came.ensures c.args.self.now (place_copied (code_view c.args.code.now).declared (use_view c.args.aim) c.args.sought.name.now (names_view c.args.sought) (given_view c.args.sought) c.args.argument (view c.args.base.now) (path_view c.args.path) (memory_view c.args.self.now.memory)) refl c.place_copied-came.ensures
