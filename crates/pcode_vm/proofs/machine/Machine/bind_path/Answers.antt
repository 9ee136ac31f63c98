use Rattle.std.proofs.Common.{refl, sym, ◌∙◌}
use Rattle.std.specs.Prelude.{◌+◌}
use Rattle.vba_values.specs.View.{view}
use Rattle.run_memory.specs.View.{path_view}
use Rattle.run_late.specs.View.{given_view, names_view}
use Rattle.pcode.specs.View.{code_view, use_view}
use Rattle.pcode_vm.specs.View.{backs_view, operands_view, state_view}
use Rattle.pcode_vm.proofs.Carried.{from_other}
use Rattle.pcode_vm.proofs.Coming.{copied_there, lent_there}
use Rattle.pcode_vm.proofs.machine.Machine.bind_path.Goals as goal

pub returns-then-lends : goal.returns-then-lends
returns-then-lends c =
    let old = c.args.self.now in
    from_other c.args.turns _ _ old old c.lend_path.new.self c.lend_path.result
    (lent_there (code_view c.args.code.now) (use_view c.args.aim) c.args.sought.name.now (names_view c.args.sought) (given_view c.args.sought) c.args.argument (view c.args.base.now) (path_view c.args.path) (c.args.pc + 1) (operands_view old.operands) (backs_view old.backs) (state_view old) (sym c.in_ok-lends.ensures ∙ c.if-lends.true)) refl c.lend_path.ensures

pub returns : goal.returns
returns c =
    let old = c.args.self.now in
    from_other c.args.turns _ _ old old c.copy_path.new.self c.copy_path.result
    (copied_there (code_view c.args.code.now) (use_view c.args.aim) c.args.sought.name.now (names_view c.args.sought) (given_view c.args.sought) c.args.argument (view c.args.base.now) (path_view c.args.path) (c.args.pc + 1) (operands_view old.operands) (backs_view old.backs) (state_view old) (sym c.in_ok-lends.ensures ∙ c.if-lends.false)) refl c.copy_path.ensures
