use Rattle.std.proofs.Common.{sym}
use Rattle.pcode.specs.Machine.{go_on_by, looking}
use Rattle.pcode.specs.View.{code_view}
use Rattle.pcode_vm.specs.View.{mode_view, operands_view, backs_view, state_view}
use Rattle.pcode_vm.proofs.Carried.{from_other}
use Rattle.pcode_run.proofs.Moves.{gone_on_same}
use Rattle.pcode_run.proofs.steps.step.Goals as goal

pub returns : goal.returns
returns c =
    let old = c.args.machine.now in
    let new = c.take_mode-mode.new.machine in
    from_other c.args.turns
    (go_on_by looking (code_view c.args.code.now) (mode_view old.mode) (operands_view old.operands) (backs_view old.backs) (state_view old))
    (go_on_by looking (code_view c.args.code.now) (mode_view c.take_mode-mode.result) (operands_view new.operands) (backs_view new.backs) (state_view new))
    old new c.go_between.new.machine c.go_between.result
    (gone_on_same looking (code_view c.args.code.now) (mode_view old.mode) (mode_view c.take_mode-mode.result) (operands_view old.operands) (operands_view new.operands) (backs_view old.backs) (backs_view new.backs) (state_view old) (state_view new)
    c.take_mode-mode.ensures.mode c.take_mode-mode.ensures.operands c.take_mode-mode.ensures.backs c.take_mode-mode.ensures.state)
    (sym c.take_mode-mode.ensures.told) c.go_between.ensures
