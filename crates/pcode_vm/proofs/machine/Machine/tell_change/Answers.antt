use Rattle.std.proofs.Common.{Option, refl, ap}
use Rattle.std.specs.Prelude.{Some}
use Rattle.sheet_host.specs.declared.area.Area.{Area}
use Rattle.run_memory.specs.View.{memory_view}
use Rattle.pcode.specs.Machine.{tells_change}
use Rattle.pcode.specs.View.{code_view}
use Rattle.pcode_vm.specs.View.{backs_view, operands_view, state_view}
use Rattle.pcode_vm.proofs.Carried.{from_other}
use Rattle.pcode_vm.proofs.Delivering.{none_changed}
use Rattle.pcode_vm.proofs.machine.Machine.tell_change.Goals as goal

pub returns-in_default : goal.returns-in_default
returns-in_default c = λ more.
    let old = c.args.self.now in
    rw (none_changed (code_view c.args.code.now) (memory_view old.memory).changed c.args.next (operands_view old.operands) (backs_view old.backs) (state_view old) c.in_default.is, c.go_on.ensures) refl

pub returns : goal.returns
returns c =
    let old = c.args.self.now in
    let go = λ (a : Option Area). tells_change (code_view c.args.code.now) a c.args.next (operands_view old.operands) (backs_view old.backs) (state_view old) in
    from_other c.args.turns (go (memory_view old.memory).changed) (go (Some c.in-Some.area)) old old c.change_told.new.self c.change_told.result (ap go c.in-Some.is) refl c.change_told.ensures
