use Rattle.std.proofs.Common.{◌+◌, refl}
use Rattle.run_memory.specs.View.{memory_view}
use Rattle.pcode.specs.View.{code_view}
use Rattle.pcode.specs.Machine.{then_changes}
use Rattle.pcode_vm.specs.View.{backs_view, operands_view, state_view}
use Rattle.pcode_vm.proofs.Tellings.{told_on, told_raised, told_stopped}
use Rattle.pcode_vm.proofs.machine.Machine.assign_member.Goals as goal

pub returns-in-Err-Fault-Raise : goal.returns-in-Err-Fault-Raise
returns-in-Err-Fault-Raise c =
    let old = c.args.self.now in
    let mid = record old { memory = c.member_assigned.new.memory; told = c.member_assigned.new.told } in
    told_raised c.args.turns old mid c.raise_number.new.self _ c.in-Err-Fault-Raise.number (memory_view mid.memory) (backs_view old.backs) (state_view old) (then_changes (code_view c.args.code.now) (c.args.pc + 1) (operands_view old.operands) (backs_view old.backs))
    c.raise_number.result (rw (c.in-Err-Fault-Raise.field-0-is, c.in-Err-Fault-Raise.field-0-0-is) at c.in-Err-Fault-Raise.ensures) c.raise_number.ensures

pub returns-in-Err-Fault-Outside : goal.returns-in-Err-Fault-Outside
returns-in-Err-Fault-Outside c =
    let old = c.args.self.now in
    let mid = record old { memory = c.member_assigned.new.memory; told = c.member_assigned.new.told } in
    told_stopped c.args.turns old mid _ _ (memory_view mid.memory) (backs_view old.backs) (state_view old) (then_changes (code_view c.args.code.now) (c.args.pc + 1) (operands_view old.operands) (backs_view old.backs)) c.stopped.result
    (rw (c.in-Err-Fault-Outside.field-0-is, c.in-Err-Fault-Outside.field-0-0-is) at c.in-Err-Fault-Outside.ensures) c.stopped.ensures refl

pub returns : goal.returns
returns c =
    let old = c.args.self.now in
    let mid = record old { memory = c.member_assigned.new.memory; told = c.member_assigned.new.told } in
    told_on c.args.turns old mid c.tell_change.new.self _ tt (memory_view mid.memory) (backs_view old.backs) (state_view old) (then_changes (code_view c.args.code.now) (c.args.pc + 1) (operands_view old.operands) (backs_view old.backs))
    c.tell_change.result c.in-Ok.ensures c.tell_change.ensures
