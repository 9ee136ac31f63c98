use Rattle.std.proofs.Common.{◌≡◌, true, length, map, refl, sym}
use Rattle.std.specs.Prelude.{nat_lt, ◌∷◌}
use Rattle.vba_values.specs.View.{view}
use Rattle.run_memory.specs.View.{memory_view, slot_view}
use Rattle.pcode.specs.Machine.{enters, Caller}
use Rattle.pcode.specs.View.{code_view}
use Rattle.pcode_vm.specs.View.{operands_view, back_view, backs_view, state_view}
use Rattle.pcode_vm.proofs.Carried.{from_other, entered_same}
use Rattle.pcode_vm.proofs.machine.Machine.call_with.Goals as goal

pub returns : goal.returns
returns c =
    let room : nat_lt (length (memory_view c.args.self.now.memory).frames) 2000 ≡ true = cc in
    let old = c.args.self.now in
    let new = c.wait_at-back.new.self in
    let me = view c.args.me in
    let xs = map slot_view c.args.arguments.items in
    let caller = Caller c.args.next (operands_view old.operands) in
    let back = back_view c.wait_at-back.result in
    rw room (from_other c.args.turns
    (enters (code_view c.args.code.now) true c.args.procedure me xs (caller ∷ backs_view old.backs) (state_view old))
    (enters (code_view c.args.code.now) true c.args.procedure me xs (back ∷ backs_view new.backs) (state_view new))
    old new c.enter_before.new.self c.enter_before.result
    (entered_same (code_view c.args.code.now) true c.args.procedure me me xs caller back (backs_view old.backs) (backs_view new.backs) (state_view old) (state_view new)
    refl c.wait_at-back.ensures.back c.wait_at-back.ensures.backs c.wait_at-back.ensures.state)
    (sym c.wait_at-back.ensures.told) c.enter_before.ensures)
