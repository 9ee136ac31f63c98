use Rattle.std.proofs.Common.{◌+◌, map, refl, sym, ap, ◌∙◌}
use Rattle.run_memory.specs.View.{slot_view}
use Rattle.pcode.specs.Machine.{calls}
use Rattle.pcode.specs.View.{code_view}
use Rattle.pcode_vm.specs.View.{operands_view, backs_view, state_view}
use Rattle.pcode_vm.proofs.Carried.{from_other, view_empty}
use Rattle.pcode_vm.proofs.machine.Machine.call.Goals as goal

pub returns : goal.returns
returns c =
    let took = rw c.in-Some.is at c.in_ok-taken.ensures in
    let old = c.args.self.now in
    let new = record old { operands = c.take.new.self } in
    from_other c.args.turns _ _ old new c.call_with.new.self c.call_with.result
    (took _ ∙ ap (λ me. calls (code_view c.args.code.now) c.args.procedure me (map slot_view c.in-Some.taken.items) (c.args.pc + 1) (operands_view new.operands) (backs_view old.backs) (state_view old)) (sym view_empty))
    refl c.call_with.ensures
