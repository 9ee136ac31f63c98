use Rattle.std.proofs.Common.{refl, ◌∙◌}
use Rattle.pcode_vm.proofs.Carried.{from_other}
use Rattle.pcode_vm.proofs.machine.Machine.store_item.Goals as goal

pub returns : goal.returns
returns c =
    let took = rw c.in-Some.is at c.in_ok-slots.ensures in
    from_other c.args.turns _ _ c.args.self.now (record c.args.self.now { operands = c.pop_value-2.new.self }) c.assign_item.new.self c.assign_item.result
    (took _ ∙ c.in-Some-pop_value.ensures _ ∙ c.in-Some-pop_value-2.ensures _) refl (rw c.as_slice.ensures.value at c.assign_item.ensures)
