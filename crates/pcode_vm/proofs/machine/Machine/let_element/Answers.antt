use Rattle.std.proofs.Common.{refl, ◌∙◌}
use Rattle.pcode_vm.proofs.Carried.{from_other}
use Rattle.pcode_vm.proofs.machine.Machine.let_element.Goals as goal

pub returns : goal.returns
returns c =
    let took = rw c.in-Some.is at c.in_ok-slots.ensures in
    from_other c.args.turns _ _ c.args.self.now (record c.args.self.now { operands = c.pop_value.new.self }) c.let_element_at.new.self c.let_element_at.result
    (took _ ∙ c.in-Some-pop_path.ensures _ ∙ c.in-Some-pop_value.ensures _) refl c.let_element_at.ensures
