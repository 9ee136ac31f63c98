use Rattle.std.proofs.Common.{refl, ◌∙◌}
use Rattle.pcode_vm.proofs.Carried.{from_other}
use Rattle.pcode_vm.proofs.machine.Machine.element_along.Goals as goal

pub returns : goal.returns
returns c =
    let took = rw c.in-Some.is at c.in_ok-slots.ensures in
    from_other c.args.turns _ _ c.args.self.now (record c.args.self.now { operands = c.pop_path.new.self }) c.place_along.new.self c.place_along.result
    (took _ ∙ c.in-Some-pop_path.ensures _) refl c.place_along.ensures
