use Rattle.std.proofs.Common.{refl, ◌∙◌}
use Rattle.pcode_vm.proofs.Carried.{from_other}
use Rattle.pcode_vm.proofs.machine.Machine.write_through.Goals as goal

pub returns : goal.returns
returns c =
    from_other c.args.turns _ _ c.args.self.now (record c.args.self.now { operands = c.pop_value-2.new.self }) c.write_target.new.self c.write_target.result
    (c.in-Some.ensures _ ∙ c.in-Some-pop_value.ensures _) refl c.write_target.ensures
