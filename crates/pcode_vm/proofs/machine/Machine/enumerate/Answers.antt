use Rattle.std.proofs.Common.{refl}
use Rattle.pcode_vm.proofs.Carried.{from_other}
use Rattle.pcode_vm.proofs.machine.Machine.enumerate.Goals as goal

pub returns : goal.returns
returns c =
    from_other c.args.turns _ _ c.args.self.now (record c.args.self.now { operands = c.pop_value.new.self }) c.enumerate_value.new.self c.enumerate_value.result
    (c.in-Some.ensures _) refl c.enumerate_value.ensures
