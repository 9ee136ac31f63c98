use Rattle.std.proofs.Common.{◌≡◌, length, drop}
use Rattle.pcode.specs.View.{code_view}
use Rattle.pcode.specs.WellFormed.{first_address}
use Rattle.code_check.proofs.tables.first_address.Given as goal

abbrev pub invariant-loop-procedure : goal.invariant-loop-procedure
invariant-loop-procedure l = (let code = code_view l.code in first_address (drop l.from code.entries) (length code.instrs) ≡ first_address (drop l.procedure code.entries) (length code.instrs))
