use Rattle.std.proofs.Common.{◌≡◌, ◌++◌, take}
use Rattle.codegen.specs.Emission.{lists_of, body_instrs}
use Rattle.codegen.proofs.body.emit_body.Given as goal

abbrev pub invariant-loop-i : goal.invariant-loop-i
invariant-loop-i l = l.code.items ≡ l.fn.code.items ++ body_instrs l.added (lists_of l.orders) l.row l.procedure l.nodes 0 (take l.i l.statements)
