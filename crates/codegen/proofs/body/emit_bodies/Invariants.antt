use Rattle.std.proofs.Common.{◌≡◌, ◌++◌, take}
use Rattle.codegen.specs.Emission.{lists_of, bodies_instrs}
use Rattle.codegen.proofs.body.emit_bodies.Given as goal

abbrev pub invariant-loop-i : goal.invariant-loop-i
invariant-loop-i l = l.code.items ≡ l.fn.code.items ++ bodies_instrs l.added (lists_of l.orders) (lists_of l.table) 0 (take l.i l.bodies)
