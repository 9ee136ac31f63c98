use Rattle.std.proofs.Common.{take}
use Rattle.codegen.specs.Emission.{lists_of}
use Rattle.codegen.proofs.Loops.{Placed}
use Rattle.codegen.proofs.body.row_of.Given as goal

abbrev pub invariant-loop-statement : goal.invariant-loop-statement
invariant-loop-statement l = Placed l.added (lists_of l.orders) l.fn.at l.nodes (take l.statement-index l.statements) l.row.items l.at
