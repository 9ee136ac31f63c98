use Rattle.std.proofs.Common.{take}
use Rattle.codegen.specs.Emission.{lists_of}
use Rattle.codegen.proofs.Loops.{Tabled}
use Rattle.codegen.proofs.body.table_of.Given as goal

abbrev pub invariant-loop-body : goal.invariant-loop-body
invariant-loop-body l = Tabled l.added (lists_of l.orders) (take l.body-index l.bodies) (lists_of l.table.items) l.at
