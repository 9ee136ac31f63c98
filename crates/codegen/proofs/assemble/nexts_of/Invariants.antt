use Rattle.std.proofs.Common.{◌≡◌, map, take}
use Rattle.codegen.proofs.assemble.nexts_of.Given as goal

abbrev pub invariant-loop-statement : goal.invariant-loop-statement
invariant-loop-statement l = l.nexts.items ≡ map (λ s. s.next) (take l.statement-index l.statements)
