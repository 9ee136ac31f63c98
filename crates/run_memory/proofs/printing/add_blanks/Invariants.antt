use Rattle.std.proofs.Common.{◌≡◌, ◌++◌, replicate}
use Rattle.run_memory.proofs.printing.add_blanks.Given as goal

abbrev pub invariant-loop : goal.invariant-loop
invariant-loop l = l.line ≡ l.initial.line ++ replicate l.counter 32
