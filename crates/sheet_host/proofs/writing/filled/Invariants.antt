use Rattle.std.proofs.Common.{◌≡◌, replicate}
use Rattle.sheet_host.proofs.writing.filled.Given as goal

abbrev pub invariant-loop : goal.invariant-loop
invariant-loop l = l.cells.items ≡ replicate l.counter l.filling
