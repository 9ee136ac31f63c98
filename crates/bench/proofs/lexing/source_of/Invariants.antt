use Rattle.std.proofs.Common.{◌≤◌, length}
use Rattle.bench.proofs.lexing.source_of.Given as goal

abbrev pub invariant-loop-place : goal.invariant-loop-place
invariant-loop-place l = length l.units ≤ l.place
