use Rattle.std.proofs.Common.{◌≡◌, ◌++◌, drop}
use Rattle.bound_accesses.proofs.items.word.Given as goal

abbrev pub invariant-loop-byte : goal.invariant-loop-byte
invariant-loop-byte l = l.text ++ drop l.byte-index l.bytes ≡ l.bytes
