use Rattle.std.proofs.Common.{◌≡◌, take}
use Rattle.vba_values.proofs.texts.from_ascii.Given as goal

abbrev pub invariant-loop-byte : goal.invariant-loop-byte
invariant-loop-byte l = l.text ≡ take l.byte-index l.bytes
