use Rattle.std.proofs.Common.{◌≡◌, take}
use Rattle.module_rules.proofs.types.units_of.Given as goal

abbrev pub invariant-loop-byte : goal.invariant-loop-byte
invariant-loop-byte l = l.units ≡ take l.byte-index l.text
