use Rattle.std.proofs.Common.{◌≡◌, take}
use Rattle.declared_names.proofs.naming.units_of.Given as goal

abbrev pub invariant-loop-byte : goal.invariant-loop-byte
invariant-loop-byte l = l.units ≡ take l.byte-index l.text
