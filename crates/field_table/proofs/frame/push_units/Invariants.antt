-- The units of the characters that were read stand behind those that there were.
use Rattle.std.proofs.Common.{◌≡◌, ◌++◌, flat_map}
use Rattle.std.specs.Char.Escape.{encode_utf16}
use Rattle.field_table.proofs.frame.push_units.Given as goal

abbrev pub invariant-loop-character : goal.invariant-loop-character
invariant-loop-character l = l.units.items ≡ l.initial.units.items ++ flat_map encode_utf16 l.yielded
