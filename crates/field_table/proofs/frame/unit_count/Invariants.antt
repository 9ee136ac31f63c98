-- The units of the characters that were read.
use Rattle.std.proofs.Common.{◌≡◌, min, length, flat_map}
use Rattle.std.specs.Char.Escape.{encode_utf16}
use Rattle.field_table.proofs.frame.unit_count.Given as goal

abbrev pub invariant-loop-character : goal.invariant-loop-character
invariant-loop-character l = l.count ≡ min 18446744073709551615 (length (flat_map encode_utf16 l.yielded))
