-- The units so far are those of the characters that were read.
use Rattle.std.proofs.Common.{◌≡◌, flat_map}
use Rattle.std.specs.Char.Escape.{encode_utf16}
use Rattle.vba_base.proofs.decode.units_of_utf8.Given as goal

abbrev pub invariant-loop-character : goal.invariant-loop-character
invariant-loop-character l = l.units ≡ flat_map encode_utf16 l.yielded
