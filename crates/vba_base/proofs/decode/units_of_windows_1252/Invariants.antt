-- The units so far are those of the bytes that were read.
use Rattle.std.proofs.Common.{◌≡◌, flat_map, map, take}
use Rattle.std.specs.Char.Escape.{encode_utf16}
use Rattle.vba_base.specs.Decode.{windows_1252}
use Rattle.vba_base.proofs.decode.units_of_windows_1252.Given as goal

abbrev pub invariant-loop-byte : goal.invariant-loop-byte
invariant-loop-byte l = l.units ≡ flat_map encode_utf16 (map windows_1252 (take l.byte-index l.bytes))
