-- The units so far end with those of the characters that the fold gave.
use Rattle.std.proofs.Common.{◌≡◌, ◌++◌, flat_map}
use Rattle.std.specs.Char.Escape.{encode_utf16}
use Rattle.vba_base.proofs.name.fold_character.Given as goal

abbrev pub invariant-loop-part : goal.invariant-loop-part
invariant-loop-part l = l.units ≡ l.initial.units ++ flat_map encode_utf16 l.yielded
