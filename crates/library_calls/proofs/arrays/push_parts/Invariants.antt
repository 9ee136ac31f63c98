use Rattle.std.proofs.Common.{◌≡◌, ◌<◌, ◌++◌, length, map}
use Rattle.vba_values.specs.Val.{text}
use Rattle.vba_values.specs.View.{view}
use Rattle.vba_lib.specs.Searching.{parts}
use Rattle.library_calls.proofs.arrays.push_parts.Given as goal

abbrev pub invariant-loop-part : goal.invariant-loop-part
invariant-loop-part l =
    (map view l.texts.items ++ map text (parts l.separator l.rest) ≡ map text (parts l.separator l.units)) × (length l.texts.items < 1048576)

abbrev pub decreases-loop-part : goal.decreases-loop-part
decreases-loop-part l = length l.rest
