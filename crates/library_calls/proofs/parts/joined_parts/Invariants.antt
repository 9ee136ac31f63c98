use Rattle.std.proofs.Common.{◌≡◌, ◌++◌, ◌≤◌, length}
use Rattle.vba_lib.specs.Searching.{joined_by, parts}
use Rattle.library_calls.proofs.parts.joined_parts.Given as goal

abbrev pub invariant-loop-part : goal.invariant-loop-part
invariant-loop-part l =
    (l.text ++ joined_by l.new (parts l.find l.rest) ≡ joined_by l.new (parts l.find l.units)) × (length l.text ≤ 16777216)

abbrev pub decreases-loop-part : goal.decreases-loop-part
decreases-loop-part l = length l.rest
