use Rattle.std.proofs.Common.{◌≡◌, length}
use Rattle.vba_expression.specs.Nodes.{items_of}
use Rattle.vba_expression.specs.Reader.{want, run}
use Rattle.vba_expression.specs.Seen.{waiting, state}
use Rattle.vba_expression.proofs.reader.read_on.Given as goal

abbrev pub invariant-reading : goal.invariant-reading
invariant-reading l =
    run (state l.mode l.frames.items (items_of l.nodes.items)) l.left
    ≡ run (want (waiting l.fn.frames.items (items_of l.fn.nodes.items))) l.fn.tokens

abbrev pub decreases-reading : goal.decreases-reading
decreases-reading l = length l.left
