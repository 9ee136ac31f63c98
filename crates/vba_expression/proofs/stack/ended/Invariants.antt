use Rattle.std.proofs.Common.{◌≡◌, vec_len}
use Rattle.vba_expression.specs.Nodes.{last_tree, rest, items_of}
use Rattle.vba_expression.specs.Reader.{reduce}
use Rattle.vba_expression.specs.Seen.{waiting}
use Rattle.vba_expression.proofs.stack.ended.Given as goal

abbrev pub invariant-reducing : goal.invariant-reducing
invariant-reducing l =
    reduce l.level (last_tree (items_of l.nodes.items)) (waiting l.frames.items (rest (items_of l.nodes.items)))
    ≡ reduce l.level (last_tree (items_of l.fn.nodes.items)) (waiting l.fn.frames.items (rest (items_of l.fn.nodes.items)))

abbrev pub decreases-reducing : goal.decreases-reducing
decreases-reducing l = vec_len l.frames
