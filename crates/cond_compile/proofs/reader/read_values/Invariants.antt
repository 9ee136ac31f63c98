use Rattle.std.proofs.Common.{◌≡◌, length, All}
use Rattle.cond_compile.specs.Advances.{read_from}
use Rattle.cond_compile.specs.Evaluation.{of_leaf, values}
use Rattle.cond_compile.specs.Pieces.{pieces_behind}
use Rattle.cond_compile.specs.Reader as reader
use Rattle.cond_compile.specs.Seen.{constants_view, state}
use Rattle.vba_lexer.specs.Inside.{IsWithin}
use Rattle.cond_compile.proofs.reader.read_values.Given as goal

abbrev pub invariant-loop-left : goal.invariant-loop-left
invariant-loop-left l =
    (reader.reading_of (read_from values (of_leaf (constants_view l.constants)) (state l.mode l.frames.items) (pieces_behind l.source l.last l.left))
    ≡ reader.reading_of (reader.read values (of_leaf (constants_view l.constants)) (pieces_behind l.source l.fn.previous l.fn.tokens)))
    × IsWithin (length l.source) l.last
    × All (IsWithin (length l.source)) l.left

abbrev pub decreases-loop-left : goal.decreases-loop-left
decreases-loop-left l = length l.left
