use Rattle.std.proofs.Common.{◌≡◌, ◌++◌, length}
use Rattle.vba_lexer.specs.Inside.{AllLieIn}
use Rattle.vba_lexer.specs.Lexed.{lines_view}
use Rattle.refusal_order.specs.Least as order
use Rattle.cond_compile.specs.Seen.{AreTold, standing_view}
use Rattle.cond_compile.specs.Selection as selection
use Rattle.cond_compile.proofs.select.pass_lines.Given as goal

abbrev pub invariant-loop-left : goal.invariant-loop-left
invariant-loop-left l =
    (lines_view l.kept.items ++ selection.kept_lines l.source (standing_view l.progress) (lines_view l.left)
    ≡ selection.kept_lines l.source (standing_view l.fn.progress) (lines_view l.lines))
    × (order.least_of l.progress.least (selection.violations l.source (standing_view l.progress) (lines_view l.left))
    ≡ order.least_of l.fn.progress.least (selection.violations l.source (standing_view l.fn.progress) (lines_view l.lines)))
    × AreTold l.progress.arms.items
    × AllLieIn l.source l.left

abbrev pub decreases-loop-left : goal.decreases-loop-left
decreases-loop-left l = length l.left
