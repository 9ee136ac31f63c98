use Rattle.std.proofs.Common.{◌≡◌}
use Rattle.std.specs.Prelude.{vec_len}
use Rattle.refusal_order.specs.Least as order
use Rattle.cond_compile.specs.Seen.{arms_view}
use Rattle.cond_compile.specs.Selection as selection
use Rattle.cond_compile.proofs.select.note_unclosed.Given as goal

abbrev pub invariant-loop-enclosing : goal.invariant-loop-enclosing
invariant-loop-enclosing l =
    order.least_of l.least (selection.unclosed (arms_view l.arms.items)) ≡ order.least_of l.fn.least (selection.unclosed (arms_view l.fn.arms.items))

abbrev pub decreases-loop-enclosing : goal.decreases-loop-enclosing
decreases-loop-enclosing l = vec_len l.arms
