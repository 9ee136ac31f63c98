use Rattle.std.proofs.Common.{◌≡◌, ◌++◌, length}
use Rattle.pcode_run.specs.Runs.{escaped}
use Rattle.pcode_run.proofs.texts.escape.Given as goal

abbrev pub invariant-loop-left : goal.invariant-loop-left
invariant-loop-left l = l.text ++ escaped l.left ≡ l.fn.text ++ escaped l.fn.left

abbrev pub decreases-loop-left : goal.decreases-loop-left
decreases-loop-left l = length l.left
