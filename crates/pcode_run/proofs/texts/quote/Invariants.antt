use Rattle.std.proofs.Common.{◌≡◌, ◌++◌, length}
use Rattle.std.specs.List.{flat_map}
use Rattle.pcode_run.specs.Runs.{quoted_unit}
use Rattle.pcode_run.proofs.texts.quote.Given as goal

abbrev pub invariant-loop-left : goal.invariant-loop-left
invariant-loop-left l = l.text ++ flat_map quoted_unit l.left ≡ l.fn.text ++ flat_map quoted_unit l.fn.left

abbrev pub decreases-loop-left : goal.decreases-loop-left
decreases-loop-left l = length l.left
