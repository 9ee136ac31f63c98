use Rattle.std.proofs.Common.{◌≡◌, length}
use Rattle.vba_lib.specs.Searching.{begins_with_fold}
use Rattle.library_calls.proofs.folds.begins_with_fold.Given as goal

abbrev pub invariant-loop-rest : goal.invariant-loop-rest
invariant-loop-rest l = begins_with_fold l.left l.rest ≡ begins_with_fold l.fold l.units

abbrev pub decreases-loop-rest : goal.decreases-loop-rest
decreases-loop-rest l = length l.rest
