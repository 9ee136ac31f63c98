use Rattle.std.proofs.Common.{◌≡◌, ◌+◌, length}
use Rattle.vba_base.specs.Fold.{folded}
use Rattle.vba_lib.specs.Searching.{begins_with_fold, first_place}
use Rattle.library_calls.proofs.searching.first_folded_place.Given as goal

abbrev pub invariant-loop-rest : goal.invariant-loop-rest
invariant-loop-rest l =
    (l.place + length l.rest ≡ l.fn.place + length l.units)
    × (first_place (begins_with_fold (folded l.sought)) l.place l.rest ≡ first_place (begins_with_fold (folded l.sought)) l.fn.place l.units)

abbrev pub decreases-loop-rest : goal.decreases-loop-rest
decreases-loop-rest l = length l.rest
