use Rattle.std.proofs.Common.{◌≡◌, ◌+◌, ◌≤◌, length}
use Rattle.vba_values.specs.declared.types.Compare.TheVariants.{Binary}
use Rattle.vba_lib.specs.Searching.{first_place, stands}
use Rattle.library_calls.proofs.searching.first_place.Given as goal

abbrev pub invariant-loop-rest : goal.invariant-loop-rest
invariant-loop-rest l =
    (l.place + length l.rest ≡ l.fn.place + length l.units)
    × (l.fn.place ≤ l.place)
    × (first_place (stands Binary l.sought) l.place l.rest ≡ first_place (stands Binary l.sought) l.fn.place l.units)

abbrev pub decreases-loop-rest : goal.decreases-loop-rest
decreases-loop-rest l = length l.rest
