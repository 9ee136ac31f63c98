use Rattle.std.proofs.Common.{◌≡◌, ◌++◌, length, map}
use Rattle.project_run.specs.Places.{lists_of, statement_places}
use Rattle.project_run.proofs.places.push_bodies.Given as goal

abbrev pub invariant-loop-left : goal.invariant-loop-left
invariant-loop-left l = lists_of l.places.items ++ map statement_places l.left ≡ lists_of l.fn.places.items ++ map statement_places l.fn.left

abbrev pub decreases-loop-left : goal.decreases-loop-left
decreases-loop-left l = length l.left
