use Rattle.std.proofs.Common.{◌≡◌, ◌++◌, length, map}
use Rattle.project_run.proofs.places.push_statements.Given as goal

abbrev pub invariant-loop-left : goal.invariant-loop-left
invariant-loop-left l = l.places.items ++ map (λ s. s.place) l.left ≡ l.fn.places.items ++ map (λ s. s.place) l.fn.left

abbrev pub decreases-loop-left : goal.decreases-loop-left
decreases-loop-left l = length l.left
