use Rattle.std.proofs.Common.{◌≡◌, ◌++◌, length, map}
use Rattle.project_run.proofs.places.push_headers.Given as goal

abbrev pub invariant-loop-left : goal.invariant-loop-left
invariant-loop-left l = l.headers.items ++ map (λ p. p.place) l.left ≡ l.fn.headers.items ++ map (λ p. p.place) l.fn.left

abbrev pub decreases-loop-left : goal.decreases-loop-left
decreases-loop-left l = length l.left
