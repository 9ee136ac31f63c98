use Rattle.std.proofs.Common.{◌≡◌, length}
use Rattle.std.specs.Prelude.{reverse}
use Rattle.bound_operands.specs.Gathering.{with_gathered}
use Rattle.bound_operands.proofs.gathering.take_gathered.Given as goal

abbrev pub invariant-loop-values : goal.invariant-loop-values
invariant-loop-values l = reverse l.fn.stack.items ≡ with_gathered l.values (reverse l.stack.items)

abbrev pub decreases-loop-values : goal.decreases-loop-values
decreases-loop-values l = length (reverse l.stack.items)
