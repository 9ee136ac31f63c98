use Rattle.std.proofs.Common.{◌≡◌, drop}
use Rattle.std.specs.Prelude.{reverse}
use Rattle.bound_members.specs.bound_calls.specs.Standing.{passed_below}
use Rattle.bound_operands.proofs.named.passed_below.Given as goal

abbrev pub invariant-loop-above : goal.invariant-loop-above
invariant-loop-above l = passed_below (drop l.above (reverse l.stack)) ≡ passed_below (reverse l.stack)
