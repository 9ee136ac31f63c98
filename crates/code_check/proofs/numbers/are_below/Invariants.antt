use Rattle.std.proofs.Common.{◌<◌, take}
use Rattle.bound_project.specs.Whole.{All}
use Rattle.code_check.proofs.numbers.are_below.Given as goal

abbrev pub invariant-loop-number : goal.invariant-loop-number
invariant-loop-number l = All (λ i. i < l.end) (take l.number-index l.numbers)
