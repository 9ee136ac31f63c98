use Rattle.std.proofs.Common.{◌<◌, take}
use Rattle.bound_project.specs.Whole.{All}
use Rattle.code_check.proofs.handlers.are_fields.Given as goal

abbrev pub invariant-loop-number : goal.invariant-loop-number
invariant-loop-number l = All (λ i. i < l.fields) (take l.number-index l.numbers)
