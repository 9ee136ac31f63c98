use Rattle.std.proofs.Common.{◌≡◌, length}
use Rattle.cond_compile.specs.Evaluation as evaluation
use Rattle.cond_compile.specs.Seen.{constants_view}
use Rattle.cond_compile.proofs.operand.value_of_name.Given as goal

abbrev pub invariant-loop-constant : goal.invariant-loop-constant
invariant-loop-constant l =
    evaluation.value_of_name (constants_view l.left) l.name ≡ evaluation.value_of_name (constants_view l.fn.constants) l.name

abbrev pub decreases-loop-constant : goal.decreases-loop-constant
decreases-loop-constant l = length l.left
