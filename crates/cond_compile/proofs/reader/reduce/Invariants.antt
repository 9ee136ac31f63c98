use Rattle.std.proofs.Common.{◌≡◌}
use Rattle.std.specs.Prelude.{vec_len}
use Rattle.cond_compile.specs.Evaluation.{values}
use Rattle.cond_compile.specs.Reader as reader
use Rattle.cond_compile.specs.Seen.{outcome_view, stack}
use Rattle.cond_compile.proofs.reader.reduce.Given as goal

abbrev pub invariant-reducing : goal.invariant-reducing
invariant-reducing l =
    reader.reduce values l.level (outcome_view l.value) (stack l.frames.items)
    ≡ reader.reduce values l.level (outcome_view l.fn.operand) (stack l.fn.frames.items)

abbrev pub decreases-reducing : goal.decreases-reducing
decreases-reducing l = vec_len l.frames
