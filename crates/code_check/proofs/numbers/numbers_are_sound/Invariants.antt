use Rattle.std.proofs.Common.{ℕ, ◌<◌}
use Rattle.pcode.specs.View.{code_view}
use Rattle.code_check.specs.Questions.{PartIsSound}
use Rattle.code_check.proofs.numbers.numbers_are_sound.Given as goal

abbrev pub invariant-loop-procedure : goal.invariant-loop-procedure
invariant-loop-procedure l = (p : ℕ) → p < l.procedure → PartIsSound (code_view l.code) p
