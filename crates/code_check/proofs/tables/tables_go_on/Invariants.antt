use Rattle.std.proofs.Common.{ℕ, ◌<◌}
use Rattle.pcode.specs.View.{code_view}
use Rattle.code_check.specs.Questions.{TableGoesOn}
use Rattle.code_check.proofs.tables.tables_go_on.Given as goal

abbrev pub invariant-loop-procedure : goal.invariant-loop-procedure
invariant-loop-procedure l = (p : ℕ) → p < l.procedure → TableGoesOn (code_view l.code) p
