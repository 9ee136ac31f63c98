use Rattle.std.proofs.Common.{ℕ, ◌<◌}
use Rattle.pcode.specs.View.{code_view}
use Rattle.code_check.specs.Questions.{TableBegins}
use Rattle.code_check.proofs.tables.tables_begin.Given as goal

abbrev pub invariant-loop-procedure : goal.invariant-loop-procedure
invariant-loop-procedure l = (p : ℕ) → p < l.procedure → TableBegins (code_view l.code) p
