use Rattle.std.proofs.Common.{ℕ, ◌<◌}
use Rattle.pcode.specs.Instructions.{next_statement}
use Rattle.pcode.specs.View.{code_view}
use Rattle.pcode.specs.WellFormed.{IsTarget}
use Rattle.code_check.proofs.tables.table_goes_on.Given as goal

abbrev pub invariant-loop-statement : goal.invariant-loop-statement
invariant-loop-statement l = (i : ℕ) → i < l.statement → IsTarget (code_view l.code) l.procedure (next_statement (code_view l.code) l.procedure i)
