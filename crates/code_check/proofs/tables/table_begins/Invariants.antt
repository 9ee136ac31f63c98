use Rattle.std.proofs.Common.{ℕ, ◌<◌}
use Rattle.pcode.specs.Instructions.{entry_of}
use Rattle.pcode.specs.View.{code_view}
use Rattle.pcode.specs.WellFormed.{BeginsAt}
use Rattle.code_check.proofs.tables.table_begins.Given as goal

abbrev pub invariant-loop-statement : goal.invariant-loop-statement
invariant-loop-statement l = (i : ℕ) → i < l.statement → BeginsAt (code_view l.code) l.procedure i (entry_of (code_view l.code) l.procedure i)
