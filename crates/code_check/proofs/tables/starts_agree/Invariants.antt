use Rattle.std.proofs.Common.{◌≡◌, ℕ, ◌<◌}
use Rattle.std.specs.Prelude.{slice_index}
use Rattle.pcode.specs.Instructions.{entry_of}
use Rattle.pcode.specs.View.{code_view}
use Rattle.code_check.proofs.tables.starts_agree.Given as goal

abbrev pub invariant-loop-procedure : goal.invariant-loop-procedure
invariant-loop-procedure l = (p : ℕ) → p < l.procedure → slice_index (code_view l.code).starts p ≡ entry_of (code_view l.code) p 0
