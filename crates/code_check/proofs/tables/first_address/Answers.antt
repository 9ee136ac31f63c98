use Rattle.std.proofs.Common.{◌≡◌, ◌<◌, ◌≤◌, length, sym, ◌∙◌, arith}
use Rattle.std.specs.Prelude.{slice_get}
use Rattle.pcode.specs.Instructions.{list_or}
use Rattle.pcode.specs.View.{code_view}
use Rattle.code_check.proofs.Entries.{first_skips, first_taken, first_past}
use Rattle.code_check.proofs.tables.first_address.Goals as goal

pub returns-then-statement_count-gt0 : goal.returns-then-statement_count-gt0
returns-then-statement_count-gt0 c =
    let code = code_view c.args.code.now in
    let some : 0 < length (list_or (slice_get code.entries c.loop-procedure.procedure)) = omega (arith, c.statement_count.ensures) in
    c.entry_of.ensures ∙ sym (first_taken code.entries c.loop-procedure.procedure (length code.instrs) some) ∙ sym c.loop-procedure.invariant

pub loop-procedure-preserved : goal.loop-procedure-preserved
loop-procedure-preserved c =
    let code = code_view c.args.code.now in
    let none : length (list_or (slice_get code.entries c.loop-procedure.procedure)) ≡ 0 = omega (arith, c.statement_count.ensures) in
    let there : c.loop-procedure.procedure < length code.entries = omega (arith, c.procedure_count-count.ensures) in
    c.loop-procedure.invariant ∙ first_skips code.entries c.loop-procedure.procedure (length code.instrs) none there

pub returns : goal.returns
returns c =
    let code = code_view c.args.code.now in
    let past : length code.entries ≤ c.loop-procedure.procedure = omega (arith, c.procedure_count-count.ensures) in
    c.instr_count.ensures ∙ sym (first_past code.entries c.loop-procedure.procedure (length code.instrs) past) ∙ sym c.loop-procedure.invariant
