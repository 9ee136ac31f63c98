use Rattle.std.proofs.Common.{◌≡◌, ◌≤◌, length, below_more, inl, inr, sym, ◌∙◌, arith}
use Rattle.std.specs.Prelude.{slice_index}
use Rattle.std.proofs.lemmas.Bool.{cases_lt}
use Rattle.pcode.specs.Instructions.{entry_of}
use Rattle.pcode.specs.View.{code_view}
use Rattle.code_check.proofs.Tests.{refused, granted}
use Rattle.code_check.proofs.Entries.{starts_past}
use Rattle.code_check.proofs.tables.starts_agree.Goals as goal

pub returns-then-start_of-entry_of : goal.returns-then-start_of-entry_of
returns-then-start_of-entry_of c = refused (λ all. c.if-start_of-entry_of.true (c.start_of.ensures ∙ all c.loop-procedure.procedure ∙ sym c.entry_of.ensures))

pub loop-procedure-preserved : goal.loop-procedure-preserved
loop-procedure-preserved c =
    let code = code_view c.args.code.now in
    below_more (λ p. slice_index code.starts p ≡ entry_of code p 0) c.loop-procedure.procedure c.loop-procedure.invariant (sym c.start_of.ensures ∙ c.if-start_of-entry_of.false ∙ c.entry_of.ensures)

pub returns : goal.returns
returns c =
    let code = code_view c.args.code.now in
    granted (λ p. elim (cases_lt p c.loop-procedure.procedure) [
      | inl lt ↦ c.loop-procedure.invariant p lt
      | inr ge ↦ (let past : length code.entries ≤ p = omega (arith, c.procedure_count-count.ensures) in starts_past code p c.requires past)
    ])
