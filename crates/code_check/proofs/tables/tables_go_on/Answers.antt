use Rattle.std.proofs.Common.{◌<◌, below_more, arith}
use Rattle.std.proofs.lemmas.Bool.{iff_false}
use Rattle.pcode.specs.View.{code_view}
use Rattle.code_check.specs.Questions.{TableGoesOn}
use Rattle.code_check.proofs.Tests.{refused, granted}
use Rattle.code_check.proofs.Entries.{statement_within}
use Rattle.code_check.proofs.tables.tables_go_on.Goals as goal

pub returns-then-not-table_goes_on : goal.returns-then-not-table_goes_on
returns-then-not-table_goes_on c = refused (λ all. iff_false c.table_goes_on.ensures c.if-not-table_goes_on.true (all c.loop-procedure.procedure))

pub loop-procedure-preserved : goal.loop-procedure-preserved
loop-procedure-preserved c = below_more (TableGoesOn (code_view c.args.code.now)) c.loop-procedure.procedure c.loop-procedure.invariant (c.table_goes_on.ensures.0 c.if-not-table_goes_on.false)

pub returns : goal.returns
returns c =
    let code = code_view c.args.code.now in
    granted (λ p i h. (let there : p < c.loop-procedure.procedure = omega (arith, statement_within code p i h, c.procedure_count-count.ensures) in c.loop-procedure.invariant p there i h))
