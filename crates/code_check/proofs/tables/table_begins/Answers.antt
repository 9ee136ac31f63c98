use Rattle.std.proofs.Common.{◌<◌, below_more, arith}
use Rattle.std.proofs.lemmas.Bool.{iff_false}
use Rattle.pcode.specs.Instructions.{entry_of}
use Rattle.pcode.specs.View.{code_view}
use Rattle.pcode.specs.WellFormed.{BeginsAt, statement_count}
use Rattle.code_check.proofs.Tests.{refused, granted}
use Rattle.code_check.proofs.tables.table_begins.Goals as goal

pub returns-then-not-begins_at : goal.returns-then-not-begins_at
returns-then-not-begins_at c =
    let code = code_view c.args.code.now in
    let there : c.loop-statement.statement < statement_count code c.args.procedure = omega (arith, c.statement_count-count.ensures) in
    refused (λ all. iff_false c.begins_at.ensures c.if-not-begins_at.true (all c.loop-statement.statement there))

pub loop-statement-preserved : goal.loop-statement-preserved
loop-statement-preserved c =
    let code = code_view c.args.code.now in
    below_more (λ i. BeginsAt code c.args.procedure i (entry_of code c.args.procedure i)) c.loop-statement.statement c.loop-statement.invariant (c.begins_at.ensures.0 c.if-not-begins_at.false)

pub returns : goal.returns
returns c =
    let code = code_view c.args.code.now in
    granted (λ i h. (let there : i < c.loop-statement.statement = omega (arith, h, c.statement_count-count.ensures) in c.loop-statement.invariant i there))
