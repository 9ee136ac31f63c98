use Rattle.std.proofs.Common.{◌<◌, below_more, arith}
use Rattle.pcode.specs.Instructions.{next_statement}
use Rattle.pcode.specs.View.{code_view}
use Rattle.pcode.specs.WellFormed.{IsTarget, statement_count}
use Rattle.code_check.proofs.Tests.{refused, granted}
use Rattle.code_check.proofs.tables.table_goes_on.Goals as goal

pub returns-then-count-next_statement : goal.returns-then-count-next_statement
returns-then-count-next_statement c =
    let code = code_view c.args.code.now in
    let there : c.loop-statement.statement < statement_count code c.args.procedure = omega (arith, c.statement_count-count.ensures) in
    refused (λ all. omega (arith, all c.loop-statement.statement there, c.next_statement.ensures, c.statement_count-count.ensures))

pub loop-statement-preserved : goal.loop-statement-preserved
loop-statement-preserved c =
    let code = code_view c.args.code.now in
    let here : IsTarget code c.args.procedure (next_statement code c.args.procedure c.loop-statement.statement) = omega (arith, c.next_statement.ensures, c.statement_count-count.ensures) in
    below_more (λ i. IsTarget code c.args.procedure (next_statement code c.args.procedure i)) c.loop-statement.statement c.loop-statement.invariant here

pub returns : goal.returns
returns c = granted (λ i h. (let there : i < c.loop-statement.statement = omega (arith, h, c.statement_count-count.ensures) in c.loop-statement.invariant i there))
