use Rattle.std.proofs.Common.{◌<◌, arith}
use Rattle.code_check.proofs.Tests.{refused, granted}
use Rattle.code_check.proofs.Entries.{all_numbers_more, all_numbers_end, all_numbers_at}
use Rattle.code_check.proofs.handlers.are_fields.Goals as goal

pub returns-then-fields-number : goal.returns-then-fields-number
returns-then-fields-number c =
    refused (λ all. omega (arith, all_numbers_at (λ i. i < c.args.fields) c.args.numbers.now c.loop-number.number-index c.loop-number-test.true all, c.if-fields-number.true))

pub loop-number-preserved : goal.loop-number-preserved
loop-number-preserved c =
    all_numbers_more (λ i. i < c.args.fields) c.args.numbers.now c.loop-number.number-index c.loop-number-test.true c.loop-number.invariant c.if-fields-number.false

pub returns : goal.returns
returns c = granted (all_numbers_end (λ i. i < c.args.fields) c.args.numbers.now c.loop-number.number-index c.loop-number-test.false c.loop-number.invariant)
