use Rattle.std.proofs.Common.{◌<◌, arith}
use Rattle.code_check.proofs.Tests.{refused, granted}
use Rattle.code_check.proofs.Entries.{all_numbers_more, all_numbers_end, all_numbers_at}
use Rattle.code_check.proofs.numbers.are_below.Goals as goal

pub returns-then-end-number : goal.returns-then-end-number
returns-then-end-number c =
    refused (λ all. omega (arith, all_numbers_at (λ i. i < c.args.end) c.args.numbers.now c.loop-number.number-index c.loop-number-test.true all, c.if-end-number.true))

pub loop-number-preserved : goal.loop-number-preserved
loop-number-preserved c =
    all_numbers_more (λ i. i < c.args.end) c.args.numbers.now c.loop-number.number-index c.loop-number-test.true c.loop-number.invariant c.if-end-number.false

pub returns : goal.returns
returns c = granted (all_numbers_end (λ i. i < c.args.end) c.args.numbers.now c.loop-number.number-index c.loop-number-test.false c.loop-number.invariant)
