use Rattle.std.proofs.Common.{◌≡◌, ◌∙◌, ◌+◌, ◌*◌, arith, min, take}
use Rattle.std.proofs.lemmas.Grind.{common_steps}
use Rattle.vba_lexer.specs.Numbers.{digits_value, digit_at}
use Rattle.vba_lexer.proofs.NumberLemmas.{currency-fixed}
use Rattle.vba_lexer.proofs.number.fixed_currency.Goals as goal

pub returns : goal.returns
returns c =
    let cut : c.digits_value.result ≡ min (digits_value 10 (take c.digit_run-run.result c.args.text.now)) 0x1_0000_0000_0000_0000 =
    grind (arith, common_steps, c.digits_value.ensures) in
    let first : c.digit_at.result ≡ digit_at c.from_place-fraction.result.now 0 = c.digit_at.ensures.value in
    let second : c.digit_at-2.result ≡ digit_at c.from_place-fraction.result.now 1 = c.digit_at-2.ensures.value in
    let third : c.digit_at-3.result ≡ digit_at c.from_place-fraction.result.now 2 = c.digit_at-3.ensures.value in
    let fourth : c.digit_at-4.result ≡ digit_at c.from_place-fraction.result.now 3 = c.digit_at-4.ensures.value in
    c.currency.ensures
    ∙ currency-fixed c.args.text.now c.digit_run-run.result c.digits_value.result
    (c.digits_value.result * 10000 + (c.digit_at.result * 1000 + c.digit_at-2.result * 100 + c.digit_at-3.result * 10 + c.digit_at-4.result))
    c.rounded.result c.from_place-fraction.result.now c.digit_run-run.ensures.size c.from_place-fraction.ensures cut (rw (first, second, third, fourth))
    (rw c.from_place.ensures at c.rounded.ensures)
