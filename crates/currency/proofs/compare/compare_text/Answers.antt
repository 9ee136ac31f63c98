use Rattle.std.proofs.Common.{ℕ, ℤ, Some, Option, ◌≡◌, ◌<◌, ap, ◌∙◌, unsigned_abs, arith}
use Rattle.std.specs.Int.{w128}
use Rattle.std.specs.Prelude.{option_map}
use Rattle.std.proofs.lemmas.Int.{to_z-of_z}
use Rattle.std.specs.declared.cmp.Ordering.{Ordering}
use Rattle.currency.specs.NumberText.{read}
use Rattle.currency.specs.Cut.{greatest, compare_cut, compare_signed}
use Rattle.currency.specs.Parsed.{compare_numeral}
use Rattle.currency.specs.View.{numeral_of}
use Rattle.currency.proofs.CompareLaws.{compare_is, compare-none}
use Rattle.currency.proofs.compare.compare_text.Goals as goal
use Rattle.currency.proofs.compare.compare_text.Goals.{After-compare_signed}

order_is : (c : After-compare_signed) → ◌≡◌ {A = Option Ordering} (Some c.compare_signed.result) (option_map (compare_numeral c.args.ten_thousandths) (read c.args.text.now))
order_is c =
    let count = c.args.ten_thousandths in
    let n = numeral_of c.in_ok-numeral.numeral in
    let same = to_z-of_z w128 count c.ranges.ten_thousandths in
    let small : unsigned_abs count < greatest = omega (arith, c.requires) in
    let sizes =
    c.compare-size.ensures
    ∙ ap (λ (k : ℕ). compare_cut k c.of.result) (c.unsigned_abs.ensures.value ∙ ap unsigned_abs same)
    ∙ ap (compare_cut (unsigned_abs count)) c.of.ensures in
    let order =
    c.compare_signed.ensures
    ∙ ap (λ (z : ℤ). compare_signed z n.negative c.compare-size.result) same
    ∙ ap (compare_signed count n.negative) sizes
    ∙ compare_is count n small in
    ap Some order ∙ ap (option_map (compare_numeral count)) c.in_ok-numeral.ensures.number

pub returns-clause-order : goal.returns-clause-order
returns-clause-order c = order_is c

pub returns-clause-none : goal.returns-clause-none
returns-clause-none c = compare-none c.args.ten_thousandths c.args.text.now (Some c.compare_signed.result) (order_is c)

pub returns-in_err-numeral-clause-none : goal.returns-in_err-numeral-clause-none
returns-in_err-numeral-clause-none c =
    compare-none c.args.ten_thousandths c.args.text.now c.from_residual.result
    (c.from_residual.ensures ∙ ap (option_map (compare_numeral c.args.ten_thousandths)) c.in_err-numeral.ensures.number)
