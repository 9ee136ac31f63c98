use Rattle.std.proofs.Common.{◌≡◌, ◌≤◌, pos, ◌<ℤ◌, ◌≤ℤ◌, unsigned_abs, ap, ◌∙◌, arith}
use Rattle.std.specs.Int.{w128}
use Rattle.std.proofs.lemmas.Int.{ints, to_z-of_z}
use Rattle.currency.specs.HalfEven.{nearest}
use Rattle.currency.proofs.HalfEvenLaws.{nearest_le, half_even-size_neg, half_even-size_pos}
use Rattle.currency.proofs.rounding.half_even.Goals as goal
use Rattle.currency.proofs.rounding.half_even.Goals.{After-nearest-size}

-- the size is that of the dividend's size
size_is : (c : After-nearest-size) → c.nearest-size.result ≡ nearest (unsigned_abs c.args.dividend) c.args.divisor
size_is c =
    c.nearest-size.ensures
    ∙ ap (λ n. nearest n c.from.result) (c.unsigned_abs.ensures.value ∙ ap unsigned_abs (to_z-of_z w128 c.args.dividend c.ranges.dividend))
    ∙ ap (nearest (unsigned_abs c.args.dividend)) c.from.ensures

size_le : (c : After-nearest-size) → c.nearest-size.result ≤ unsigned_abs c.args.dividend
size_le c = omega (arith, size_is c, nearest_le (unsigned_abs c.args.dividend) c.args.divisor c.requires.positive)

pub overflow_cast-size : goal.overflow_cast-size
overflow_cast-size c = record { sfits = omega (arith, size_le c) }

pub overflow_sub-result : goal.overflow_sub-result
overflow_sub-result c = omega (arith, ints, size_le (goal.at.overflow_sub-result c).After-nearest-size)

pub returns-then-dividend-lt0 : goal.returns-then-dividend-lt0
returns-then-dividend-lt0 c =
    let up = (goal.at.returns-then-dividend-lt0 c).After-nearest-size in
    let under : c.args.dividend <ℤ pos 0 = omega (arith, ints) in
    omega (arith, ints, size_le up, half_even-size_neg c.args.dividend c.args.divisor c.nearest-size.result (size_is up) under)

pub returns-else-dividend-lt0 : goal.returns-else-dividend-lt0
returns-else-dividend-lt0 c =
    let up = (goal.at.returns-else-dividend-lt0 c).After-nearest-size in
    let over : pos 0 ≤ℤ c.args.dividend = omega (arith, ints) in
    omega (arith, ints, size_le up, half_even-size_pos c.args.dividend c.args.divisor c.nearest-size.result (size_is up) over)
