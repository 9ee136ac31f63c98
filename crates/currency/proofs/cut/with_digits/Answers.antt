use Rattle.std.proofs.Common.{◌≡◌, ◌+◌, ◌-◌, ◌≤◌, ◌*◌, ◌<◌, length, get_or, drop, ap, sym, ◌∙◌, arith}
use Rattle.std.specs.Prelude.{min}
use Rattle.std.specs.Str.Parse.{digits_value_after}
use Rattle.std.proofs.lemmas.List.{drop_more, drop_all}
use Rattle.currency.specs.Cut.{greatest}
use Rattle.currency.proofs.CutLaws.{digits_step}
use Rattle.currency.proofs.cut.with_digits.Goals as goal

pub loop-digit-preserved : goal.loop-digit-preserved
loop-digit-preserved c =
    let xs = c.args.digits.now in
    let i = c.loop-digit.digit-index in
    let size = c.loop-digit.size in
    let new = c.saturating_add-size.result in
    let d = get_or xs i 0 in
    let within : i < length xs = omega arith in
    let read : new ≡ min (min (size * 10) greatest + (d - 48)) greatest = omega arith in (
      omega arith,
      digits_step size d (drop (i + 1) xs) new (c.requires i 0 within) read
          ∙ ap (λ l. min (digits_value_after 10 size l) greatest) (sym (drop_more xs i 0 within))
          ∙ c.loop-digit.invariant.1,
    )

pub returns : goal.returns
returns c =
    let past : length c.args.digits.now ≤ c.loop-digit.digit-index = omega arith in
    let whole = rw (drop_all c.loop-digit.digit-index c.args.digits.now past) at c.loop-digit.invariant.1 in
    omega (arith, whole, c.loop-digit.invariant.0)
