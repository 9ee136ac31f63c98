use Rattle.std.proofs.Common.{◌≡◌, ℕ, length, take, drop, ◌-◌, ◌*◌, ◌^◌, ap, ◌∙◌}
use Rattle.std.specs.Prelude.{min}
use Rattle.std.specs.Str.Parse.{digits_value, digits_value_after}
use Rattle.currency.specs.Cut.{greatest, rest_of}
use Rattle.currency.specs.View.{numeral_of}
use Rattle.currency.proofs.CutLaws.{size_of, cut_is}
use Rattle.currency.proofs.cut.Cut.of.Goals as goal

pub returns : goal.returns
returns c =
    let n = numeral_of c.args.numeral in
    let behind = λ (k : ℕ). drop k n.fraction in
    let kept : c.min-kept.result ≡ min c.args.places (length n.fraction) = c.min-kept.ensures in
    let front = c.split_at.ensures.front ∙ ap (λ k. take k n.fraction) kept in
    let back = c.split_at.ensures.back ∙ ap behind kept in
    cut_is n c.args.places c.with_zeros.result c.of.result c.requires
    (size_of n.whole (take (min c.args.places (length n.fraction)) n.fraction) (c.args.places - min c.args.places (length n.fraction))
    c.with_digits.result c.with_digits-size.result c.with_zeros.result
    c.with_digits.ensures
    (c.with_digits-size.ensures ∙ ap (λ l. min (digits_value_after 10 c.with_digits.result l) greatest) front)
    (c.with_zeros.ensures ∙ ap (λ k. min (c.with_digits-size.result * 10 ^ (c.args.places - k)) greatest) kept))
    (c.of.ensures ∙ ap (λ l. rest_of (digits_value 10 l) (10 ^ length l)) back)
