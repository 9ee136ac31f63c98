use Rattle.std.proofs.Common.{◌-◌, get_or, ap, ◌∙◌, arith}
use Rattle.currency.specs.Cut.{rest_by}
use Rattle.currency.proofs.CutLaws.{rest_of_digits}
use Rattle.currency.proofs.cut.Rest.of.Goals as goal

pub returns-in-len1-up : goal.returns-in-len1-up
returns-in-len1-up c =
    let digits = c.args.digits.now in
    c.of_first.ensures ∙ ap (rest_by (get_or digits 0 0 - 48)) c.is_zero.ensures ∙ rest_of_digits digits (omega arith) c.requires
