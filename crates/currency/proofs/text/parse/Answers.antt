use Rattle.std.proofs.Common.{◌≡◌, rules}
use Rattle.currency.specs.Parsed.{parsed}
use Rattle.currency.proofs.ParsedLaws.{parsed-not_number}
use Rattle.currency.proofs.text.parse.Goals as goal

pub returns-in_err-count-clause-not_number : goal.returns-in_err-count-clause-not_number
returns-in_err-count-clause-not_number c =
    let is : c.from_residual.result ≡ parsed 4 c.args.text.now = search rules in
    parsed-not_number 4 c.args.text.now c.from_residual.result is
