use Rattle.std.proofs.Common.{◌≡◌, arith}
use Rattle.std.specs.Char.{IsAsciiDigit}
use Rattle.std.proofs.lemmas.Grind.{common_steps}
use Rattle.std.proofs.lemmas.List.Elements.{All-same}
use Rattle.currency.specs.NumberText.{first_digits}
use Rattle.currency.proofs.NumberTextLaws.{digits_are}
use Rattle.currency.proofs.numeral.split_digits.Goals as goal

pub returns-clause-all : goal.returns-clause-all
returns-clause-all c =
    let text = c.args.text.now in
    let front : c.split_at.result.0.now ≡ first_digits text = grind (arith, common_steps) in
    All-same IsAsciiDigit c.split_at.result.0.now (first_digits text) front (digits_are text)
