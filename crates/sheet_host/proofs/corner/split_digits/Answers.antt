use Rattle.std.proofs.Common.{◌≡◌, take_while, arith}
use Rattle.std.specs.Char.{IsAsciiDigit, is_ascii_digit}
use Rattle.std.proofs.lemmas.Grind.{common_steps}
use Rattle.std.proofs.lemmas.List.Elements.{All-same}
use Rattle.sheet_host.proofs.Units.{digits_are}
use Rattle.sheet_host.proofs.corner.split_digits.Goals as goal

pub returns-clause-all : goal.returns-clause-all
returns-clause-all c =
    let text = c.args.text.now in
    let front : c.split_at.result.0.now ≡ take_while is_ascii_digit text = grind (arith, common_steps) in
    All-same IsAsciiDigit c.split_at.result.0.now (take_while is_ascii_digit text) front (digits_are text)
