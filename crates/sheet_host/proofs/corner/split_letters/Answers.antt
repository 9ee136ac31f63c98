use Rattle.std.proofs.Common.{◌≡◌, take_while, arith}
use Rattle.std.specs.Char.{is_ascii_alphabetic}
use Rattle.std.proofs.lemmas.Grind.{common_steps}
use Rattle.std.proofs.lemmas.List.Elements.{All-same}
use Rattle.sheet_host.specs.Address.{IsLetter}
use Rattle.sheet_host.proofs.Units.{letters_are}
use Rattle.sheet_host.proofs.corner.split_letters.Goals as goal

pub returns-clause-all : goal.returns-clause-all
returns-clause-all c =
    let text = c.args.text.now in
    let front : c.split_at.result.0.now ≡ take_while is_ascii_alphabetic text = grind (arith, common_steps) in
    All-same IsLetter c.split_at.result.0.now (take_while is_ascii_alphabetic text) front (letters_are text)
