use Rattle.std.proofs.Common.{◌-◌, length, drop, map, sym, arith, length-drop}
use Rattle.std.specs.Prelude.{codes}
use Rattle.std.proofs.lemmas.List.{length-map, length-take}
use Rattle.vba_lexer.specs.Tokens.{lower}
use Rattle.vba_cli.proofs.SameText.{same_text_sizes}
use Rattle.vba_cli.proofs.command.ends_in_bas.Goals as goal

-- a text with fewer than four bytes doesn't match one of four
pub returns-in_default : goal.returns-in_default
returns-in_default c =
    let name = c.args.name.now in
    let ending = drop (length name - 4) name in
    let short = c.in_default.len_below in
    let start = c.saturating_sub-start.ensures in
    sym (same_text_sizes (map lower ending) (codes ".bas") (λ same. omega (arith, same, short, start, length-map ending lower, length-drop (length name - 4) name, length-take (length name - c.saturating_sub-start.result) (drop c.saturating_sub-start.result name), length-drop c.saturating_sub-start.result name)))
