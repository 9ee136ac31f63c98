use Rattle.std.proofs.Common.{drop, sym}
use Rattle.std.proofs.lemmas.List.{take_rest}
use Rattle.vba_statements.proofs.Fronts.{begins_with}
use Rattle.vba_statements.proofs.Simples.{kept_first}
use Rattle.vba_statements.proofs.simple.read_simple.Goals as goal

pub returns-in-Some : goal.returns-in-Some
returns-in-Some c =
    let line = c.args.tokens.now in
    let t = c.token-item.result in
    rw (take_rest, kept_first line t (drop 1 line) _ (begins_with line t c.in-len1-up.len_at_least c.token-item.is) (sym c.in-Some.ensures))
    at c.read_whole_kept.ensures
