use Rattle.std.proofs.Common.{arith}
use Rattle.vba_clauses.proofs.Equals.{found_there}
use Rattle.vba_clauses.proofs.halves.read_last_halves.Goals as goal

pub returns-in-Some : goal.returns-in-Some
returns-in-Some c =
    found_there c.args.tokens.now _ _ c.ends.end _ (omega arith) (omega (arith, c.in_ok-limit.ensures.within)) c.split_at.ensures.front c.split_at.ensures.back
    c.ends.invariant (rw c.in-Some.is at c.in_ok-found.ensures)
