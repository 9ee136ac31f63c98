use Rattle.std.proofs.Common.{◌≡◌, take, drop, None}
use Rattle.vba_grammar.specs.Clauses.{last_halves}
use Rattle.vba_clauses.proofs.halves.read_last_halves.Given as goal

abbrev pub invariant-ends : goal.invariant-ends
invariant-ends l = last_halves (take l.end l.tokens) (drop l.end l.tokens) ≡ None
