use Rattle.vba_statements.proofs.Arrays.{NoneFrom}
use Rattle.vba_statements.proofs.redim.read_array.Given as goal

abbrev pub invariant-brackets : goal.invariant-brackets
invariant-brackets l = NoneFrom l.tokens l.end

abbrev pub decreases-brackets : goal.decreases-brackets
decreases-brackets l = l.end
