use Rattle.std.proofs.Common.{length, ◌-◌}
use Rattle.vba_lexer.specs.Header.{header_end}
use Rattle.vba_lexer.proofs.Headers.{CountGoesOn}
use Rattle.vba_lexer.proofs.header.header_end.Given as goal

abbrev pub invariant-loop-count : goal.invariant-loop-count
invariant-loop-count l = CountGoesOn header_end l.source l.start l.count

abbrev pub decreases-loop-count : goal.decreases-loop-count
decreases-loop-count l = length l.source - l.start
