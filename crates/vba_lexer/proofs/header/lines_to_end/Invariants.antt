use Rattle.std.proofs.Common.{length, ◌-◌}
use Rattle.vba_lexer.specs.Header.{lines_to_end}
use Rattle.vba_lexer.proofs.Headers.{CountGoesOn}
use Rattle.vba_lexer.proofs.header.lines_to_end.Given as goal

abbrev pub invariant-loop-ending : goal.invariant-loop-ending
invariant-loop-ending l = CountGoesOn lines_to_end l.source l.start l.count

abbrev pub decreases-loop-ending : goal.decreases-loop-ending
decreases-loop-ending l = length l.source - l.start
