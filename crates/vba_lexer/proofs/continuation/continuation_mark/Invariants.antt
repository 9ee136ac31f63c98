use Rattle.std.proofs.Common.{length, ◌-◌}
use Rattle.vba_lexer.proofs.ContinuationLemmas.{PassedOver}
use Rattle.vba_lexer.proofs.continuation.continuation_mark.Given as goal

abbrev pub invariant-loop-place : goal.invariant-loop-place
invariant-loop-place l = PassedOver l.text l.white_before l.place

abbrev pub decreases-loop-place : goal.decreases-loop-place
decreases-loop-place l = length l.text - l.place
