use Rattle.std.proofs.Common.{◌≡◌, ◌++◌, length}
use Rattle.vba_words.specs.Readings.{between_quotes}
use Rattle.vba_words.proofs.quotes.between_quotes.Given as goal

abbrev pub invariant-loop-text : goal.invariant-loop-text
invariant-loop-text l = l.kept ++ between_quotes l.text ≡ between_quotes l.fn.text

abbrev pub decreases-loop-text : goal.decreases-loop-text
decreases-loop-text l = length l.text
