use Rattle.std.proofs.Common.{length}
use Rattle.vba_lexer.proofs.header.+spells.Given as goal

abbrev pub decreases-spells : goal.decreases-spells
decreases-spells l = length l.words.now
