use Rattle.std.proofs.Common.{length}
use Rattle.vba_lexer.proofs.forms.+pieces_size.Given as goal

abbrev pub decreases-pieces_size : goal.decreases-pieces_size
decreases-pieces_size l = length l.pieces.now
