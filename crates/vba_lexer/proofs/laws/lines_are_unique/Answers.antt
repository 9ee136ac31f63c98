use Rattle.vba_lexer.proofs.Splits.{AreLinesOf-lines_of, lines_of-only}
use Rattle.vba_lexer.proofs.laws.lines_are_unique.Goals as goal

pub returns-clause-made : goal.returns-clause-made
returns-clause-made c = AreLinesOf-lines_of

pub returns-clause-only : goal.returns-clause-only
returns-clause-only c = lines_of-only
