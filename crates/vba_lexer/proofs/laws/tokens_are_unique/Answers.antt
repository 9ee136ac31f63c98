use Rattle.vba_lexer.proofs.UniqueSlices.{slices_of-are, slices_of-only}
use Rattle.vba_lexer.proofs.laws.tokens_are_unique.Goals as goal

pub returns-clause-made : goal.returns-clause-made
returns-clause-made c = slices_of-are

pub returns-clause-only : goal.returns-clause-only
returns-clause-only c = slices_of-only
