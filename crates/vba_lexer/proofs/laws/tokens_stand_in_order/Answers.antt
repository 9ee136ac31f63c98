use Rattle.vba_lexer.proofs.Inside.{slices_of-stand}
use Rattle.vba_lexer.proofs.laws.tokens_stand_in_order.Goals as goal

pub returns : goal.returns
returns c = slices_of-stand
