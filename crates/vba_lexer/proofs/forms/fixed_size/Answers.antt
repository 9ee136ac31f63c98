use Rattle.vba_lexer.proofs.Pieces.{longest_either}
use Rattle.vba_lexer.proofs.forms.fixed_size.Goals as goal

pub returns : goal.returns
returns c = longest_either _ _ _ _ _ _ c.plain_fixed_size.ensures c.exponent_size.ensures c.max.ensures
