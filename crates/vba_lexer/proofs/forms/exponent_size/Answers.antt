use Rattle.vba_lexer.proofs.Pieces.{longest_either}
use Rattle.vba_lexer.proofs.forms.exponent_size.Goals as goal

pub returns : goal.returns
returns c = longest_either _ _ _ _ _ _ c.form_size-digits_first.ensures c.form_size-point_first.ensures c.max.ensures
