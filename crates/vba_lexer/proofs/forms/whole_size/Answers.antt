use Rattle.vba_lexer.proofs.Pieces.{longest_either}
use Rattle.vba_lexer.proofs.forms.whole_size.Goals as goal

pub returns : goal.returns
returns c = longest_either _ _ _ _ _ _ (longest_either _ _ _ _ _ _ c.form_size-decimal.ensures c.form_size-hexadecimal.ensures c.max.ensures) c.form_size-octal.ensures c.max-2.ensures
