use Rattle.vba_lexer.proofs.Pieces.{longest_either}
use Rattle.vba_lexer.proofs.forms.word_size.Goals as goal

pub returns : goal.returns
returns c = longest_either _ _ _ _ _ _ c.form_size-name.ensures c.bracketed_size.ensures c.max.ensures
