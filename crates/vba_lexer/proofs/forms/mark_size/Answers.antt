use Rattle.vba_lexer.proofs.Pieces.{longest_either}
use Rattle.vba_lexer.proofs.forms.mark_size.Goals as goal

pub returns : goal.returns
returns c = longest_either _ _ _ _ _ _ (longest_either _ _ _ _ _ _ (longest_either _ _ _ _ _ _ (longest_either _ _ _ _ _ _ c.form_size-single.ensures c.form_size-less.ensures c.max.ensures) c.form_size-greater.ensures c.max-2.ensures) c.form_size-equal.ensures c.max-3.ensures) c.form_size-assign.ensures c.max-4.ensures
