use Rattle.std.proofs.Common.{◌∙◌, sym}
use Rattle.vba_lexer.proofs.BracketWords.{longest_bracketed, longest_unbracketed}
use Rattle.vba_lexer.proofs.forms.bracketed_size.Goals as goal

pub returns-then-is_bracketed : goal.returns-then-is_bracketed
returns-then-is_bracketed c =
    longest_bracketed c.args.line.now c.args.run c.requires (sym c.is_bracketed.ensures ∙ c.if-is_bracketed.true)

pub returns-else-is_bracketed : goal.returns-else-is_bracketed
returns-else-is_bracketed c =
    longest_unbracketed c.args.line.now c.args.run c.requires (sym c.is_bracketed.ensures ∙ c.if-is_bracketed.false)
