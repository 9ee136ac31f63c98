use Rattle.std.proofs.Common.{length}
use Rattle.vba_lexer.proofs.line_tokens.+is_the_word.Given as goal

abbrev pub decreases-is_the_word : goal.decreases-is_the_word
decreases-is_the_word l = length l.word.now
