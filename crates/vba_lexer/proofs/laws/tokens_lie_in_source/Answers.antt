use Rattle.vba_lexer.proofs.Inside.{lies_in-lexed, token_count-lexed}
use Rattle.vba_lexer.proofs.laws.tokens_lie_in_source.Goals as goal

pub returns-clause-inside : goal.returns-clause-inside
returns-clause-inside c = lies_in-lexed

pub returns-clause-count : goal.returns-clause-count
returns-clause-count c = token_count-lexed
