use Rattle.vba_grammar.proofs.AllLaws.{no_line}
use Rattle.vba_grammar.proofs.laws.lines_are_refused.Goals as goal

pub returns : goal.returns
returns c = no_line
