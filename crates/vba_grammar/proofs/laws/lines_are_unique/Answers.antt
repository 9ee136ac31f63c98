use Rattle.vba_grammar.proofs.AllLaws.{one_line}
use Rattle.vba_grammar.proofs.laws.lines_are_unique.Goals as goal

pub returns : goal.returns
returns c = one_line
