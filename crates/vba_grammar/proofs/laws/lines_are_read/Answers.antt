use Rattle.vba_grammar.proofs.AllLaws.{lines}
use Rattle.vba_grammar.proofs.laws.lines_are_read.Goals as goal

pub returns-clause-fits : goal.returns-clause-fits
returns-clause-fits c = lines.sound

pub returns-clause-found : goal.returns-clause-found
returns-clause-found c = lines.complete
