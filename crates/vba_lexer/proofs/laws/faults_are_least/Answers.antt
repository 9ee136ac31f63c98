use Rattle.vba_lexer.proofs.LeastFaults.{lexed-least}
use Rattle.vba_lexer.proofs.laws.faults_are_least.Goals as goal

pub returns : goal.returns
returns c = lexed-least
