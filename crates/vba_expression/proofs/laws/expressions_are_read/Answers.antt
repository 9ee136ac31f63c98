use Rattle.vba_expression.proofs.Inverses.{again, none}
use Rattle.vba_expression.proofs.laws.expressions_are_read.Goals as goal

pub returns-clause-read : goal.returns-clause-read
returns-clause-read c = again

pub returns-clause-none : goal.returns-clause-none
returns-clause-none c = none
