use Rattle.vba_expression.proofs.Inverses.{takes, longest}
use Rattle.vba_expression.proofs.laws.expressions_stand_there.Goals as goal

pub returns-clause-taken : goal.returns-clause-taken
returns-clause-taken c = takes

pub returns-clause-longest : goal.returns-clause-longest
returns-clause-longest c = longest
