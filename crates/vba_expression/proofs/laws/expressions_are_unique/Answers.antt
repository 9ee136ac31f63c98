use Rattle.vba_expression.proofs.Inverses.{one_spelled}
use Rattle.vba_expression.proofs.laws.expressions_are_unique.Goals as goal

pub returns : goal.returns
returns c = one_spelled
