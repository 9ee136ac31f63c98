use Rattle.code_check.specs.View.{operands_view}
use Rattle.code_check.proofs.Ways.{over, over_or_not}
use Rattle.code_check.proofs.way.ended.Goals as goal

pub returns-then-is_empty : goal.returns-then-is_empty
returns-then-is_empty c = over (operands_view c.args.operands.now) (c.is_empty.ensures.0 c.if-is_empty.true)

pub returns-else-is_empty : goal.returns-else-is_empty
returns-else-is_empty c = over_or_not (operands_view c.args.operands.now) c.is_empty.result c.is_empty.ensures c.if-is_empty.false
