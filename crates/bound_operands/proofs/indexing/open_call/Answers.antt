use Rattle.bound_operands.proofs.Elements.{opens_call}
use Rattle.bound_operands.proofs.indexing.open_call.Goals as goal

pub returns : goal.returns
returns c = λ env d e p. opens_call env c.args.tree c.args.routine d e p
