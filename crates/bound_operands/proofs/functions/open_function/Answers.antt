use Rattle.bound_operands.proofs.Library.{opens_function}
use Rattle.bound_operands.proofs.functions.open_function.Goals as goal

pub returns : goal.returns
returns c = λ env d. opens_function env c.args.tree c.args.function d
