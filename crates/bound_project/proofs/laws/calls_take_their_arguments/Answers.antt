use Rattle.std.proofs.Common.{ap}
use Rattle.bound_project.specs.Expressions.{call}
use Rattle.bound_project.specs.Pieces.{expr_of, of_found}
use Rattle.bound_project.proofs.Lists.{args_are}
use Rattle.bound_project.proofs.laws.calls_take_their_arguments.Goals as goal

pub returns : goal.returns
returns c = λ t n p args st. ap (λ o. of_found (λ found. expr_of n (call p found)) o) (args_are args st)
