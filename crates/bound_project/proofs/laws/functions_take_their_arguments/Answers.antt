use Rattle.std.proofs.Common.{ap}
use Rattle.bound_project.specs.View.{base_view}
use Rattle.bound_project.specs.Expressions.{library}
use Rattle.bound_project.specs.Pieces.{expr_of, of_found}
use Rattle.bound_project.proofs.Lists.{exprs_are}
use Rattle.bound_project.proofs.laws.functions_take_their_arguments.Goals as goal

pub returns : goal.returns
returns c = λ t n f text_form es compare one st. ap (λ o. of_found (λ found. expr_of n (library f text_form found compare (base_view one))) o) (exprs_are es st)
