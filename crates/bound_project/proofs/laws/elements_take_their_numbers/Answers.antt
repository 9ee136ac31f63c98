use Rattle.std.proofs.Common.{ap}
use Rattle.bound_project.specs.View.{variable_view}
use Rattle.bound_project.specs.Expressions.{item}
use Rattle.bound_project.specs.Pieces.{a_place, of_found}
use Rattle.bound_project.proofs.Lists.{exprs_are}
use Rattle.bound_project.proofs.laws.elements_take_their_numbers.Goals as goal

pub returns : goal.returns
returns c = λ t n x es st. ap (λ o. of_found (λ found. a_place (item (variable_view x) found)) o) (exprs_are es st)
