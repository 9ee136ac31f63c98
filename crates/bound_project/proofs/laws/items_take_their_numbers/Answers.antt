use Rattle.std.proofs.Common.{[], ◌∷◌, ap}
use Rattle.bound_project.specs.Pieces.{an_expr}
use Rattle.bound_project.specs.Bodies.{item_found}
use Rattle.bound_project.proofs.Lists.{exprs_are}
use Rattle.bound_project.proofs.laws.items_take_their_numbers.Goals as goal

pub returns : goal.returns
returns c = λ t value base es. ap (λ o. item_found o) (exprs_are es (an_expr base ∷ an_expr value ∷ []))
