use Rattle.std.proofs.Common.{◌∷◌, ap}
use Rattle.bound_project.specs.Expressions.{element_along, late_item}
use Rattle.bound_project.specs.Pieces.{a_place, an_expr, expr_of, of_place_found, of_value_found}
use Rattle.bound_project.proofs.Lists.{exprs_are}
use Rattle.bound_project.proofs.laws.items_along_take_their_arguments.Goals as goal

pub returns-clause-value : goal.returns-clause-value
returns-clause-value c = λ t n base es st. ap (λ o. of_value_found (λ e found. expr_of n (late_item e found)) o) (exprs_are es (an_expr base ∷ st))

pub returns-clause-place : goal.returns-clause-place
returns-clause-place c = λ t n x es st. ap (λ o. of_place_found (λ y found. a_place (element_along y found)) o) (exprs_are es (a_place x ∷ st))
