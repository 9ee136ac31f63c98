use Rattle.std.proofs.Common.{[], ◌∷◌, ap}
use Rattle.bound_project.specs.Statements.{assign_element, set_element}
use Rattle.bound_project.specs.Pieces.{a_place, an_expr}
use Rattle.bound_project.specs.Bodies.{element_found}
use Rattle.bound_project.proofs.Lists.{exprs_are}
use Rattle.bound_project.proofs.laws.element_assignments_take_their_numbers.Goals as goal

pub returns-clause-assigned : goal.returns-clause-assigned
returns-clause-assigned c = λ t value x es. ap (λ o. element_found (λ y found e. assign_element y found e) o) (exprs_are es (a_place x ∷ an_expr value ∷ []))

pub returns-clause-set : goal.returns-clause-set
returns-clause-set c = λ t value x es. ap (λ o. element_found (λ y found e. set_element y found e) o) (exprs_are es (a_place x ∷ an_expr value ∷ []))
