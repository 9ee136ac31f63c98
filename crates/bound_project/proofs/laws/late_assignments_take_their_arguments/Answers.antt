use Rattle.bound_project.specs.declared.node.LateUse.TheVariants.{Assigning, Setting}
use Rattle.bound_project.specs.Statements.{assign_late, set_late}
use Rattle.bound_project.specs.Pieces.{by_name_in, name_in, sought_in}
use Rattle.bound_project.proofs.Lists.{given_counted, late_action}
use Rattle.bound_project.proofs.laws.late_assignments_take_their_arguments.Goals as goal

pub returns-clause-assigned : goal.returns-clause-assigned
returns-clause-assigned c = λ t m value object args same.
    late_action (sought_in t Assigning m) (λ base given e. assign_late base (name_in t m.name) (by_name_in t m.names) given e) m.arguments object value args (given_counted t m args same) same

pub returns-clause-set : goal.returns-clause-set
returns-clause-set c = λ t m value object args same.
    late_action (sought_in t Setting m) (λ base given e. set_late base (name_in t m.name) (by_name_in t m.names) given e) m.arguments object value args (given_counted t m args same) same
