use Rattle.bound_project.specs.declared.node.LateUse.TheVariants.{Reading}
use Rattle.bound_project.specs.Expressions.{late_member}
use Rattle.bound_project.specs.Pieces.{by_name_in, expr_of, name_in, sought_in}
use Rattle.bound_project.proofs.Lists.{given_counted, late_is}
use Rattle.bound_project.proofs.laws.late_members_take_their_arguments.Goals as goal

pub returns : goal.returns
returns c = λ t n m object args st same.
    late_is (sought_in t Reading m) (λ e given. expr_of n (late_member e (name_in t m.name) (by_name_in t m.names) given)) m.arguments object args st (given_counted t m args same) same
