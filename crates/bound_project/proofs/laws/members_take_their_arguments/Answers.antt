use Rattle.bound_project.specs.Expressions.{host_member}
use Rattle.bound_project.specs.Pieces.{expr_of, name_in}
use Rattle.bound_project.proofs.Lists.{member_put}
use Rattle.bound_project.proofs.laws.members_take_their_arguments.Goals as goal

pub returns : goal.returns
returns c = λ t n i object es st. member_put (name_in t i) (λ e found. expr_of n (host_member e (name_in t i) found)) object es st
