use Rattle.bound_project.specs.Expressions.{named_member}
use Rattle.bound_project.specs.Pieces.{by_name_in, expr_of, name_in}
use Rattle.bound_project.proofs.Lists.{named_put}
use Rattle.bound_project.proofs.laws.named_members_take_their_arguments.Goals as goal

pub returns : goal.returns
returns c = λ t n i by object es st.
    named_put (name_in t i) (by_name_in t by) (λ e found. expr_of n (named_member e (name_in t i) (by_name_in t by) found)) object es st
