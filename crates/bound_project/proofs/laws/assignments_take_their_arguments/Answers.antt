use Rattle.std.proofs.Common.{cond, [], ◌∷◌, Some, None, ap, ◌∙◌}
use Rattle.bound_project.specs.Expressions.{given_count}
use Rattle.bound_project.specs.Statements.{assign_member}
use Rattle.bound_project.specs.Pieces.{an_expr, a_member, name_in}
use Rattle.bound_project.specs.Bodies.{member_found}
use Rattle.bound_project.specs.Lists.{exprs_of}
use Rattle.bound_project.proofs.Lists.{exprs_are, is_itself}
use Rattle.bound_project.proofs.laws.assignments_take_their_arguments.Goals as goal

pub returns : goal.returns
returns c = λ t i value object es.
    ap (λ o. member_found (name_in t i) o) (exprs_are es (a_member object (name_in t i) (given_count (exprs_of es)) ∷ an_expr value ∷ []))
    ∙ ap (λ b. cond b (Some (assign_member object (name_in t i) (exprs_of es) value)) None) (is_itself (name_in t i) (exprs_of es))
