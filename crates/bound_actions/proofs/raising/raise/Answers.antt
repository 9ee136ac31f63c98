use Rattle.std.proofs.Common.{List, map, ap, ◌∙◌}
use Rattle.bound_project.specs.View.{parameter_view}
use Rattle.bound_project.specs.declared.declarations.Parameter.{Parameter as Held}
use Rattle.bound_actions.proofs.raising.raise.Goals as goal

pub raise_with-requires-clause-raised : goal.raise_with-requires-clause-raised
raise_with-requires-clause-raised c = ap (λ (l : List Held). map parameter_view l) c.as_slice.ensures.value ∙ c.in_ok-parameters.ensures
