use Rattle.std.proofs.Common.{ap}
use Rattle.bound_project.specs.Project.{next_or}
use Rattle.bound_project.proofs.laws.statements_past_the_end_are_next.Goals as goal

pub returns : goal.returns
returns c = λ pr p i e. ap (λ o. next_or o i) e
