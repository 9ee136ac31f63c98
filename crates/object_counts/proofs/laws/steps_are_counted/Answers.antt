use Rattle.object_counts.proofs.Whole.{step_counts}
use Rattle.object_counts.proofs.laws.steps_are_counted.Goals as goal

pub returns : goal.returns
returns c = λ code turns counts config balanced. step_counts code turns counts config balanced
