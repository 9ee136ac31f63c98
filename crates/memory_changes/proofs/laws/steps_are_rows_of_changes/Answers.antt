use Rattle.memory_changes.proofs.Steps.{step_rows}
use Rattle.memory_changes.proofs.laws.steps_are_rows_of_changes.Goals as goal

pub returns : goal.returns
returns c = λ code by at. step_rows code by at
