use Rattle.memory_changes.proofs.Steps.{run_row}
use Rattle.memory_changes.proofs.laws.runs_are_rows_of_changes.Goals as goal

pub returns : goal.returns
returns c = λ code book turns steps. run_row code turns book steps
