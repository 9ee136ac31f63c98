use Rattle.memory_changes.proofs.Steps.{meant_row}
use Rattle.memory_changes.proofs.laws.meant_runs_are_rows_of_changes.Goals as goal

pub returns : goal.returns
returns c = λ pr book turns. meant_row pr book turns
