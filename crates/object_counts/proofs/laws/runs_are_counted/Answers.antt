use Rattle.object_counts.proofs.Whole.{run_counts}
use Rattle.object_counts.proofs.laws.runs_are_counted.Goals as goal

pub returns : goal.returns
returns c = λ code book turns steps. run_counts code turns book steps
