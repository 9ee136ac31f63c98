use Rattle.object_lives.proofs.Meant.{counts_mean}
use Rattle.object_lives.proofs.laws.counted_runs_are_meant.Goals as goal

pub returns : goal.returns
returns c = λ pr book turns. counts_mean pr book turns
