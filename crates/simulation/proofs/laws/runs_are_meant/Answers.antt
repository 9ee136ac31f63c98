use Rattle.simulation.proofs.Whole.{means}
use Rattle.simulation.proofs.laws.runs_are_meant.Goals as goal

pub returns : goal.returns
returns c = λ pr book turns. means pr book turns
