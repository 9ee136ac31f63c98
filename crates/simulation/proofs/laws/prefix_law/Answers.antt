use Rattle.simulation.proofs.Whole.{prefix}
use Rattle.simulation.proofs.laws.prefix_law.Goals as goal

pub returns : goal.returns
returns c = λ pr book turns more le. prefix pr book turns more le
