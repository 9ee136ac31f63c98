use Rattle.object_names.proofs.BlindRuns.{blind_run}
use Rattle.object_names.proofs.laws.runs_are_blind_to_names.Goals as goal

pub returns : goal.returns
returns x = λ code r turns steps c e w h k. blind_run r code turns steps c e w h k
