use Rattle.object_names.proofs.Blind.{blind_step}
use Rattle.object_names.proofs.laws.steps_are_blind_to_names.Goals as goal

pub returns : goal.returns
returns x = λ code r c e w h k. blind_step r code c e w h k
