use Rattle.ended_objects.proofs.Alike.{run_alike}
use Rattle.ended_objects.proofs.laws.ended_objects_are_named_nowhere.Goals as goal

pub returns : goal.returns
returns c = λ pr book turns steps whole d k. run_alike pr book turns steps whole d k
