use Rattle.object_lives.proofs.Lived.{run_alive}
use Rattle.object_lives.proofs.laws.references_lead_to_objects.Goals as goal

pub returns : goal.returns
returns c = λ code book turns steps w d. run_alive code w d turns book steps
