use Rattle.object_lives.proofs.Lived.{meant_alive}
use Rattle.object_lives.proofs.laws.meant_references_lead_to_objects.Goals as goal

pub returns : goal.returns
returns c = λ pr book turns whole d. meant_alive pr book turns whole d
