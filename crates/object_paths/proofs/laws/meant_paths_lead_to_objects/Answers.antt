use Rattle.object_paths.proofs.Lead.{meant_leads}
use Rattle.object_paths.proofs.laws.meant_paths_lead_to_objects.Goals as goal

pub returns : goal.returns
returns c = λ pr book turns whole d k. meant_leads pr book turns whole d k
