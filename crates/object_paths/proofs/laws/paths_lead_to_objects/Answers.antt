use Rattle.object_paths.proofs.Lead.{run_leads}
use Rattle.object_paths.proofs.laws.paths_lead_to_objects.Goals as goal

pub returns : goal.returns
returns c = λ pr book turns steps whole d k. run_leads pr book turns steps whole d k
