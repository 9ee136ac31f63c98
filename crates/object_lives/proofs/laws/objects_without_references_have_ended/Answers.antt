use Rattle.object_lives.proofs.Lived.{run_referred}
use Rattle.object_lives.proofs.laws.objects_without_references_have_ended.Goals as goal

pub returns : goal.returns
returns c = λ code book turns steps w d. run_referred code w d turns book steps
