use Rattle.object_ids.proofs.Found.{ids_meant}
use Rattle.object_ids.proofs.laws.meant_ids_tell_objects_apart.Goals as goal

pub returns : goal.returns
returns c = λ pr book turns pick free. ids_meant pick free pr book turns
