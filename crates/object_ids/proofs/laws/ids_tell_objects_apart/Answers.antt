use Rattle.object_ids.proofs.Found.{ids_found}
use Rattle.object_ids.proofs.laws.ids_tell_objects_apart.Goals as goal

pub returns : goal.returns
returns c = λ d book pick free. ids_found pick free d book
