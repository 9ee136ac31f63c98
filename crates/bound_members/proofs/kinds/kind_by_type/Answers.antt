use Rattle.bound_members.proofs.Kinding.{typed_ending}
use Rattle.bound_members.proofs.kinds.kind_by_type.Goals as goal

pub returns : goal.returns
returns c = typed_ending c.args.ending c.kind_of_type.result c.requires c.kind_of_type.ensures
