use Rattle.bound_members.proofs.Kinding.{host_ending}
use Rattle.bound_members.proofs.kinds.kind_of_ending.Goals as goal

pub returns-in-HostObject : goal.returns-in-HostObject
returns-in-HostObject c = host_ending c.args.ending c.in-HostObject.reference c.kind_of_object.result c.in-HostObject.is c.kind_of_object.ensures
