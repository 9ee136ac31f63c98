use Rattle.std.proofs.Common.{sym}
use Rattle.bound_accesses.proofs.members.behind_value.Goals as goal

pub behind_class_value-requires-clause-class : goal.behind_class_value-requires-clause-class
behind_class_value-requires-clause-class c = sym c.in-Some.ensures

pub behind_plain_value-requires-clause-class : goal.behind_plain_value-requires-clause-class
behind_plain_value-requires-clause-class c = sym c.in-None.ensures
