use Rattle.std.proofs.Common.{ℕ, Option, is_some, sym, ap}
use Rattle.bound_accesses.proofs.members.behind_plain_value.Goals as goal

pub behind_object-requires-clause-other : goal.behind_object-requires-clause-other
behind_object-requires-clause-other c = sym c.in-None.ensures

pub field_of_value-requires-clause-typed : goal.field_of_value-requires-clause-typed
field_of_value-requires-clause-typed c = sym (ap (λ (o : Option ℕ). is_some o) c.in-Some.ensures)
