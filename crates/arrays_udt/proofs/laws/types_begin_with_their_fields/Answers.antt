use Rattle.arrays_udt.proofs.FreshLaws.{udt_begins}
use Rattle.arrays_udt.proofs.laws.types_begin_with_their_fields.Goals as goal

pub returns : goal.returns
returns c = udt_begins
