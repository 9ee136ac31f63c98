use Rattle.vba_values.specs.Types.{declared}
use Rattle.arrays_udt.specs.Fields.{types_of}
use Rattle.arrays_udt.proofs.Nested.{known_nested}
use Rattle.arrays_udt.proofs.initial.fresh_array.Goals as goal

pub filled_within-requires-clause-nested : goal.filled_within-requires-clause-nested
filled_within-requires-clause-nested c = rw c.type_count.ensures (known_nested (types_of c.args.types.now.items) (declared c.args.element.now) c.requires.types c.requires.known)
