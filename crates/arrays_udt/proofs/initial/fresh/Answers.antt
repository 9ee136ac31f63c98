use Rattle.vba_values.specs.Types.{declared}
use Rattle.arrays_udt.specs.Fields.{types_of}
use Rattle.arrays_udt.proofs.Nested.{known_nested}
use Rattle.arrays_udt.proofs.initial.fresh.Goals as goal

pub fresh_within-requires : goal.fresh_within-requires
fresh_within-requires c = rw c.type_count.ensures (known_nested (types_of c.args.types.now.items) (declared c.args.of.now) c.requires.types c.requires.known)
