use Rattle.vba_values.specs.Types.{declared}
use Rattle.arrays_udt.specs.Fields.{types_of}
use Rattle.arrays_udt.proofs.Nested.{known_nested}
use Rattle.arrays_udt.proofs.initial.add_fresh.Goals as goal

pub push_fresh-added-requires : goal.push_fresh-added-requires
push_fresh-added-requires c = rw c.type_count.ensures (known_nested (types_of c.args.types.now.items) (declared c.args.of.now) c.requires.types c.requires.known)
