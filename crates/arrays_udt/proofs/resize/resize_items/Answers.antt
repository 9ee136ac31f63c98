use Rattle.std.proofs.Common.{arith}
use Rattle.vba_values.specs.Types.{declared}
use Rattle.arrays_udt.specs.Fields.{types_of}
use Rattle.arrays_udt.specs.Fresh.{initial}
use Rattle.arrays_udt.proofs.Resized.{cut_is}
use Rattle.arrays_udt.proofs.resize.resize_items.Goals as goal

pub returns-then-count-before-clause-sized : goal.returns-then-count-before-clause-sized
returns-then-count-before-clause-sized c =
    rw c.truncate.ensures.items (cut_is c.args.items.now.items c.args.count (initial (types_of c.args.types.now.items) (declared c.args.element.now)) (omega arith))
