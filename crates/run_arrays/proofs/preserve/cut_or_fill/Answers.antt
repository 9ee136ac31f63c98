use Rattle.std.proofs.Common.{arith}
use Rattle.vba_values.specs.View.{view}
use Rattle.arrays_udt.proofs.Resized.{cut_is}
use Rattle.run_arrays.proofs.preserve.cut_or_fill.Goals as goal

pub returns-then-count-before : goal.returns-then-count-before
returns-then-count-before c = rw c.truncate.ensures.items (cut_is c.args.items.now.items c.args.count (view c.args.item.now) (omega arith))
