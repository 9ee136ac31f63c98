use Rattle.std.proofs.Common.{arith, map, sym}
use Rattle.vba_meaning.specs.Effects.{slot_values}
use Rattle.run_memory.specs.View.{slot_view}
use Rattle.run_host.proofs.Parts.{slot_count, way_by_some}
use Rattle.run_host.proofs.assigning.way_of.Goals as goal

pub returns-in-len1-up : goal.returns-in-len1-up
returns-in-len1-up c = rw c.in-Write.is (sym (way_by_some c.args.of c.in-Write.number (slot_values (map slot_view c.args.slots.now)) (omega
    (arith, slot_count c.args.slots.now))))
