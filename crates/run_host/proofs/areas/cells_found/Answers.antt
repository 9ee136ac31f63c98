use Rattle.std.proofs.Common.{arith, map}
use Rattle.vba_meaning.specs.Effects.{slot_values}
use Rattle.run_memory.specs.View.{memory_view, slot_view}
use Rattle.run_host.proofs.Parts.{cells_by_some, slot_count}
use Rattle.run_host.proofs.areas.cells_found.Goals as goal

pub returns-in-len1-up : goal.returns-in-len1-up
returns-in-len1-up c = rw (cells_by_some c.args.area (slot_values (map slot_view c.args.slots.now)) (memory_view c.args.memory.now) (omega
    (arith, slot_count c.args.slots.now))) c.cell_found.ensures
