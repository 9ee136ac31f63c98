use Rattle.std.proofs.Common.{arith, map}
use Rattle.vba_meaning.specs.Effects.{slot_values}
use Rattle.run_memory.specs.View.{memory_view, slot_view}
use Rattle.run_host.proofs.Parts.{sheet_of_many, slot_count}
use Rattle.run_host.proofs.sheets.sheet_found.Goals as goal

pub returns-in-len2-up : goal.returns-in-len2-up
returns-in-len2-up c = sheet_of_many (slot_values (map slot_view c.args.slots.now)) (memory_view c.args.memory.now) (omega (
  arith,
  slot_count
      c.args.slots.now,
))
