use Rattle.std.proofs.Common.{arith, map}
use Rattle.vba_meaning.specs.Effects.{slot_values}
use Rattle.run_memory.specs.View.{memory_view, slot_view}
use Rattle.run_host.proofs.Parts.{slot_count, two_of_few, two_of_many}
use Rattle.run_host.proofs.areas.two_numbers.Goals as goal

pub returns-in-empty : goal.returns-in-empty
returns-in-empty c = two_of_few (slot_values (map slot_view c.args.slots.now)) (memory_view c.args.memory.now) (omega (arith, slot_count c.args.slots.now))

pub returns-in_default : goal.returns-in_default
returns-in_default c = two_of_many (slot_values (map slot_view c.args.slots.now)) (memory_view c.args.memory.now) (omega (arith, slot_count c.args.slots.now))
