use Rattle.std.proofs.Common.{arith, map}
use Rattle.vba_meaning.specs.Effects.{slot_value, slot_values}
use Rattle.run_memory.specs.View.{memory_view, slot_view}
use Rattle.run_host.proofs.Parts.{range_many, range_of_two, slot_count}
use Rattle.run_host.proofs.ranges.range_from.Goals as goal

pub returns-in-len1 : goal.returns-in-len1
returns-in-len1 c =
    let m = memory_view c.args.memory.now in
    rw (range_of_two c.args.sheet (slot_value (slot_view c.args.first.now)) c.args.others.now c.last-item.result m c.requires c.in-len1.len_at_least
    c.in-len1.len_below c.last-item.is)
    (c.range_between.ensures m)

pub returns-in-len2-up : goal.returns-in-len2-up
returns-in-len2-up c =
    range_many c.args.sheet (slot_value (slot_view c.args.first.now)) (slot_values (map slot_view c.args.others.now)) (memory_view
    c.args.memory.now) c.requires
    (omega (arith, slot_count c.args.others.now))
