use Rattle.std.proofs.Common.{◌≡◌, arith, map, w64, to_z, of_z}
use Rattle.std.proofs.lemmas.Int.{ints}
use Rattle.sheet_host.specs.Area.{offset_of}
use Rattle.vba_meaning.specs.Effects.{slot_values}
use Rattle.run_memory.specs.View.{memory_view, slot_view}
use Rattle.run_host.proofs.Parts.{by_two_fine}
use Rattle.run_host.proofs.areas.moved.Goals as goal

pub returns : goal.returns
returns c =
    let m = memory_view c.args.memory.now in
    let y : to_z w64 (of_z w64 c.from.result) ≡ c.in_ok-rows.rows = omega (arith, ints) in
    let x : to_z w64 (of_z w64 c.from-2.result) ≡ c.in_ok-rows.columns = omega (arith, ints) in
    rw (by_two_fine (offset_of c.args.area) (slot_values (map slot_view c.args.slots.now)) m c.in_ok-rows.rows c.in_ok-rows.columns c.in_ok-rows.ensures)
    (rw (rw (y, x) at c.offset.ensures.area) at (c.area_found.ensures m))
