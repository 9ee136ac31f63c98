use Rattle.run_host.specs.View.{told_view}
use Rattle.run_host.proofs.Written.{told_more}
use Rattle.run_host.proofs.cell_events.tell_cells.Goals as goal

pub loop-i-preserved : goal.loop-i-preserved
loop-i-preserved c =
    told_more (told_view c.args.told.now) (told_view c.loop-i.told) (told_view c.push.new.self) c.args.area c.loop-i.i c.args.cells.now
    c.index-cells-i.result c.in_ok-value.value
    c.nth_cell_of_area-place.result c.loop-i-test.true c.loop-i.invariant c.nth_cell_of_area-place.ensures.cell c.in_ok-value.ensures.value
    c.index-cells-i.is c.in_ok-push.ensures
