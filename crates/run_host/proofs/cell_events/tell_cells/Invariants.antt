use Rattle.std.proofs.Common.{◌≡◌, ◌++◌, take}
use Rattle.vba_meaning.specs.Host.{cell_events}
use Rattle.run_host.specs.View.{told_view}
use Rattle.run_host.proofs.cell_events.tell_cells.Given as goal

abbrev pub invariant-loop-i : goal.invariant-loop-i
invariant-loop-i l = told_view l.told ≡ told_view l.initial.told ++ cell_events l.area 0 (take l.i l.cells)
