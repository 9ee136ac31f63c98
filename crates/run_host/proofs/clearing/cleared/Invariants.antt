use Rattle.std.proofs.Common.{◌-◌, ◌*◌}
use Rattle.sheet_host.specs.Books.{IsSheetOf}
use Rattle.run_memory.specs.View.{memory_view}
use Rattle.run_host.specs.View.{told_view}
use Rattle.run_host.proofs.Clears.{HasCleared, passed}
use Rattle.run_host.proofs.clearing.cleared.Given as goal

abbrev pub invariant-loop-row : goal.invariant-loop-row
invariant-loop-row l = record {
  sheet : IsSheetOf (memory_view l.memory).book l.area.sheet;
  so : HasCleared l.area l.after (told_view l.initial.told) (told_view l.told) (memory_view l.initial.memory) (memory_view l.memory);
}

abbrev pub decreases-loop-row : goal.decreases-loop-row
decreases-loop-row l = l.area.rows * l.area.columns - passed l.area l.after
