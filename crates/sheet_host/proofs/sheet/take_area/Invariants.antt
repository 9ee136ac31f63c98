use Rattle.std.proofs.Common.{◌≡◌, ℕ, ◌<◌}
use Rattle.sheet_host.specs.Pages.{ArePages, kept, HasSlot}
use Rattle.sheet_host.specs.Sheets.{nth_cell}
use Rattle.sheet_host.proofs.sheet.take_area.Given as goal

abbrev pub invariant-loop-i : goal.invariant-loop-i
invariant-loop-i l = record {
  are : ArePages l.pages.entries;
  same : kept l.pages.entries ≡ kept l.fn.pages.entries;
  room : (j : ℕ) → j < l.i → HasSlot l.pages.entries (nth_cell l.area j);
}
