use Rattle.std.proofs.Common.{◌≡◌, ℕ, ◌<◌, ◌+◌, ◌*◌, length}
use Rattle.std.specs.Vec.Iter.{into_iter_items}
use Rattle.sheet_host.specs.Pages.{ArePages, kept, HasSlot}
use Rattle.sheet_host.specs.Sheets.{nth_cell, stored}
use Rattle.sheet_host.proofs.sheet.fill_area.Given as goal

abbrev pub invariant-loop-value : goal.invariant-loop-value
invariant-loop-value l = record {
  are : ArePages l.pages.entries;
  room : (j : ℕ) → j < l.area.rows * l.area.columns → HasSlot l.pages.entries (nth_cell l.area j);
  count : l.i + length (into_iter_items l.value-iterator) ≡ l.area.rows * l.area.columns;
  sum : stored (kept l.pages.entries) l.area l.i (into_iter_items l.value-iterator) ≡ stored (kept l.fn.pages.entries) l.area 0 l.fn.values.items;
}
