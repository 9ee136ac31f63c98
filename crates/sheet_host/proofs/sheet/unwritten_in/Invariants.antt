use Rattle.std.proofs.Common.{◌≡◌, ◌≤◌}
use Rattle.sheet_host.specs.Pages.{kept}
use Rattle.sheet_host.specs.Sheets.{unwritten}
use Rattle.sheet_host.proofs.sheet.unwritten_in.Given as goal

abbrev pub invariant-loop-i : goal.invariant-loop-i
invariant-loop-i l = record {
  few : l.count ≤ l.i;
  sum : l.count ≡ unwritten (kept l.pages.entries) l.area l.i;
}
