use Rattle.std.proofs.Common.{◌≡◌, ◌+◌, drop, None}
use Rattle.std.specs.Prelude.{fold}
use Rattle.sheet_host.specs.Pages.{kept}
use Rattle.sheet_host.specs.Sheets.{widened_by_field, placed_rows, AreInside}
use Rattle.sheet_host.proofs.sheet.widened_by_rows.Given as goal

abbrev pub invariant-loop-place : goal.invariant-loop-place
invariant-loop-place l = record {
  sum : fold (widened_by_field (kept l.pages.entries)) l.corners (placed_rows (l.place + 1) (drop l.place l.rows))
      ≡ fold (widened_by_field (kept l.pages.entries)) None (placed_rows 1 l.rows);
  inside : AreInside l.corners;
}
