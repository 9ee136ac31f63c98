use Rattle.std.proofs.Common.{◌≡◌, ◌+◌, [], drop}
use Rattle.std.specs.Prelude.{fold, slice_index_or}
use Rattle.sheet_host.specs.Pages.{kept}
use Rattle.sheet_host.specs.Sheets.{widened_by_field, placed_fields, AreInside}
use Rattle.sheet_host.proofs.sheet.widened_by_fields.Given as goal

abbrev pub invariant-loop-field : goal.invariant-loop-field
invariant-loop-field l = record {
  sum : fold (widened_by_field (kept l.pages.entries)) l.corners (placed_fields (l.place + 1) (l.field + 1) (drop l.field (slice_index_or l.rows l.place [])))
      ≡ fold (widened_by_field (kept l.pages.entries)) l.initial.corners (placed_fields (l.place + 1) 1 (slice_index_or l.rows l.place []));
  inside : AreInside l.initial.corners → AreInside l.corners;
}
