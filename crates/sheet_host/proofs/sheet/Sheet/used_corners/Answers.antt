use Rattle.std.proofs.Common.{◌++◌, sym, ap, subst, ◌∙◌}
use Rattle.std.specs.Prelude.{fold, None}
use Rattle.std.proofs.lemmas.List.Sums.{fold-append}
use Rattle.sheet_host.specs.Pages.{kept, cells_of_pages}
use Rattle.sheet_host.specs.Sheets.{SheetContent, AreInside, widened, placed_rows, filled_fields, filled_cells, used_corners}
use Rattle.sheet_host.proofs.Bounds.{pages_inside}
use Rattle.sheet_host.proofs.Kept.{entries_kept}
use Rattle.sheet_host.proofs.Loops.{widened_pages, widened_fields}
use Rattle.sheet_host.specs.Smallest.{CountFromOne}
use Rattle.sheet_host.proofs.Smallest.{kept_counts}
use Rattle.sheet_host.proofs.sheet.Sheet.used_corners.Goals as goal

pub returns-clause-corners : goal.returns-clause-corners
returns-clause-corners c =
    let pages = c.self.inside.pages.entries in
    let fields = placed_rows 1 c.self.inside.rows in
    c.widened_by_pages.ensures ∙ widened_pages c.widened_by_rows.result pages
    ∙ ap (λ corners. fold widened corners (filled_cells (cells_of_pages pages))) (c.widened_by_rows.ensures.corners ∙ widened_fields (kept pages) None fields)
    ∙ sym (fold-append widened None (filled_fields (kept pages) fields) (filled_cells (cells_of_pages pages)))
    ∙ ap (λ cells. fold widened None (filled_fields (kept pages) fields ++ filled_cells cells)) (sym (entries_kept pages c.self.invariant.paged))
    ∙ ap (λ (s : SheetContent). used_corners s) c.self.view_is

pub returns-clause-inside : goal.returns-clause-inside
returns-clause-inside c = subst AreInside (sym c.widened_by_pages.ensures)
    (pages_inside c.widened_by_rows.result c.self.inside.pages.entries c.widened_by_rows.ensures.inside c.self.invariant.paged.each)

pub returns-clause-places : goal.returns-clause-places
returns-clause-places c = subst (λ (s : SheetContent). CountFromOne s) c.self.view_is (kept_counts c.self.inside.rows c.self.inside.pages.entries c.self.invariant.paged)
