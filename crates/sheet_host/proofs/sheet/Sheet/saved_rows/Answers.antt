use Rattle.std.proofs.Common.{◌≤◌, length, sym, ap, subst, ◌∙◌}
use Rattle.sheet_host.specs.Pages.{cells_of_pages}
use Rattle.sheet_host.specs.Sheets.{SheetContent, greatest, rows_of, saved_among, saved_rows}
use Rattle.sheet_host.proofs.Bounds.{all_rows_inside}
use Rattle.sheet_host.proofs.Kept.{entries_kept}
use Rattle.sheet_host.proofs.Loops.{last_pages}
use Rattle.sheet_host.proofs.sheet.Sheet.saved_rows.Goals as goal

pub returns-clause-rows : goal.returns-clause-rows
returns-clause-rows c =
    c.last_row.ensures ∙ last_pages c.row_count.result c.self.inside.pages.entries
    ∙ ap (λ n. greatest n (rows_of (saved_among (cells_of_pages c.self.inside.pages.entries)))) c.row_count.ensures
    ∙ ap (λ cells. greatest (length c.self.inside.rows) (rows_of (saved_among cells))) (sym (entries_kept c.self.inside.pages.entries c.self.invariant.paged))
    ∙ ap (λ (s : SheetContent). saved_rows s) c.self.view_is

pub returns-clause-inside : goal.returns-clause-inside
returns-clause-inside c = subst (λ n. n ≤ 1048576) (sym c.last_row.ensures)
    (all_rows_inside c.row_count.result c.self.inside.pages.entries (subst (λ n. n ≤ 1048576) (sym c.row_count.ensures) c.self.invariant.few) c.self.invariant.paged.each)
