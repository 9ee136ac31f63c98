use Rattle.std.proofs.Common.{rules, ◌-◌, ◌≤◌, length, sym, ap, subst, ◌∙◌}
use Rattle.std.specs.Prelude.{slice_index_or, []}
use Rattle.sheet_host.specs.Pages.{cells_of_pages}
use Rattle.sheet_host.specs.Sheets.{SheetContent, greatest, columns_in, saved_among, saved_fields}
use Rattle.sheet_host.proofs.Bounds.{columns_inside}
use Rattle.sheet_host.proofs.Fields.{short_row}
use Rattle.sheet_host.proofs.Kept.{entries_kept}
use Rattle.sheet_host.proofs.sheet.Sheet.saved_fields.Goals as goal

pub returns-clause-fields : goal.returns-clause-fields
returns-clause-fields c =
    c.last_column.ensures
    ∙ ap (λ n. greatest n (columns_in c.args.row (saved_among (cells_of_pages c.self.inside.pages.entries)))) c.field_count-read.ensures
    ∙ ap (λ cells. greatest (length (slice_index_or c.self.inside.rows (c.args.row - 1) [])) (columns_in c.args.row (saved_among cells)))
    (sym (entries_kept c.self.inside.pages.entries c.self.invariant.paged))
    ∙ ap (λ (s : SheetContent). saved_fields s c.args.row) c.self.view_is

pub overflow_cast-read : goal.overflow_cast-read
overflow_cast-read c =
    let few : c.field_count-read.result ≤ 16384 = subst (λ n. n ≤ 16384) (sym c.field_count-read.ensures) (short_row c.self.inside.rows (c.args.row - 1) c.self.invariant.short) in
    search rules

pub returns-clause-inside : goal.returns-clause-inside
returns-clause-inside c = subst (λ n. n ≤ 16384) (sym c.last_column.ensures)
    (columns_inside c.field_count-read.result c.args.row c.self.inside.pages.entries
    (subst (λ n. n ≤ 16384) (sym c.field_count-read.ensures) (short_row c.self.inside.rows (c.args.row - 1) c.self.invariant.short))
    c.self.invariant.paged.each)
