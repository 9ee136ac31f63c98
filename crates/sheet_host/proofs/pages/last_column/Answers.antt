use Rattle.std.proofs.Common.{sym, ap, ◌∙◌, lit<}
use Rattle.sheet_host.specs.Sheets.{greatest}
use Rattle.std.specs.BTreeMap.{is_at}
use Rattle.std.specs.Map.{lookup}
use Rattle.std.specs.Ordering.{nat_cmp}
use Rattle.sheet_host.proofs.Changes.{found_page}
use Rattle.sheet_host.proofs.Loops.{last_columns, columns_found, columns_of_page}
use Rattle.sheet_host.proofs.pages.last_column.Goals as goal

pub returns-in-Some : goal.returns-in-Some
returns-in-Some c =
    c.last_column_of_page.ensures
    ∙ last_columns c.args.least c.args.row _ c.page_of.result c.in-Some.page.now.entries (lit< tt)
    (found_page c.page_of.result c.args.pages.now.entries c.in-Some.page.now c.requires.pages.each (sym c.in-Some.ensures.value)).own
    ∙ ap (greatest c.args.least) (sym (columns_found c.args.row c.args.pages.now.entries c.requires.pages.rising c.requires.pages.each
    ∙ ap (λ n. columns_of_page c.args.row (lookup (is_at (nat_cmp n)) c.args.pages.now.entries)) (sym c.page_of.ensures)
    ∙ ap (columns_of_page c.args.row) (sym c.in-Some.ensures.value)))

pub returns-in-None : goal.returns-in-None
returns-in-None c =
    ap (greatest c.args.least) (sym (columns_found c.args.row c.args.pages.now.entries c.requires.pages.rising c.requires.pages.each
    ∙ ap (λ n. columns_of_page c.args.row (lookup (is_at (nat_cmp n)) c.args.pages.now.entries)) (sym c.page_of.ensures)
    ∙ ap (columns_of_page c.args.row) (sym c.in-None.ensures.value)))
