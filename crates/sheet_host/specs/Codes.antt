-- Serves the code: codes, by which proofs tell contents of sheets and books apart.
use Rattle.std.specs.Prelude.{refl}
use Rattle.std.specs.Coded.{Coded, code_by, coded×, coded_ℕ, coded_list}
use Rattle.std.specs.FinMap.{code}
use Rattle.sheet_host.specs.contracts.cell.CellValue as cell
use Rattle.sheet_host.specs.Books.{NamedSheet, Sheets}
use Rattle.sheet_host.specs.Sheets.{SheetContent, Cells}

abbrev pub cells_code : Coded Cells
cells_code = code (coded× coded_ℕ coded_ℕ) cell.the_row.coded

abbrev pub content_code : Coded SheetContent
content_code = code_by _ (coded× (coded_list (coded_list (coded_list coded_ℕ))) cells_code)
    (λ s. (s.rows, s.cells)) (λ p. record { rows = p.0; cells = p.1 }) (λ _. refl)

abbrev pub named_code : Coded NamedSheet
named_code = code_by _ (coded× (coded_list coded_ℕ) content_code)
    (λ n. (n.name, n.content)) (λ p. record { name = p.0; content = p.1 }) (λ _. refl)

abbrev pub sheets_code : Coded Sheets
sheets_code = coded_list named_code
