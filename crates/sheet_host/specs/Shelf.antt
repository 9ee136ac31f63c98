-- Serves the code: how a book keeps its sheets: each with its name and the folded name, and the count of all
-- written cells.
use Rattle.std.specs.Prelude.{◌≡◌, ℕ, ◌<◌, ◌^◌, List, [], ◌∷◌, map, length}
use Rattle.vba_base.specs.Fold.{folded}
use Rattle.sheet_host.specs.declared.book.Named.{Named}
use Rattle.sheet_host.specs.Books.{NamedSheet, Sheets, written_count}

abbrev pub named_sheet : Named → NamedSheet
named_sheet n = record { name = n.text; content = n.sheet }

abbrev pub named_sheets : List Named → Sheets
named_sheets sheets = map named_sheet sheets

-- each has its name folded
abbrev pub AllFolded : List Named → Type 0
AllFolded [] = Unit {0}
AllFolded (sheet ∷ sheets) = (sheet.name ≡ folded sheet.text) × AllFolded sheets

-- the numbers fit, the names are folded, and the count is that of the written cells
pub record IsShelf (sheets : List Named) (written : ℕ) : Type 0 where
  pub few : length sheets < 2 ^ 32
  pub names : AllFolded sheets
  pub count : written ≡ written_count (named_sheets sheets)
