-- Serves the code: the text that a cell is saved as.
use Rattle.std.specs.Prelude.{ℕ, List}
use Rattle.csv_book.specs.declared.saved_text.SavedText.{SavedText}
use Rattle.csv_book.specs.declared.saved_text.SavedText.TheVariants.{Kept, Made}

-- its units
abbrev pub units_of : SavedText → List ℕ
units_of (Kept units) = units.now
units_of (Made text) = text
