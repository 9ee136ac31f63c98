-- Rows of a file without faults.
use Rattle.std.specs.Prelude.{◌≡◌, ℕ, ◌+◌, [], ◌∷◌, None}
use Rattle.csv_book.specs.Reading.{Rows, fault_of}

-- none of the rows has a fault, where the first has this number
abbrev pub AllFaultless : ℕ → Rows → Type 0
AllFaultless number [] = Unit {0}
AllFaultless number (fields ∷ more) = (fault_of number fields ≡ None) × AllFaultless (number + 1) more
