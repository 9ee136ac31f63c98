-- Serves the code: what contracts see of borrowed parts.
use Rattle.currency.specs.declared.numeral.Numeral.{Numeral as Slices}
use Rattle.currency.specs.NumberText.{Numeral}

-- a number by the digits that it refers to
abbrev pub numeral_of : Slices → Numeral
numeral_of n = record { negative = n.negative; whole = n.whole.now; fraction = n.fraction.now }
