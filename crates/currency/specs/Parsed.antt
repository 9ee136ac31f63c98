-- Texts read as numbers.
use Rattle.std.specs.Prelude.{ℕ, ◌^◌, ℤ, pos, ◌*ℤ◌, List, Option, Some, None, Result, Err}
use Rattle.std.specs.declared.cmp.Ordering.{Ordering}
use Rattle.std.specs.Ordering.{int_cmp}
use Rattle.currency.specs.declared.text.ParseFault.{ParseFault}
use Rattle.currency.specs.declared.text.ParseFault.TheVariants.{NotNumber, OutOfRange}
use Rattle.currency.specs.HalfEven.{half_even}
use Rattle.currency.specs.NumberText.{Numeral, numerator, denominator, read}
use Rattle.currency.specs.Range.{ranged}

-- a number rounded half to even to so many decimals, in units of the last of them
abbrev pub rounded : ℕ → Numeral → ℤ
rounded places n = half_even (numerator n *ℤ pos (10 ^ places)) (denominator n)

-- the same of what was read, in 64 bits
abbrev pub ranged_numeral : ℕ → Option Numeral → Result ℤ ParseFault
ranged_numeral places None = Err NotNumber
ranged_numeral places (Some n) = ranged OutOfRange (rounded places n)

-- the same of a text
abbrev pub parsed : ℕ → List ℕ → Result ℤ ParseFault
parsed places text = ranged_numeral places (read text)

-- how a count of ten-thousandths compares with a number
abbrev pub compare_numeral : ℤ → Numeral → Ordering
compare_numeral count n = int_cmp (count *ℤ pos (denominator n)) (numerator n *ℤ pos 10000)
