-- The four kinds of whole numbers, and their ranges.
use Rattle.std.specs.Prelude.{ℕ, ◌^◌, nat_lt, Bool, false, if◌then◌else◌, ℤ, pos, negsuc, Result, Ok, Err}
use Rattle.vba_values.specs.declared.fault.Bad.{Bad}
use Rattle.vba_values.specs.declared.types.WholeKind.{WholeKind}
use Rattle.vba_values.specs.declared.types.WholeKind.TheVariants as kind
use Rattle.vba_values.specs.Errors.{overflow}
use Rattle.vba_values.specs.Val.{Val, whole}

-- from 0 to 2 ^ bits - 1
abbrev pub fits_unsigned : ℕ → ℤ → Bool
fits_unsigned bits (pos n) = nat_lt n (2 ^ bits)
fits_unsigned bits (negsuc n) = false

-- from -2 ^ bits to 2 ^ bits - 1
abbrev pub fits_signed : ℕ → ℤ → Bool
fits_signed bits (pos n) = nat_lt n (2 ^ bits)
fits_signed bits (negsuc n) = nat_lt n (2 ^ bits)

-- whether a number is in the range of a kind
abbrev pub fits : WholeKind → ℤ → Bool
fits kind.Byte z = fits_unsigned 8 z
fits kind.Integer z = fits_signed 15 z
fits kind.Long z = fits_signed 31 z
fits kind.LongLong z = fits_signed 63 z

-- a number as a value of a kind: Overflow where it is outside the range
abbrev pub ranged : WholeKind → ℤ → Result Val Bad
ranged k z = if fits k z then Ok (whole k z) else Err overflow

-- True is 255 as a Byte, and -1 as any other number
abbrev pub true_in : WholeKind → ℤ
true_in kind.Byte = pos 255
true_in kind.Integer = negsuc 0
true_in kind.Long = negsuc 0
true_in kind.LongLong = negsuc 0

-- a Boolean as a number of a kind: False is 0
abbrev pub boolean_in : WholeKind → Bool → ℤ
boolean_in k b = if b then true_in k else pos 0
