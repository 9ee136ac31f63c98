-- Numbers without their signs or fractions, and in other notations.
use Rattle.std.specs.Prelude.{ℕ, true, ℤ, pos, ◌*ℤ◌, int_div, unsigned_abs, Result, Ok, Err}
use Rattle.std.specs.Fmt.{radix_digits}
use Rattle.std.specs.Int.{w16, w32, w64, cast_unsigned, int_div_euclid, int_signum}
use Rattle.vba_base.specs.Answer.{◌>>=◌}
use Rattle.vba_values.specs.declared.fault.Bad.{Bad}
use Rattle.vba_values.specs.declared.types.WholeKind.TheVariants as kind
use Rattle.vba_values.specs.Arithmetic.{double_of}
use Rattle.vba_values.specs.Errors.{type_mismatch}
use Rattle.vba_values.specs.Operands.{number_of}
use Rattle.vba_values.specs.Texts.{amount}
use Rattle.vba_values.specs.Val.{Val, empty, boolean, whole, currency, text}
use Rattle.vba_values.specs.Whole.{ranged}
use Rattle.vba_lib.specs.Arguments.{long_of}

-- an argument of Abs, Int, Fix and Sgn: a whole number or a Currency, with Boolean and Empty as Integer; a number text would be a
-- Double
abbrev pub numeric : Val → Result Val Bad
numeric empty = Ok (whole kind.Integer (pos 0))
numeric (boolean b) = Ok (whole kind.Integer (number_of (boolean b)))
numeric (whole k z) = Ok (whole k z)
numeric (currency count) = Ok (currency count)
numeric (text units) = Err (double_of units)
numeric value = Err type_mismatch

-- Abs: of the least number of a kind it doesn't fit
abbrev pub absolute : Val → Result Val Bad
absolute (whole k z) = ranged k (pos (unsigned_abs z))
absolute (currency count) = amount (pos (unsigned_abs count))
absolute value = Ok value

abbrev pub abs : Val → Result Val Bad
abs value = numeric value >>= λ number. absolute number

-- Int: rounded down
abbrev pub rounded_down : Val → Result Val Bad
rounded_down (currency count) = amount (int_div_euclid count (pos 10000) *ℤ pos 10000)
rounded_down value = Ok value

abbrev pub int : Val → Result Val Bad
int value = numeric value >>= λ number. rounded_down number

-- Fix: rounded toward zero
abbrev pub truncated : Val → Result Val Bad
truncated (currency count) = amount (int_div count (pos 10000) *ℤ pos 10000)
truncated value = Ok value

abbrev pub fix : Val → Result Val Bad
fix value = numeric value >>= λ number. truncated number

-- Sgn: -1, 0 or 1 as an Integer
abbrev pub sign_of : Val → ℤ
sign_of (currency count) = int_signum count
sign_of value = int_signum (number_of value)

abbrev pub sgn : Val → Result Val Bad
sgn value = numeric value >>= λ number. Ok (whole kind.Integer (sign_of number))

-- the bits that Hex and Oct write: two's complement in 16 bits for Integer and below, 32 for Long and 64 for LongLong; Currency
-- and text as Long
abbrev pub written_bits : Val → Result ℕ Bad
written_bits empty = Ok 0
written_bits (boolean b) = Ok (cast_unsigned w16 (number_of (boolean b)))
written_bits (whole kind.LongLong z) = Ok (cast_unsigned w64 z)
written_bits (whole kind.Long z) = Ok (cast_unsigned w32 z)
written_bits (whole k z) = Ok (cast_unsigned w16 z)
written_bits value = long_of value >>= λ number. Ok (cast_unsigned w32 number)

abbrev pub hex : Val → Result Val Bad
hex value = written_bits value >>= λ bits. Ok (text (radix_digits 16 true bits))

abbrev pub oct : Val → Result Val Bad
oct value = written_bits value >>= λ bits. Ok (text (radix_digits 8 true bits))
