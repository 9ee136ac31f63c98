-- The range of 64 bits, and the answers outside of it.
use Rattle.std.specs.Prelude.{◌^◌, nat_lt, Bool, if◌then◌else◌, ℤ, pos, negsuc, Result, Ok, Err}
use Rattle.currency.specs.declared.value.Overflow.{Overflow}

-- the one fault of arithmetic
abbrev pub overflow : Overflow
overflow = record {}

-- from -2^63 to 2^63 - 1
abbrev pub is_i64 : ℤ → Bool
is_i64 (pos n) = nat_lt n (2 ^ 63)
is_i64 (negsuc n) = nat_lt n (2 ^ 63)

-- the number where 64 bits hold it, and else the fault
abbrev pub ranged : {E : Type 0} → E → ℤ → Result ℤ E
ranged fault z = if is_i64 z then Ok z else Err fault
