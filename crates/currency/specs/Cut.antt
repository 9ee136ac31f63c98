-- Serves the code: a quotient cut to a whole number, and what was cut off.
use Rattle.std.specs.Prelude.{ℕ, ◌+◌, ◌-◌, ◌*◌, ◌/◌, ◌%◌, ◌^◌, min, nat_lt, ◌==◌, ◌&&◌, ◌++◌, Bool, true, false, if◌then◌else◌, ℤ, pos, negsuc}
use Rattle.std.specs.declared.cmp.Ordering.{Ordering}
use Rattle.std.specs.declared.cmp.Ordering.TheVariants.{Less, Equal, Greater}
use Rattle.std.specs.Ordering.{nat_cmp, is_eq, ordering_then, ordering_reverse}
use Rattle.std.specs.Str.Parse.{digits_value}
use Rattle.currency.specs.NumberText.{Numeral, denominator}
use Rattle.currency.specs.declared.cut.Rest.{Rest}
use Rattle.currency.specs.declared.cut.Rest.TheVariants.{Nothing, BelowHalf, Half, AboveHalf}
use Rattle.currency.specs.declared.cut.Cut.{Cut}

-- the greatest number that 128 bits hold
abbrev pub greatest : ℕ
greatest = 2 ^ 128 - 1

-- how a rest of a division by q compares with half of q
unfoldable pub rest_of : ℕ → ℕ → Rest
rest_of rest q =
    if rest == 0 then Nothing
    else if nat_lt (2 * rest) q then BelowHalf
    else if nat_lt q (2 * rest) then AboveHalf
    else Half

-- the same of a rest below q by its first digit, and whether only zeros follow it
abbrev pub rest_by : ℕ → Bool → Rest
rest_by first exact =
    if nat_lt first 5 then (if first == 0 && exact then Nothing else BelowHalf)
    else if first == 5 && exact then Half
    else AboveHalf

-- p / q, cut to a whole number; a size that 128 bits don't hold counts as the greatest that they hold
abbrev pub cut_of : ℕ → ℕ → Cut
cut_of p q = record { size = min (p / q) greatest; rest = rest_of (p % q) q }

-- what the size of a number is cut to, in units of this decimal place
abbrev pub cut_numeral : ℕ → Numeral → Cut
cut_numeral places n = cut_of (digits_value 10 (n.whole ++ n.fraction) * 10 ^ places) (denominator n)

-- the whole number to which what was cut is rounded half to even
abbrev pub rounded_size : ℕ → Rest → ℕ
rounded_size size Nothing = size
rounded_size size BelowHalf = size
rounded_size size Half = size + size % 2
rounded_size size AboveHalf = size + 1

-- how a whole number compares with what was cut
abbrev pub behind_size : Rest → Ordering
behind_size Nothing = Equal
behind_size BelowHalf = Less
behind_size Half = Less
behind_size AboveHalf = Less

abbrev pub compare_cut : ℕ → Cut → Ordering
compare_cut whole cut = ordering_then (nat_cmp whole cut.size) (behind_size cut.rest)

-- how a number compares with one that has a sign, by how their sizes compare
abbrev pub compare_signed : ℤ → Bool → Ordering → Ordering
compare_signed (pos n) false size = size
compare_signed (pos n) true size = if n == 0 && is_eq size then Equal else Greater
compare_signed (negsuc n) false size = Less
compare_signed (negsuc n) true size = ordering_reverse size
