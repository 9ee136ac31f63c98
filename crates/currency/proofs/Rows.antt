-- Worked rows.
use Rattle.std.proofs.Common.{◌≡◌, refl}
use Rattle.std.specs.Prelude.{pos, negsuc, ◌*ℤ◌, codes, Ok, Err}
use Rattle.currency.specs.declared.text.ParseFault.TheVariants.{NotNumber, OutOfRange}
use Rattle.std.specs.Fmt.{digits}
use Rattle.currency.specs.HalfEven.{nearest, half_even}
use Rattle.currency.specs.NumberText.{read_digits, read}
use Rattle.currency.specs.Parsed.{parsed}
use Rattle.currency.specs.Printed.{printed}

-- 2.5, 3.5 and -2.5
half_down : half_even (pos 25000) 10000 ≡ pos 2
unfolding nearest
half_down = refl

half_up : half_even (pos 35000) 10000 ≡ pos 4
unfolding nearest
half_up = refl

half_below : half_even (negsuc 24999) 10000 ≡ negsuc 1
unfolding nearest
half_below = refl

-- 0.0001 * 0.5 and 0.0003 * 0.5
product_none : half_even (pos 1 *ℤ pos 5000) 10000 ≡ pos 0
unfolding nearest
product_none = refl

product_two : half_even (pos 3 *ℤ pos 5000) 10000 ≡ pos 2
unfolding nearest
product_two = refl

-- a sign, blanks, and a point without digits behind it
signed_text : parsed 4 (codes " -2. ") ≡ Ok (negsuc 19999)
unfolding nearest read_digits read
signed_text = refl

-- half a unit above the greatest amount, and half a unit below the least
past_greatest : parsed 4 (codes "922337203685477.58075") ≡ Err OutOfRange
unfolding nearest read_digits read
past_greatest = refl

past_least : parsed 4 (codes "-922337203685477.58085") ≡ Ok (negsuc 9223372036854775807)
unfolding nearest read_digits read
past_least = refl

no_digit : parsed 4 (codes ".5") ≡ Err NotNumber
unfolding nearest read_digits read
no_digit = refl

printed_half : printed (negsuc 4999) ≡ codes "-0.5"
unfolding printed digits
printed_half = refl

printed_least : printed (negsuc 9223372036854775807) ≡ codes "-922337203685477.5808"
unfolding printed digits
printed_least = refl
