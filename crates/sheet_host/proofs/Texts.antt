-- The texts of numbers have units.
use Rattle.std.proofs.Common.{◌≡◌, ℕ, zero, suc, ◌/◌, ◌%◌, Bool, true, false, cond, List, [], ◌∷◌, ◌++◌, refl, sym}
use mathlib.Core.Bool.{true≢false}
use Rattle.std.specs.Prelude.{ℤ, pos, negsuc, ◌==◌}
use Rattle.std.specs.Fmt.{digit_glyph, digits_onto, digits, decimal, signed_decimal}
use Rattle.currency.specs.Printed.{printed, printed_fraction}
use Rattle.sheet_host.specs.Field.{has_units}

onto_units : (k n unit : ℕ) (units : List ℕ) → has_units (digits_onto k 10 false n (unit ∷ units)) ≡ true
onto_units zero n unit units = refl
onto_units (suc k) n unit units = by_test (n / 10 == 0) (onto_units k (n / 10) (digit_glyph false (n % 10)) (unit ∷ units)) where
  by_test : (b : Bool) → has_units (digits_onto k 10 false (n / 10) (digit_glyph false (n % 10) ∷ unit ∷ units)) ≡ true
      → has_units (cond b (digit_glyph false (n % 10) ∷ unit ∷ units) (digits_onto k 10 false (n / 10) (digit_glyph false (n % 10) ∷ unit ∷ units))) ≡ true
  by_test true rest = refl
  by_test false rest = rest

first_units : (k n : ℕ) → has_units (digits_onto (suc k) 10 false n []) ≡ true
first_units k n = by_test (n / 10 == 0) where
  by_test : (b : Bool) → has_units (cond b (digit_glyph false (n % 10) ∷ []) (digits_onto k 10 false (n / 10) (digit_glyph false (n % 10) ∷ []))) ≡ true
  by_test true = refl
  by_test false = onto_units k (n / 10) (digit_glyph false (n % 10)) []

decimal_units : (n : ℕ) → has_units (decimal n) ≡ true
unfolding digits
decimal_units n = first_units 63 n

append_units : (xs ys : List ℕ) → has_units xs ≡ true → has_units (xs ++ ys) ≡ true
append_units [] ys h = absurd (true≢false (sym h))
append_units (x ∷ xs) ys h = refl

pub signed_units : (z : ℤ) → has_units (signed_decimal z) ≡ true
signed_units (pos n) = decimal_units n
signed_units (negsuc n) = refl

pub printed_units : (z : ℤ) → has_units (printed z) ≡ true
unfolding printed
printed_units (pos n) = append_units (decimal (n / 10000)) (printed_fraction (n % 10000)) (decimal_units (n / 10000))
printed_units (negsuc n) = refl
