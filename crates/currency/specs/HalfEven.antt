-- Rounding half to even.
use Rattle.std.specs.Prelude.{◌≡◌, ℕ, suc, ◌+◌, ◌*◌, ◌/◌, ◌%◌, ◌≤◌, nat_lt, if◌then◌else◌, ℤ, pos, negsuc, neg_ℤ, ◌-ℤ◌, ◌*ℤ◌, unsigned_abs}

-- twice the distance between r * q and p
abbrev pub twice_distance : ℤ → ℕ → ℤ → ℕ
twice_distance p q r = 2 * unsigned_abs (r *ℤ pos q -ℤ p)

-- r is the whole number nearest to p / q, and the even one where two are equally near
pub record IsHalfEven (p : ℤ) (q : ℕ) (r : ℤ) : Type 0 where
  pub near : twice_distance p q r ≤ q
  pub even : twice_distance p q r ≡ q → unsigned_abs r % 2 ≡ 0

-- that number, for a p without a sign
unfoldable pub nearest : ℕ → ℕ → ℕ
nearest p q =
    if nat_lt (2 * (p % q)) q then p / q
    else if nat_lt q (2 * (p % q)) then p / q + 1
    else p / q + p / q % 2

-- that number
abbrev pub half_even : ℤ → ℕ → ℤ
half_even (pos p) q = pos (nearest p q)
half_even (negsuc p) q = neg_ℤ (pos (nearest (suc p) q))
