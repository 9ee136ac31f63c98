-- The laws of half even: it has its property and alone has it; multiples, bounds, minus, order, factors and range.
use Rattle.std.proofs.Common.{◌≡◌, ℕ, zero, suc, ◌⊎◌, ◌+◌, ◌-◌, ◌*◌, ◌/◌, ◌%◌, ◌<◌, ◌≤◌, refl, sym, ◌∙◌, ap, inl, inr, arith}
use Rattle.std.specs.Prelude.{ℤ, pos, negsuc, neg_ℤ, ◌+ℤ◌, ◌-ℤ◌, ◌*ℤ◌, ◌<ℤ◌, ◌≤ℤ◌, unsigned_abs, nat_lt, if◌then◌else◌}
use Rattle.std.proofs.lemmas.Int.{ints, by_lt_z}
use Rattle.std.specs.Int.{Width}
use Rattle.std.specs.Prelude.{FitsSigned}
use Rattle.std.proofs.Math.Nat.{mul-lt-mul_of_pos_right}
use Rattle.std.proofs.Math.IntN.{suc_ℤ-*ℤ, neg_ℤ-neg_ℤ, +ℤ_idr, +ℤ_invr, +ℤ-suc_ℤ}
use Rattle.std.proofs.lemmas.Nat.{div-add-mod', mod_below, div-mul-add, mod-mul-add}
use Rattle.std.proofs.Math.Nat.{le-mul_of_pos_right}
use Rattle.currency.specs.HalfEven.{twice_distance, IsHalfEven, nearest, half_even}

-- the quotient and the rest of the division, beside `nearest`
pub nearest_parts : (p q : ℕ) → 0 < q → (p / q * q + p % q ≡ p) × (p % q < q)
nearest_parts p q h = (div-add-mod' p q, mod_below p q h)

-- twice the distance of nearest p q * q to p is at most q, from either side
pub nearest_low : (p q : ℕ) → 0 < q → 2 * (nearest p q * q) ≤ 2 * p + q
unfolding nearest
nearest_low p q h = let parts = nearest_parts p q h in grind (arith, parts.0, parts.1)

pub nearest_high : (p q : ℕ) → 0 < q → 2 * p ≤ 2 * (nearest p q * q) + q
unfolding nearest
nearest_high p q h = let parts = nearest_parts p q h in grind (arith, parts.0, parts.1)

nearest_split : (t q d : ℕ) → let n = if nat_lt t q then d else if nat_lt q t then d + 1 else d + d % 2 in ((t < q) × (n ≡ d)) ⊎ (((q < t) × (n ≡ d + 1)) ⊎ ((t ≡ q) × (n ≡ d + d % 2)))
nearest_split t q d = grind arith

-- which of the two neighbours is nearest
pub nearest_cases : (p q : ℕ) → ((2 * (p % q) < q) × (nearest p q ≡ p / q)) ⊎ (((q < 2 * (p % q)) × (nearest p q ≡ p / q + 1)) ⊎ ((2 * (p % q) ≡ q) × (nearest p q ≡ p / q + p / q % 2)))
unfolding nearest
nearest_cases p q = nearest_split (2 * (p % q)) q (p / q)

-- of two numbers that are equally near the even one is taken
nearest_even : (p q : ℕ) → 0 < q → (2 * (nearest p q * q) ≡ 2 * p + q) ⊎ (2 * p ≡ 2 * (nearest p q * q) + q) → nearest p q % 2 ≡ 0
nearest_even p q h tie =
    let parts = nearest_parts p q h in
    elim (nearest_cases p q) [
      | inl down ↦ absurd (let e = ap (λ n. n * q) down.1 in elim tie [ inl t ↦ omega (arith, e, parts.0, parts.1) | inr t ↦ omega (arith, e, parts.0, parts.1) ])
      | inr (inl up) ↦ absurd (let e = ap (λ n. n * q) up.1 in elim tie [ inl t ↦ omega (arith, e, parts.0, parts.1) | inr t ↦ omega (arith, e, parts.0, parts.1) ])
      | inr (inr half) ↦ rw half.1 (omega arith)
    ]

-- rounding leaves no more than the number itself
pub nearest_le : (p q : ℕ) → 0 < q → nearest p q ≤ p
nearest_le p q h =
    let parts = nearest_parts p q h in
    let more : p / q ≤ p / q * q = le-mul_of_pos_right (p / q) h in
    elim (nearest_cases p q) [
      | inl down ↦ rw down.1 (omega (arith, parts.0, more))
      | inr (inl up) ↦ rw up.1 (omega (arith, parts.0, more))
      | inr (inr half) ↦ rw half.1 (omega (arith, parts.0, more))
    ]

distance : (a b : ℕ) → unsigned_abs (pos a -ℤ pos b) ≡ (a - b) + (b - a)
distance a b = grind (arith, ints)

abs_above : (z : ℤ) → (z ≤ℤ pos (unsigned_abs z)) × (neg_ℤ z ≤ℤ pos (unsigned_abs z))
abs_above (pos n) = (omega (arith, ints), omega (arith, ints))
abs_above (negsuc n) = (omega (arith, ints), omega (arith, ints))

mul_add : (s : ℤ) (k q : ℕ) → (s +ℤ pos k) *ℤ pos q ≡ s *ℤ pos q +ℤ pos (k * q)
mul_add s zero q = ap (λ z. z *ℤ pos q) (+ℤ_idr s) ∙ omega (arith, ints)
mul_add s (suc k) q =
    ap (λ z. z *ℤ pos q) (+ℤ-suc_ℤ s (pos k)) ∙ suc_ℤ-*ℤ (s +ℤ pos k) (pos q) ∙ ap (λ z. z +ℤ pos q) (mul_add s k q) ∙ omega (arith, ints)

pos_abs : (z : ℤ) → pos 0 <ℤ z → z ≡ pos (suc (unsigned_abs z - 1))
pos_abs (pos n) h = omega (arith, ints)
pos_abs (negsuc n) h = absurd (omega (arith, ints))

-- from a number to a greater one
gap : (s r : ℤ) → s <ℤ r → (k : ℕ) × (r ≡ s +ℤ pos (suc k))
gap s r h = (unsigned_abs (r -ℤ s) - 1, omega (arith, ints, pos_abs (r -ℤ s) (omega (arith, ints))))

-- the even numbers are two apart
parity : (s : ℤ) → unsigned_abs s % 2 ≡ 0 → unsigned_abs (s +ℤ pos 1) % 2 ≡ 0 → ⊥
parity (pos n) h k = omega arith
parity (negsuc zero) h k = omega arith
parity (negsuc (suc n)) h k =
    let next : negsuc (suc n) +ℤ pos 1 ≡ negsuc n = omega (arith, ints) in
    let even : suc n % 2 ≡ 0 = sym (ap (λ z. unsigned_abs z % 2) next) ∙ k in
    omega arith

-- the greater quotient has the greater number
pub IsHalfEven-monotone : (p p' : ℤ) (q : ℕ) (r r' : ℤ) → 0 < q → p ≤ℤ p' → IsHalfEven p q r → IsHalfEven p' q r' → r ≤ℤ r'
IsHalfEven-monotone p p' q r r' h le is is' =
    by_lt_z r' r
    (λ under.
    let g = gap r' r under in
    let products = ap (λ z. z *ℤ pos q) g.1 ∙ mul_add r' (suc g.0) q in
    let above = abs_above (r *ℤ pos q -ℤ p) in
    let above' = abs_above (r' *ℤ pos q -ℤ p') in
    let more : g.0 ≤ g.0 * q = le-mul_of_pos_right g.0 h in
    let one : g.0 ≡ 0 = omega (arith, ints, products, above.0, above'.1, more, is.near, is'.near) in
    let tie : twice_distance p q r ≡ q = omega (arith, ints, products, above.0, above'.1, more, is.near, is'.near) in
    let tie' : twice_distance p' q r' ≡ q = omega (arith, ints, products, above.0, above'.1, more, is.near, is'.near) in
    let next : r ≡ r' +ℤ pos 1 = omega (arith, ints, g.1, one) in
    absurd (parity r' (is'.even tie') (rw next at (is.even tie))))
    (λ over. over)

-- at most one number is nearest and even
pub IsHalfEven-unique : (p : ℤ) (q : ℕ) (r r' : ℤ) → 0 < q → IsHalfEven p q r → IsHalfEven p q r' → r ≡ r'
IsHalfEven-unique p q r r' h is is' =
    let a : r ≤ℤ r' = IsHalfEven-monotone p p q r r' h (omega (arith, ints)) is is' in
    let b : r' ≤ℤ r = IsHalfEven-monotone p p q r' r h (omega (arith, ints)) is' is in
    omega (arith, ints)

abs_neg : (z : ℤ) → unsigned_abs (neg_ℤ z) ≡ unsigned_abs z
abs_neg (pos zero) = refl
abs_neg (pos (suc n)) = refl
abs_neg (negsuc n) = refl

pub neg_mul : (r : ℤ) (q : ℕ) → neg_ℤ r *ℤ pos q ≡ neg_ℤ (r *ℤ pos q)
neg_mul (pos zero) q = omega (arith, ints)
neg_mul (pos (suc n)) q = refl
neg_mul (negsuc n) q = sym (neg_ℤ-neg_ℤ (pos (suc n * q)))

distance_neg : (p : ℤ) (q : ℕ) (r : ℤ) → twice_distance (neg_ℤ p) q (neg_ℤ r) ≡ twice_distance p q r
distance_neg p q r =
    let turned : neg_ℤ r *ℤ pos q -ℤ neg_ℤ p ≡ neg_ℤ (r *ℤ pos q -ℤ p) = omega (arith, ints, neg_mul r q) in
    ap (λ z. 2 * unsigned_abs z) turned ∙ ap (λ n. 2 * n) (abs_neg (r *ℤ pos q -ℤ p))

-- minus on both sides
pub IsHalfEven-neg : (p : ℤ) (q : ℕ) (r : ℤ) → IsHalfEven p q r → IsHalfEven (neg_ℤ p) q (neg_ℤ r)
IsHalfEven-neg p q r is = record {
  near = rw (distance_neg p q r) is.near;
  even = λ tie. rw (abs_neg r) (is.even (sym (distance_neg p q r) ∙ tie));
}

sides : (n p q : ℕ) → 2 * ((n - p) + (p - n)) ≡ q → (2 * n ≡ 2 * p + q) ⊎ (2 * p ≡ 2 * n + q)
sides n p q e = grind arith

IsHalfEven-nearest : (p q : ℕ) → 0 < q → IsHalfEven (pos p) q (pos (nearest p q))
IsHalfEven-nearest p q h = record {
  near = omega (arith, distance (nearest p q * q) p, nearest_low p q h, nearest_high p q h);
  even = λ tie. nearest_even p q h (sides (nearest p q * q) p q (ap (λ n. 2 * n) (sym (distance (nearest p q * q) p)) ∙ tie));
}

-- `half_even` computes the number that is nearest and even
pub IsHalfEven-half_even : (p : ℤ) (q : ℕ) → 0 < q → IsHalfEven p q (half_even p q)
IsHalfEven-half_even (pos p) q h = IsHalfEven-nearest p q h
IsHalfEven-half_even (negsuc p) q h = IsHalfEven-neg (pos (suc p)) q (pos (nearest (suc p) q)) (IsHalfEven-nearest (suc p) q h)

pub half_even-unique : (p : ℤ) (q : ℕ) (r : ℤ) → 0 < q → IsHalfEven p q r → r ≡ half_even p q
half_even-unique p q r h is = IsHalfEven-unique p q r (half_even p q) h is (IsHalfEven-half_even p q h)

pub half_even-monotone : (p p' : ℤ) (q : ℕ) → 0 < q → p ≤ℤ p' → half_even p q ≤ℤ half_even p' q
half_even-monotone p p' q h le =
    IsHalfEven-monotone p p' q (half_even p q) (half_even p' q) h le (IsHalfEven-half_even p q h) (IsHalfEven-half_even p' q h)

pub half_even-neg : (p : ℤ) (q : ℕ) → 0 < q → half_even (neg_ℤ p) q ≡ neg_ℤ (half_even p q)
half_even-neg p q h =
    sym (half_even-unique (neg_ℤ p) q (neg_ℤ (half_even p q)) h (IsHalfEven-neg p q (half_even p q) (IsHalfEven-half_even p q h)))

-- a whole multiple stays exact
pub half_even-multiple : (r : ℤ) (q : ℕ) → 0 < q → half_even (r *ℤ pos q) q ≡ r
half_even-multiple r q h =
    let none : twice_distance (r *ℤ pos q) q r ≡ 0 = ap (λ z. 2 * unsigned_abs z) (+ℤ_invr (r *ℤ pos q)) in
    sym (half_even-unique (r *ℤ pos q) q r h (record { near = omega (arith, none); even = λ tie. absurd (omega (arith, none)) }))

-- a quotient between two whole numbers is rounded between them
pub half_even-above : (p r : ℤ) (q : ℕ) → 0 < q → (r *ℤ pos q) ≤ℤ p → r ≤ℤ half_even p q
half_even-above p r q h le = rw (half_even-multiple r q h) at (half_even-monotone (r *ℤ pos q) p q h le)

pub half_even-below : (p r : ℤ) (q : ℕ) → 0 < q → p ≤ℤ (r *ℤ pos q) → half_even p q ≤ℤ r
half_even-below p r q h le = rw (half_even-multiple r q h) at (half_even-monotone p (r *ℤ pos q) q h le)

negated_fits : (w : Width) (p n : ℕ) → n ≤ suc p → FitsSigned w (negsuc p) → FitsSigned w (neg_ℤ (pos n))
negated_fits w p zero le fits = record { sfits = omega (arith, fits.sfits) }
negated_fits w p (suc n) le fits = record { sfits = omega (arith, fits.sfits) }

-- rounding to a whole number stays in a range
pub half_even-fits : (w : Width) (p : ℤ) (q : ℕ) → 0 < q → FitsSigned w p → FitsSigned w (half_even p q)
half_even-fits w (pos p) q h fits = record { sfits = omega (arith, fits.sfits, nearest_le p q h) }
half_even-fits w (negsuc p) q h fits = negated_fits w p (nearest (suc p) q) (nearest_le (suc p) q h) fits

-- half even by the size of the dividend and its sign
pub half_even-size_neg : (p : ℤ) (q n : ℕ) → n ≡ nearest (unsigned_abs p) q → p <ℤ pos 0 → half_even p q ≡ neg_ℤ (pos n)
half_even-size_neg (pos p) q n e h = absurd (omega (arith, ints))
half_even-size_neg (negsuc p) q n e h = ap (λ k. neg_ℤ (pos k)) (sym e)

pub half_even-size_pos : (p : ℤ) (q n : ℕ) → n ≡ nearest (unsigned_abs p) q → pos 0 ≤ℤ p → half_even p q ≡ pos n
half_even-size_pos (pos p) q n e h = ap pos (sym e)
half_even-size_pos (negsuc p) q n e h = absurd (omega (arith, ints))

same_choice : (t q t' q' d : ℕ) → (t < q → t' < q') → (q < t → q' < t') → (t ≡ q → t' ≡ q') → (if nat_lt t' q' then d else if nat_lt q' t' then d + 1 else d + d % 2) ≡ (if nat_lt t q then d else if nat_lt q t then d + 1 else d + d % 2)
same_choice t q t' q' d below above same =
    elim (nearest_split t q d) [
      | inl down ↦ let h = below down.0 in grind arith
      | inr (inl up) ↦ let h = above up.0 in grind arith
      | inr (inr half) ↦ let h = same half.0 in grind arith
    ]

pos_mul : (q k : ℕ) → 0 < q → 0 < k → 0 < q * k
pos_mul q k hq h = grind (arith, le-mul_of_pos_right q h)

-- a factor of both sides of a division
pub scaled_parts : (p q k : ℕ) → 0 < k → 0 < q → (p * k / (q * k) ≡ p / q) × (p * k % (q * k) ≡ p % q * k)
scaled_parts p q k h hq =
    let parts = nearest_parts p q hq in
    let below : p % q * k < q * k = mul-lt-mul_of_pos_right parts.1 h in
    let split : p / q * (q * k) + p % q * k ≡ p * k = omega (arith, ap (λ n. n * k) parts.0) in (
      sym (ap (λ n. n / (q * k)) split) ∙ div-mul-add (p / q) (q * k) (p % q * k) below,
      sym (ap (λ n. n % (q * k)) split) ∙ mod-mul-add (p / q) (q * k) (p % q * k) below,
    )

-- a factor of both sides of the quotient
pub nearest_scale : (p q k : ℕ) → 0 < k → 0 < q → nearest (p * k) (q * k) ≡ nearest p q
unfolding nearest
nearest_scale p q k h hq =
    let parts = scaled_parts p q k h hq in
    let t = 2 * (p % q) in
    rw (parts.0, parts.1)
    (same_choice t q (2 * (p % q * k)) (q * k) (p / q)
    (λ l. let m : t * k < q * k = mul-lt-mul_of_pos_right l h in omega arith)
    (λ l. let m : q * k < t * k = mul-lt-mul_of_pos_right l h in omega arith)
    (λ e. omega (arith, ap (λ n. n * k) e)))

pub half_even-scale : (p : ℤ) (q k : ℕ) → 0 < k → 0 < q → half_even (p *ℤ pos k) (q * k) ≡ half_even p q
half_even-scale (pos p) q k h hq = ap pos (nearest_scale p q k h hq)
half_even-scale (negsuc p) q k h hq =
    half_even-neg (pos (suc p * k)) (q * k) (pos_mul q k hq h) ∙ ap (λ n. neg_ℤ (pos n)) (nearest_scale (suc p) q k h hq)
