-- Cutting a number behind some decimal place.
use Rattle.std.proofs.Common.{◌≡◌, ℕ, ◌+◌, ◌-◌, ◌*◌, ◌^◌, ◌<◌, ◌≤◌, List, [], ◌∷◌, ◌++◌, length, refl, sym, ap, ◌∙◌, inl, inr, ◌⊎◌, take, drop, get_or, ◌/◌, ◌%◌, subst, arith, lit<, ◌&&◌}
use Rattle.std.specs.Prelude.{All, min, ◌==◌}
use Rattle.std.specs.Char.{IsAsciiDigit, digit_value}
use Rattle.std.specs.List.{list_all}
use Rattle.std.specs.Str.Parse.{digits_value, digits_value_after}
use Rattle.std.proofs.Math.Nat.{pow-suc, one-le-pow, mul-le-mul_right, le-mul_of_pos_right, mul-lt-mul_of_pos_right, one-mul}
use Rattle.std.specs.List.{between}
use Rattle.std.proofs.lemmas.Slice.{first_rest}
use Rattle.std.proofs.lemmas.List.{drop_all, take-append-drop, append_assoc, length-drop}
use Rattle.std.proofs.lemmas.Nat.{pow-add, div-mul-add, mod-mul-add}
use Rattle.currency.proofs.HalfEvenLaws.{scaled_parts}
use Rattle.std.proofs.lemmas.Bool.{cases_lt, cases_order}
use Rattle.std.proofs.lemmas.List.Elements.{All-head, All-tail, All-drop}
use Rattle.currency.specs.declared.cut.Rest.{Rest}
use Rattle.currency.specs.declared.cut.Rest.TheVariants.{Nothing, BelowHalf, Half, AboveHalf}
use Rattle.currency.specs.declared.cut.Cut.{Cut}
use Rattle.currency.specs.NumberText.{Numeral, HasDigits}
use Rattle.currency.specs.Cut.{greatest, rest_of, rest_by, cut_numeral}

pub digit_value_is : (c : ℕ) → IsAsciiDigit c → (digit_value c ≡ c - 48) × (digit_value c < 10)
digit_value_is c h = grind arith

after_step : (n v p t a b : ℕ) → a ≡ (n * 10 + v) * p + t → b ≡ (0 * 10 + v) * p + t → a ≡ n * (p * 10) + b
after_step n v p t a b e f = omega arith

-- digits behind a number
pub digits_after : (n : ℕ) (ds : List ℕ) → digits_value_after 10 n ds ≡ n * 10 ^ length ds + digits_value 10 ds
digits_after n [] = omega arith
digits_after n (d ∷ ds) =
    let v = digit_value d in
    rw (pow-suc 10 (length ds))
    (after_step n v (10 ^ length ds) (digits_value 10 ds) (digits_value_after 10 (n * 10 + v) ds) (digits_value 10 (d ∷ ds)) (digits_after (n * 10 + v) ds) (digits_after (0 * 10 + v) ds))

-- the first of some digits
digits_cons : (d : ℕ) (ds : List ℕ) → digits_value 10 (d ∷ ds) ≡ digit_value d * 10 ^ length ds + digits_value 10 ds
digits_cons d ds = digits_after (0 * 10 + digit_value d) ds ∙ ap (λ n. n * 10 ^ length ds + digits_value 10 ds) (omega arith)

below_step : (v p t : ℕ) → v < 10 → t < p → v * p + t < p * 10
below_step v p t h l =
    let digit : v ≤ 9 = omega arith in
    let most : v * p ≤ 9 * p = mul-le-mul_right p digit in
    omega arith

pub digits_below : (ds : List ℕ) → All IsAsciiDigit ds → digits_value 10 ds < 10 ^ length ds
digits_below [] all = omega arith
digits_below (d ∷ ds) all =
    rw (pow-suc 10 (length ds), digits_cons d ds)
    (below_step (digit_value d) (10 ^ length ds) (digits_value 10 ds) (digit_value_is d (All-head IsAsciiDigit d ds all)).1 (digits_below ds (All-tail IsAsciiDigit d ds all)))

zero_step : (d v p t : ℕ) → v ≡ d - 48 → 48 ≤ d → 0 < p → (d == 48 && t == 0) ≡ (v * p + t == 0)
zero_step d v p t e h some =
    let none : v ≡ 0 → v * p ≡ 0 = λ z. ap (λ n. n * p) z ∙ omega arith in
    let more : 1 ≤ v → 1 * p ≤ v * p = λ l. mul-le-mul_right p l in
    grind (arith, none, more)

-- digits that are all zeros
zeros_are : (ds : List ℕ) → All IsAsciiDigit ds → list_all (λ digit. digit == 48) ds ≡ (digits_value 10 ds == 0)
zeros_are [] all = refl
zeros_are (d ∷ ds) all =
    let digit = All-head IsAsciiDigit d ds all in
    let some : 0 < 10 ^ length ds = one-le-pow (length ds) 10 (lit< tt) in
    rw (zeros_are ds (All-tail IsAsciiDigit d ds all), digits_cons d ds)
    (zero_step d (digit_value d) (10 ^ length ds) (digits_value 10 ds) (digit_value_is d digit).0 digit.0 some)

saturate_sum : (x p t : ℕ) → 1 ≤ p → min (min x greatest * p + t) greatest ≡ min (x * p + t) greatest
saturate_sum x p t some =
    elim (cases_lt x greatest) [
      | inl under ↦ let e : min x greatest ≡ x = omega arith in rw e refl
      | inr over ↦
          let e : min x greatest ≡ greatest = omega arith in
          let big : greatest ≤ greatest * p = le-mul_of_pos_right greatest some in
          let big' : x ≤ x * p = le-mul_of_pos_right x some in
          rw e (omega arith)
    ]

saturate : (x : ℕ) (ds : List ℕ) → min (digits_value_after 10 (min x greatest) ds) greatest ≡ min (digits_value_after 10 x ds) greatest
saturate x ds =
    let some : 1 ≤ 10 ^ length ds = one-le-pow (length ds) 10 (lit< tt) in
    rw (digits_after (min x greatest) ds, digits_after x ds) (saturate_sum x (10 ^ length ds) (digits_value 10 ds) some)

pub digits_step : (size d : ℕ) (ds : List ℕ) (new : ℕ) → IsAsciiDigit d → new ≡ min (min (size * 10) greatest + (d - 48)) greatest → min (digits_value_after 10 new ds) greatest ≡ min (digits_value_after 10 size (d ∷ ds)) greatest
digits_step size d ds new h e =
    let same : new ≡ min (size * 10 + digit_value d) greatest = omega (arith, e, (digit_value_is d h).0) in
    ap (λ n. min (digits_value_after 10 n ds) greatest) same ∙ saturate (size * 10 + digit_value d) ds

-- the four rests
pub rest_nothing : (rest q : ℕ) → rest ≡ 0 → rest_of rest q ≡ Nothing
unfolding rest_of
rest_nothing rest q h = grind arith

pub rest_below : (rest q : ℕ) → 0 < rest → 2 * rest < q → rest_of rest q ≡ BelowHalf
unfolding rest_of
rest_below rest q some h = grind arith

pub rest_half : (rest q : ℕ) → 0 < rest → 2 * rest ≡ q → rest_of rest q ≡ Half
unfolding rest_of
rest_half rest q some h = grind arith

pub rest_above : (rest q : ℕ) → q < 2 * rest → rest_of rest q ≡ AboveHalf
unfolding rest_of
rest_above rest q h = grind arith

by_below : (v t : ℕ) → v < 5 → (v ≡ 0 → t ≡ 0 → ⊥) → rest_by v (t == 0) ≡ BelowHalf
by_below v t h some = grind arith

by_above : (v t : ℕ) → 5 ≤ v → (v ≡ 5 → t ≡ 0 → ⊥) → rest_by v (t == 0) ≡ AboveHalf
by_above v t h some = grind arith

rest_low : (v p t : ℕ) → v < 5 → t < p → rest_by v (t == 0) ≡ rest_of (v * p + t) (p * 10)
rest_low v p t h l =
    let digit : v ≤ 4 = omega arith in
    let most : v * p ≤ 4 * p = mul-le-mul_right p digit in
    let least : 1 ≤ v → 1 * p ≤ v * p = λ l. mul-le-mul_right p l in
    elim (cases_lt 0 (v + t)) [
      | inl some ↦
          let more : 0 < v * p + t = grind (arith, least) in
          by_below v t h (λ a b. omega arith) ∙ sym (rest_below (v * p + t) (p * 10) more (omega arith))
      | inr none ↦
          let a : v ≡ 0 = omega arith in
          let b : t ≡ 0 = omega arith in
          rw (a, b) (sym (rest_nothing (0 * p + 0) (p * 10) (omega arith)))
    ]

rest_high : (v p t : ℕ) → 5 ≤ v → t < p → rest_by v (t == 0) ≡ rest_of (v * p + t) (p * 10)
rest_high v p t h l =
    let least : 5 * p ≤ v * p = mul-le-mul_right p h in
    let next : 6 ≤ v → 6 * p ≤ v * p = λ l. mul-le-mul_right p l in
    elim (cases_lt 5 (v + t)) [
      | inl some ↦
          let more : p * 10 < 2 * (v * p + t) = grind (arith, least, next) in
          by_above v t h (λ a b. omega arith) ∙ sym (rest_above (v * p + t) (p * 10) more)
      | inr none ↦
          let a : v ≡ 5 = omega arith in
          let b : t ≡ 0 = omega arith in
          rw (a, b) (sym (rest_half (5 * p + 0) (p * 10) (omega arith) (omega arith)))
    ]

rest_step : (v p t : ℕ) → t < p → rest_by v (t == 0) ≡ rest_of (v * p + t) (p * 10)
rest_step v p t l = elim (cases_lt v 5) [ inl low ↦ rest_low v p t low l | inr high ↦ rest_high v p t high l ]

-- the rest by the first digit
pub rest_by_is : (d : ℕ) (ds : List ℕ) → All IsAsciiDigit (d ∷ ds) → rest_by (d - 48) (list_all (λ digit. digit == 48) ds) ≡ rest_of (digits_value 10 (d ∷ ds)) (10 ^ length (d ∷ ds))
rest_by_is d ds all =
    let behind = All-tail IsAsciiDigit d ds all in
    let first = digit_value_is d (All-head IsAsciiDigit d ds all) in
    ap (λ v. rest_by v (list_all (λ digit. digit == 48) ds)) (sym first.0)
    ∙ rw (pow-suc 10 (length ds), digits_cons d ds, zeros_are ds behind)
    (rest_step (digit_value d) (10 ^ length ds) (digits_value 10 ds) (digits_below ds behind))

-- the rest of some digits
pub rest_of_digits : (ds : List ℕ) → 0 < length ds → All IsAsciiDigit ds → rest_by (get_or ds 0 0 - 48) (list_all (λ digit. digit == 48) (between 1 (length ds) ds)) ≡ rest_of (digits_value 10 ds) (10 ^ length ds)
rest_of_digits ds some all =
    let first = get_or ds 0 0 in
    let later = between 1 (length ds) ds in
    let parts : ds ≡ first ∷ later = first_rest ds 0 some in
    subst (λ l. rest_by (first - 48) (list_all (λ digit. digit == 48) later) ≡ rest_of (digits_value 10 l) (10 ^ length l)) (sym parts)
    (rest_by_is first later (subst (All IsAsciiDigit) parts all))

-- digits behind digits
pub digits_append : (n : ℕ) (xs ys : List ℕ) → digits_value_after 10 n (xs ++ ys) ≡ digits_value_after 10 (digits_value_after 10 n xs) ys
digits_append n [] ys = refl
digits_append n (x ∷ xs) ys = digits_append (n * 10 + digit_value x) xs ys

scale_lt : (m n k : ℕ) → m < n → 0 < k → m * k < n * k
scale_lt m n k h hk = mul-lt-mul_of_pos_right h hk

-- a rest keeps its kind where both sides have a factor
rest_scale : (r q k : ℕ) → 0 < k → rest_of (r * k) (q * k) ≡ rest_of r q
rest_scale r q k h =
    elim (cases_lt 0 r) [
      | inr none ↦
          let zero : r ≡ 0 = omega arith in
          rw zero (rest_nothing (0 * k) (q * k) (omega arith) ∙ sym (rest_nothing 0 q refl))
      | inl some ↦
          let scaled = scale_lt 0 r k some h in
          let more : 0 < r * k = omega arith in
          elim (cases_order (2 * r) q) [
            | inl half ↦ rest_half (r * k) (q * k) more (omega (arith, ap (λ n. n * k) half)) ∙ sym (rest_half r q some half)
            | inr (inl below) ↦ rest_below (r * k) (q * k) more (omega (arith, scale_lt (2 * r) q k below h)) ∙ sym (rest_below r q some below)
            | inr (inr above) ↦ rest_above (r * k) (q * k) (omega (arith, scale_lt q (2 * r) k above h)) ∙ sym (rest_above r q above)
          ]
    ]

-- a division whose both sides have a factor
quotient_parts : (a m r k : ℕ) → r < m → 0 < k → ((a * m + r) * k / (m * k) ≡ a) × ((a * m + r) * k % (m * k) ≡ r * k)
quotient_parts a m r k h hk =
    let parts = scaled_parts (a * m + r) m k hk (omega arith) in
    (parts.0 ∙ div-mul-add a m r h, parts.1 ∙ ap (λ n. n * k) (mod-mul-add a m r h))

-- places that lack decimals, or decimals behind the places
fewer : (fraction : List ℕ) (places : ℕ) → (10 ^ (places - min places (length fraction)) ≡ 1) ⊎ (drop (min places (length fraction)) fraction ≡ [])
fewer fraction places =
    elim (cases_lt (length fraction) places) [
      | inl few ↦ inr (drop_all (min places (length fraction)) fraction (omega arith))
      | inr enough ↦ let none : places - min places (length fraction) ≡ 0 = omega arith in inl (ap (λ n. 10 ^ n) none)
    ]

-- a division whose both sides have a factor, where the rest takes another one: it is 1, or the rest is 0 and the divisor 1
cut_parts : (a m r z k : ℕ) → r < m → 0 < k → (z ≡ 1) ⊎ ((r ≡ 0) × (m ≡ 1)) → ((a * m + r) * (z * k) / (m * k) ≡ a * z) × (rest_of ((a * m + r) * (z * k) % (m * k)) (m * k) ≡ rest_of r m)
cut_parts a m r z k below some (inl one) =
    let parts = quotient_parts a m r k below some in
    rw (one, one-mul) (parts.0 ∙ omega arith, ap (λ x. rest_of x (m * k)) parts.1 ∙ rest_scale r m k some)
cut_parts a m r z k below some (inr (none, unit)) =
    let parts = quotient_parts (a * z) 1 0 k (omega arith) some in
    let same : (a * 1 + 0) * (z * k) ≡ (a * z * 1 + 0) * k = omega arith in
    rw (none, unit, same) (parts.0, ap (λ x. rest_of x (1 * k)) parts.1 ∙ rest_scale 0 1 k some)

module _ (whole fraction : List ℕ) (places : ℕ) (all : All IsAsciiDigit fraction) where
  cut_at : let kept = min places (length fraction) in let behind = drop kept fraction in let p = digits_value 10 (whole ++ fraction) * 10 ^ places in let q = 10 ^ length fraction in (p / q ≡ digits_value 10 (whole ++ take kept fraction) * 10 ^ (places - kept)) × (rest_of (p % q) q ≡ rest_of (digits_value 10 behind) (10 ^ length behind))
  cut_at =
      let kept = min places (length fraction) in
      let behind = drop kept fraction in
      let split : digits_value 10 (whole ++ fraction) ≡ digits_value 10 (whole ++ take kept fraction) * 10 ^ length behind + digits_value 10 behind =
      ap (λ f. digits_value 10 (whole ++ f)) (sym (take-append-drop kept fraction))
      ∙ ap (digits_value 10) (sym (append_assoc whole (take kept fraction) behind))
      ∙ digits_append 0 (whole ++ take kept fraction) behind
      ∙ digits_after (digits_value 10 (whole ++ take kept fraction)) behind in
      let first : 10 ^ places ≡ 10 ^ (places - kept) * 10 ^ kept =
      (let sum : places ≡ places - kept + kept = omega arith in ap (λ n. 10 ^ n) sum ∙ pow-add 10 (places - kept) kept) in
      let second : 10 ^ length fraction ≡ 10 ^ length behind * 10 ^ kept =
      (let sum : length fraction ≡ length behind + kept = omega (arith, length-drop kept fraction) in ap (λ n. 10 ^ n) sum ∙ pow-add 10 (length behind) kept) in
      let none : (10 ^ (places - kept) ≡ 1) ⊎ ((digits_value 10 behind ≡ 0) × (10 ^ length behind ≡ 1)) =
      elim (fewer fraction places) [ inl one ↦ inl one | inr end ↦ inr (ap (digits_value 10) end, ap (λ l. 10 ^ length l) end) ] in
      rw (split, first, second)
      (cut_parts (digits_value 10 (whole ++ take kept fraction)) (10 ^ length behind) (digits_value 10 behind) (10 ^ (places - kept)) (10 ^ kept) (digits_below behind (All-drop IsAsciiDigit kept fraction all)) (one-le-pow kept 10 (lit< tt)) none)

-- the size that is made of digits, more digits and zeros
pub size_of : (whole decimals : List ℕ) (zeros n₀ n₁ n₂ : ℕ) → n₀ ≡ min (digits_value 10 whole) greatest → n₁ ≡ min (digits_value_after 10 n₀ decimals) greatest → n₂ ≡ min (n₁ * 10 ^ zeros) greatest → n₂ ≡ min (digits_value 10 (whole ++ decimals) * 10 ^ zeros) greatest
size_of whole decimals zeros n₀ n₁ n₂ e₀ e₁ e₂ =
    let digits : n₁ ≡ min (digits_value 10 (whole ++ decimals)) greatest =
    e₁ ∙ ap (λ n. min (digits_value_after 10 n decimals) greatest) e₀ ∙ saturate (digits_value 10 whole) decimals
    ∙ ap (λ n. min n greatest) (sym (digits_append 0 whole decimals)) in
    let scaled = saturate_sum (digits_value 10 (whole ++ decimals)) (10 ^ zeros) 0 (one-le-pow zeros 10 (lit< tt)) in
    e₂ ∙ ap (λ n. min (n * 10 ^ zeros) greatest) digits ∙ omega (arith, scaled)

cut_with : ℕ → Rest → Cut
cut_with size rest = record { size = size; rest = rest }

-- what the parts of a number are cut to
pub cut_is : (n : Numeral) (places size : ℕ) (rest : Rest) → HasDigits n → size ≡ min (digits_value 10 (n.whole ++ take (min places (length n.fraction)) n.fraction) * 10 ^ (places - min places (length n.fraction))) greatest → rest ≡ rest_of (digits_value 10 (drop (min places (length n.fraction)) n.fraction)) (10 ^ length (drop (min places (length n.fraction)) n.fraction)) → record { size = size; rest = rest } ≡ cut_numeral places n
unfolding cut_with
cut_is n places size rest has e f =
    let parts = cut_at n.whole n.fraction places has.fraction in
    ap (λ s. cut_with s rest) (e ∙ ap (λ m. min m greatest) (sym parts.0)) ∙ ap (cut_with _) (f ∙ sym parts.1)
