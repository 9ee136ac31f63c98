-- Comparing a whole number with a number that was cut.
use Rattle.std.proofs.Common.{◌≡◌, ℕ, zero, suc, ◌*◌, ◌/◌, ◌%◌, ◌<◌, ◌≤◌, Bool, true, false, ◌++◌, length, refl, sym, ap, ◌∙◌, inl, inr, arith, lit<, ◌↔◌, Option, Some, None, List}
use Rattle.std.specs.Prelude.{option_map}
use Rattle.currency.proofs.NumberTextLaws.{read-none}
use Rattle.std.specs.Prelude.{min, ℤ, pos, negsuc, neg_ℤ, ◌*ℤ◌, unsigned_abs}
use Rattle.std.specs.declared.cmp.Ordering.{Ordering}
use Rattle.std.specs.declared.cmp.Ordering.TheVariants.{Less, Equal, Greater}
use Rattle.std.specs.Ordering.{nat_cmp, int_cmp, ordering_then, ordering_reverse}
use Rattle.std.proofs.Math.Nat.{one-le-pow, mul-le-mul_right}
use Rattle.std.proofs.lemmas.Bool.{cases_lt, cases_order, ne_eqb}
use Rattle.std.specs.Str.Parse.{digits_value}
use Rattle.currency.specs.NumberText.{Numeral, signed, denominator, IsNoNumberText, read}
use Rattle.currency.specs.Cut.{greatest, rest_of, cut_of, cut_numeral, behind_size, compare_cut, compare_signed}
use Rattle.currency.specs.Parsed.{compare_numeral}
use Rattle.currency.proofs.HalfEvenLaws.{nearest_parts, neg_mul}
use Rattle.currency.proofs.CutLaws.{rest_nothing, rest_below, rest_half, rest_above}

cmp_less : (a b : ℕ) → a < b → nat_cmp a b ≡ Less
cmp_less a b h = grind arith

cmp_equal : (a b : ℕ) → a ≡ b → nat_cmp a b ≡ Equal
cmp_equal a b h = grind arith

cmp_greater : (a b : ℕ) → b < a → nat_cmp a b ≡ Greater
cmp_greater a b h = grind arith

-- something behind the size
behind_some : (rest q : ℕ) → 0 < rest → behind_size (rest_of rest q) ≡ Less
behind_some rest q some =
    elim (cases_order (2 * rest) q) [
      | inl half ↦ ap behind_size (rest_half rest q some half)
      | inr (inl below) ↦ ap behind_size (rest_below rest q some below)
      | inr (inr above) ↦ ap behind_size (rest_above rest q above)
    ]

-- a whole number below the greatest size compares with what was cut as with the quotient
compare_quotient : (whole p q : ℕ) → 0 < q → whole < greatest → compare_cut whole (cut_of p q) ≡ nat_cmp (whole * q) p
compare_quotient whole p q h small =
    let parts = nearest_parts p q h in
    let size = min (p / q) greatest in
    let behind = behind_size (rest_of (p % q) q) in
    elim (cases_order whole (p / q)) [
      | inl same ↦
          let held : whole ≡ size = omega arith in
          let product : whole * q ≡ p / q * q = ap (λ n. n * q) same in
          ap (λ o. ordering_then o behind) (cmp_equal whole size held)
          ∙ elim (cases_lt 0 (p % q)) [
            | inl some ↦ behind_some (p % q) q some ∙ sym (cmp_less (whole * q) p (omega (arith, product, parts.0)))
            | inr none ↦
                let zero : p % q ≡ 0 = omega arith in
                ap behind_size (rest_nothing (p % q) q zero) ∙ sym (cmp_equal (whole * q) p (omega (arith, product, parts.0)))
          ]
      | inr (inl below) ↦
          let under : whole < size = omega arith in
          let products : suc whole * q ≤ p / q * q = mul-le-mul_right q below in
          ap (λ o. ordering_then o behind) (cmp_less whole size under) ∙ sym (cmp_less (whole * q) p (omega (arith, products, parts.0)))
      | inr (inr above) ↦
          let over : size < whole = omega arith in
          let products : suc (p / q) * q ≤ whole * q = mul-le-mul_right q above in
          ap (λ o. ordering_then o behind) (cmp_greater whole size over) ∙ sym (cmp_greater (whole * q) p (omega (arith, products, parts.0, parts.1)))
    ]

int_cmp-pos : (a b : ℕ) → int_cmp (pos a) (pos b) ≡ nat_cmp a b
int_cmp-pos a b = grind arith

int_cmp-negsuc : (a b : ℕ) → int_cmp (negsuc a) (negsuc b) ≡ ordering_reverse (nat_cmp (suc a) (suc b))
int_cmp-negsuc a b =
    elim (cases_order a b) [
      | inl same ↦ rw (cmp_equal (suc a) (suc b) (omega arith)) (grind arith)
      | inr (inl below) ↦ rw (cmp_less (suc a) (suc b) (omega arith)) (grind arith)
      | inr (inr above) ↦ rw (cmp_greater (suc a) (suc b) (omega arith)) (grind arith)
    ]

int_cmp-neg : (a b : ℕ) → int_cmp (neg_ℤ (pos a)) (neg_ℤ (pos b)) ≡ ordering_reverse (nat_cmp a b)
int_cmp-neg zero zero = refl
int_cmp-neg zero (suc b) = sym (ap ordering_reverse (cmp_less 0 (suc b) (omega arith)))
int_cmp-neg (suc a) zero = sym (ap ordering_reverse (cmp_greater (suc a) 0 (omega arith)))
int_cmp-neg (suc a) (suc b) = int_cmp-negsuc a b

int_cmp-neg_pos : (a b : ℕ) → 0 < a → int_cmp (neg_ℤ (pos a)) (pos b) ≡ Less
int_cmp-neg_pos zero b h = absurd (omega arith)
int_cmp-neg_pos (suc a) b h = refl

cmp_pos_zero : (a : ℕ) → 0 < a → int_cmp (pos a) (pos 0) ≡ Greater
cmp_pos_zero a h = grind arith

int_cmp-pos_neg : (a b n : ℕ) → (n ≡ 0 → a ≡ 0) → (0 < n → 0 < a) → int_cmp (pos a) (neg_ℤ (pos b)) ≡ compare_signed (pos n) true (nat_cmp a b)
int_cmp-pos_neg a zero n none some =
    elim (cases_lt 0 n) [
      | inl more ↦ let size : 0 < a = some more in rw (ne_eqb n 0 (λ e. omega arith)) (cmp_pos_zero a size)
      | inr zero' ↦ let e : n ≡ 0 = omega arith in rw (none e, e) refl
    ]
int_cmp-pos_neg a (suc b) n none some =
    elim (cases_lt 0 n) [
      | inl more ↦ rw (ne_eqb n 0 (λ e. omega arith)) refl
      | inr zero' ↦ let e : n ≡ 0 = omega arith in rw (none e, e, cmp_less 0 (suc b) (omega arith)) refl
    ]

signed_product : (negative : Bool) (digits scale : ℕ) → signed negative digits *ℤ pos scale ≡ signed negative (digits * scale)
signed_product false digits scale = refl
signed_product true digits scale = neg_mul (pos digits) scale

compare_sizes : (count : ℤ) (negative : Bool) (q b : ℕ) → 0 < q → int_cmp (count *ℤ pos q) (signed negative b) ≡ compare_signed count negative (nat_cmp (unsigned_abs count * q) b)
compare_sizes (pos n) false q b h = int_cmp-pos (n * q) b
compare_sizes (pos n) true q b h = int_cmp-pos_neg (n * q) b n (λ e. ap (λ k. k * q) e ∙ omega arith) (λ l. let more : 1 * q ≤ n * q = mul-le-mul_right q l in omega arith)
compare_sizes (negsuc n) false q b h = int_cmp-neg_pos (suc n * q) b (omega arith)
compare_sizes (negsuc n) true q b h = int_cmp-neg (suc n * q) b

-- the comparison of the sizes, with the signs, is that of the numbers
pub compare_is : (count : ℤ) (n : Numeral) → unsigned_abs count < greatest → compare_signed count n.negative (compare_cut (unsigned_abs count) (cut_numeral 4 n)) ≡ compare_numeral count n
compare_is count n small =
    let digits = digits_value 10 (n.whole ++ n.fraction) in
    let q = denominator n in
    let some : 0 < q = one-le-pow (length n.fraction) 10 (lit< tt) in
    ap (compare_signed count n.negative) (compare_quotient (unsigned_abs count) (digits * 10000) q some small)
    ∙ sym (compare_sizes count n.negative q (digits * 10000) some)
    ∙ ap (int_cmp (count *ℤ pos q)) (sym (signed_product n.negative digits 10000))

none_from_read : (count : ℤ) (found : Option Numeral) → (option_map (compare_numeral count) found ≡ None) ↔ (found ≡ None)
none_from_read count None = (λ _. refl, λ _. refl)
none_from_read count (Some n) = (λ e. absurd cc, λ e. absurd cc)

-- nothing is compared exactly where the text is no number text
pub compare-none : (count : ℤ) (text : List ℕ) (result : Option Ordering) → result ≡ option_map (compare_numeral count) (read text) → (result ≡ None) ↔ IsNoNumberText text
compare-none count text result e =
    let reads = none_from_read count (read text) in
    let texts = read-none text in
    (λ none. texts.0 (reads.0 (sym e ∙ none)), λ no'. e ∙ reads.1 (texts.1 no'))
