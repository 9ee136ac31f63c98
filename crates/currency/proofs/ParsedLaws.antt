-- From what was cut to the rounded number in range.
use Rattle.std.proofs.Common.{◌≡◌, ℕ, zero, suc, ◌*◌, ◌/◌, ◌%◌, ◌^◌, ◌<◌, ◌≤◌, Bool, true, false, Result, Ok, Err, List, ◌++◌, length, refl, sym, ap, ◌∙◌, inl, inr, arith, lit<, ◌↔◌, Option, Some, None}
use Rattle.std.specs.Prelude.{min, ℤ, pos, ◌*ℤ◌}
use Rattle.std.specs.Str.Parse.{digits_value}
use Rattle.std.proofs.Math.Nat.{one-le-pow}
use Rattle.std.proofs.lemmas.Bool.{cases_lt, le-ltb, cases_Bool, cond-true, cond-false}
use Rattle.currency.specs.declared.cut.Rest.{Rest}
use Rattle.currency.specs.declared.cut.Rest.TheVariants.{Nothing, BelowHalf, Half, AboveHalf}
use Rattle.currency.specs.HalfEven.{nearest, half_even}
use Rattle.currency.specs.NumberText.{Numeral, signed, denominator, IsNoNumberText, read}
use Rattle.currency.specs.Cut.{greatest, rest_of, rounded_size, cut_numeral}
use Rattle.currency.specs.Range.{is_i64, ranged}
use Rattle.currency.specs.Parsed.{rounded, ranged_numeral, parsed}
use Rattle.currency.specs.declared.text.ParseFault.{ParseFault}
use Rattle.currency.specs.declared.text.ParseFault.TheVariants.{NotNumber, OutOfRange}
use Rattle.currency.proofs.NumberTextLaws.{read-none}
use Rattle.currency.proofs.HalfEvenLaws.{nearest_cases, half_even-neg, neg_mul}
use Rattle.currency.proofs.CutLaws.{rest_nothing, rest_below, rest_half, rest_above}

-- what was cut exactly is rounded to the nearest
rounded_exact : (p q : ℕ) → 0 < q → rounded_size (p / q) (rest_of (p % q) q) ≡ nearest p q
rounded_exact p q h =
    elim (cases_lt 0 (p % q)) [
      | inr none ↦
          let zero : p % q ≡ 0 = omega arith in
          ap (rounded_size (p / q)) (rest_nothing (p % q) q zero)
          ∙ elim (nearest_cases p q) [
            | inl down ↦ sym down.1
            | inr (inl up) ↦ absurd (omega arith)
            | inr (inr half) ↦ absurd (omega arith)
          ]
      | inl some ↦
          elim (nearest_cases p q) [
            | inl down ↦ ap (rounded_size (p / q)) (rest_below (p % q) q some down.0) ∙ sym down.1
            | inr (inl up) ↦ ap (rounded_size (p / q)) (rest_above (p % q) q up.0) ∙ sym up.1
            | inr (inr half) ↦ ap (rounded_size (p / q)) (rest_half (p % q) q some half.0) ∙ sym half.1
          ]
    ]

rounded_size_ge : (size : ℕ) (rest : Rest) → size ≤ rounded_size size rest
rounded_size_ge size Nothing = omega arith
rounded_size_ge size BelowHalf = omega arith
rounded_size_ge size Half = omega arith
rounded_size_ge size AboveHalf = omega arith

-- what was cut is rounded to the nearest, up to the greatest size
rounded_cut : (p q : ℕ) → 0 < q → min (rounded_size (min (p / q) greatest) (rest_of (p % q) q)) greatest ≡ min (nearest p q) greatest
rounded_cut p q h =
    elim (cases_lt (p / q) greatest) [
      | inl under ↦
          let held : min (p / q) greatest ≡ p / q = omega arith in
          ap (λ n. min (rounded_size n (rest_of (p % q) q)) greatest) held ∙ ap (λ n. min n greatest) (rounded_exact p q h)
      | inr over ↦
          let held : min (p / q) greatest ≡ greatest = omega arith in
          ap (λ n. min (rounded_size n (rest_of (p % q) q)) greatest) held
          ∙ omega (arith, rounded_size_ge greatest (rest_of (p % q) q), rounded_size_ge (p / q) (rest_of (p % q) q), rounded_exact p q h)
    ]

-- sizes past 64 bits don't differ
out_of_range : {E : Type 0} (fault : E) (negative : Bool) (n : ℕ) → 2 ^ 64 ≤ n → ranged fault (signed negative n) ≡ Err fault
out_of_range fault false n h = rw (le-ltb n (2 ^ 63) (omega arith)) refl
out_of_range fault true zero h = absurd (omega arith)
out_of_range fault true (suc n) h = rw (le-ltb n (2 ^ 63) (omega arith)) refl

same_range : {E : Type 0} (fault : E) (negative : Bool) (m n : ℕ) → min m greatest ≡ min n greatest → ranged fault (signed negative m) ≡ ranged fault (signed negative n)
same_range fault negative m n e =
    elim (cases_lt m (2 ^ 64)) [
      | inl under ↦ let same : m ≡ n = omega arith in ap (λ k. ranged fault (signed negative k)) same
      | inr over ↦ out_of_range fault negative m over ∙ sym (out_of_range fault negative n (omega arith))
    ]

pub signed_half_even : (negative : Bool) (digits scale q : ℕ) → 0 < q → half_even (signed negative digits *ℤ pos scale) q ≡ signed negative (nearest (digits * scale) q)
signed_half_even false digits scale q h = refl
signed_half_even true digits scale q h =
    ap (λ z. half_even z q) (neg_mul (pos digits) scale) ∙ half_even-neg (pos (digits * scale)) q h

-- the rounded size, with its sign and in range, is the rounded number in range
pub ranged_cut : {E : Type 0} (fault : E) (places : ℕ) (n : Numeral) → ranged fault (signed n.negative (min (rounded_size (cut_numeral places n).size (cut_numeral places n).rest) greatest)) ≡ ranged fault (rounded places n)
ranged_cut fault places n =
    let digits = digits_value 10 (n.whole ++ n.fraction) in
    let p = digits * 10 ^ places in
    let q = denominator n in
    let some : 0 < q = one-le-pow (length n.fraction) 10 (lit< tt) in
    let size = rounded_size (min (p / q) greatest) (rest_of (p % q) q) in
    same_range fault n.negative (min size greatest) (nearest p q) (omega (arith, rounded_cut p q some))
    ∙ ap (ranged fault) (sym (signed_half_even n.negative digits (10 ^ places) q some))

ranged_is : (z : ℤ) → ranged OutOfRange z ≡ Err NotNumber → ⊥
ranged_is z e = elim (cases_Bool (is_i64 z)) [
  | inl yes' ↦ let clash : ◌≡◌ {A = Result ℤ ParseFault} (Ok z) (Err NotNumber) = sym (cond-true (is_i64 z) (Ok z) (Err OutOfRange) yes') ∙ e in cc
  | inr no' ↦ let clash : ◌≡◌ {A = Result ℤ ParseFault} (Err OutOfRange) (Err NotNumber) = sym (cond-false (is_i64 z) (Ok z) (Err OutOfRange) no') ∙ e in cc
]

not_number_from_read : (places : ℕ) (found : Option Numeral) → (ranged_numeral places found ≡ Err NotNumber) ↔ (found ≡ None)
not_number_from_read places None = (λ _. refl, λ _. refl)
not_number_from_read places (Some n) = (λ e. absurd (ranged_is (rounded places n) e), λ e. absurd cc)

-- a text parses as no number exactly where it is no number text
pub parsed-not_number : (places : ℕ) (text : List ℕ) (result : Result ℤ ParseFault) → result ≡ parsed places text → (result ≡ Err NotNumber) ↔ IsNoNumberText text
parsed-not_number places text result e =
    let reads = not_number_from_read places (read text) in
    let texts = read-none text in
    (λ none. texts.0 (reads.0 (sym e ∙ none)), λ no'. e ∙ reads.1 (texts.1 no'))
