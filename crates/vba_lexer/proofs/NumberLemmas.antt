-- Numbers in digits, cut at a limit.
use Rattle.std.proofs.Common.{◌≡◌, ℕ, ◌+◌, ◌*◌, ◌<◌, ◌≤◌, List, [], ◌∷◌, min, length, get_or, take, drop, sym, ◌∙◌, ap, arith, inl, inr}
use Rattle.std.proofs.Math.Nat.{mul-le-mul_left}
use Rattle.std.proofs.lemmas.Bool.{cases_lt, lt-leb}
use Rattle.std.proofs.lemmas.List.{drop_more}
use Rattle.std.specs.Prelude.{if◌then◌else◌}
use Rattle.std.specs.List.{prefix_len}
use Rattle.vba_lexer.specs.Classes.{is_digit}
use Rattle.vba_lexer.specs.Numbers.{digit_value, value_from, digits_value, digit_at, rounds_up, cut_count, fixed_count, currency, whole_part, fraction_part}

-- more than any whole type holds
abbrev pub limit_of_numbers : ℕ
limit_of_numbers = 0x1_0000_0000_0000_0000

-- more digits make no smaller number
value_from-grows : (base before : ℕ) (digits : List ℕ) → 1 ≤ base → before ≤ value_from base before digits
value_from-grows base before [] some = omega arith
value_from-grows base before (digit ∷ digits) some =
    let e : before * base + digit_value digit ≤ value_from base (before * base + digit_value digit) digits =
    value_from-grows base (before * base + digit_value digit) digits some in
    let f : before * 1 ≤ before * base = mul-le-mul_left before some in
    omega arith

-- a number above the limit may be cut to it
value_from-cut : (limit base before cut : ℕ) (digits : List ℕ) → 1 ≤ base → (limit < before → cut ≡ limit) → (before ≤ limit → cut ≡ before)
    → min (value_from base cut digits) limit ≡ min (value_from base before digits) limit
value_from-cut limit base before cut digits some above below =
    elim (cases_lt limit before) [
      | inl more ↦
          let e : cut ≤ value_from base cut digits = value_from-grows base cut digits some in
          let f : before ≤ value_from base before digits = value_from-grows base before digits some in
          let g : cut ≡ limit = above more in
          omega arith
      | inr less ↦ ap (λ (n : ℕ). min (value_from base n digits) limit) (below less)
    ]

-- the step of reading a digit
pub next_digit : (limit base value cut place whole : ℕ) (digits : List ℕ) → 1 ≤ base → place < length digits
    → min (value_from base value (drop place digits)) limit ≡ whole
    → (limit < value * base + digit_value (get_or digits place 0) → cut ≡ limit)
    → (value * base + digit_value (get_or digits place 0) ≤ limit → cut ≡ value * base + digit_value (get_or digits place 0))
    → min (value_from base cut (drop (place + 1) digits)) limit ≡ whole
next_digit limit base value cut place whole digits some inside so_far above below =
    value_from-cut limit base (value * base + digit_value (get_or digits place 0)) cut (drop (place + 1) digits) some above below
    ∙ ap (λ (rest : List ℕ). min (value_from base value rest) limit) (sym (drop_more digits place 0 inside)) ∙ so_far

-- a Currency whose whole part is cut at the limit is out of range as well
pub currency-cut : (whole fraction : List ℕ) (cut count : ℕ) → cut ≡ min (digits_value 10 whole) limit_of_numbers
    → count ≡ cut * 10000 + (digit_at fraction 0 * 1000 + digit_at fraction 1 * 100 + digit_at fraction 2 * 10 + digit_at fraction 3)
    → currency (count + (if rounds_up count (drop 4 fraction) then 1 else 0)) ≡ currency (fixed_count whole fraction)
currency-cut whole fraction cut count is_cut is_count =
    elim (cases_lt (digits_value 10 whole) limit_of_numbers) [
      | inl below ↦
          let e : count ≡ cut_count whole fraction = omega arith in
          ap (λ (n : ℕ). currency (n + (if rounds_up n (drop 4 fraction) then 1 else 0))) e
      | inr above ↦
          rw (
            lt-leb (count + (if rounds_up count (drop 4 fraction) then 1 else 0)) 0x7FFF_FFFF_FFFF_FFFF (omega arith),
            lt-leb (fixed_count whole fraction) 0x7FFF_FFFF_FFFF_FFFF (omega arith),
          )
    ]

-- the Currency of a number with a point
pub currency-fixed : (text : List ℕ) (run cut count total : ℕ) (fraction : List ℕ) → run ≡ prefix_len is_digit text → fraction ≡ drop (run + 1) text
    → cut ≡ min (digits_value 10 (take run text)) limit_of_numbers
    → count ≡ cut * 10000 + (digit_at fraction 0 * 1000 + digit_at fraction 1 * 100 + digit_at fraction 2 * 10 + digit_at fraction 3)
    → total ≡ count + (if rounds_up count (drop 4 fraction) then 1 else 0)
    → currency total ≡ currency (fixed_count (whole_part text) (fraction_part text))
currency-fixed text run cut count total fraction is_run is_fraction is_cut is_count is_total =
    ap currency is_total ∙ currency-cut (take run text) fraction cut count is_cut is_count
    ∙ ap (λ (f : List ℕ). currency (fixed_count (take run text) f)) is_fraction
    ∙ ap (λ (n : ℕ). currency (fixed_count (take n text) (drop (n + 1) text))) is_run
