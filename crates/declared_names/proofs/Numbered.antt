-- The fold of the name of a module that no attribute names.
use Rattle.std.proofs.Common.{◌≡◌, ℕ, zero, suc, nat_le, nat_lt, ◌<◌, ◌≤◌, ◌^◌, Bool, true, false, ◌&&◌, List, [], ◌∷◌, ◌++◌, append-nil, codes, refl, sym, ap, ◌∙◌, arith}
use Rattle.std.specs.Prelude.{decimal}
use Rattle.std.specs.Char.{to_ascii_lowercase}
use Rattle.std.specs.List.{All}
use Rattle.std.specs.Str.Parse.{AllDigits}
use Rattle.std.proofs.lemmas.Fmt.{decimal_is_IsNumeral}
use Rattle.std.proofs.lemmas.Str.Parse.{digit_from_value}
use Rattle.std.proofs.lemmas.Bool.Decides.{nat_tests}
use Rattle.caseless.proofs.CaselessLemmas.{default_case_fold-ascii}
use Rattle.std.specs.Char.Utf16.{is_high_surrogate, is_low_surrogate}
use Rattle.vba_base.specs.Fold.{folded, folded_unit}

all_one : (unit : ℕ) → unit < 128 → All (λ c. c < 128) (unit ∷ [])
all_one unit h zero d lt = h
all_one unit h (suc k) d lt = absurd (omega arith)

fold_of_ascii : (unit : ℕ) → unit < 128 → folded_unit unit ≡ to_ascii_lowercase unit ∷ []
fold_of_ascii unit h =
    let low : nat_le 0xD800 unit ≡ false = grind (arith, nat_tests) in
    let short : nat_lt (to_ascii_lowercase unit) 0x1_0000 ≡ true = grind (arith, nat_tests) in
    rw (low, default_case_fold-ascii (unit ∷ []) (all_one unit h), short) refl

no_high : (unit : ℕ) → unit < 128 → is_high_surrogate unit ≡ false
no_high unit h = grind (arith, nat_tests)

-- a unit of ASCII before others
fold_more : (unit : ℕ) (text : List ℕ) → unit < 128 → folded (unit ∷ text) ≡ to_ascii_lowercase unit ∷ folded text
unfolding folded
fold_more unit [] h = fold_of_ascii unit h
fold_more unit (next ∷ text) h = rw (no_high unit h, fold_of_ascii unit h) refl

fold_nil : folded [] ≡ []
unfolding folded
fold_nil = refl

same_digit : (c : ℕ) → c < 58 → to_ascii_lowercase c ≡ c
same_digit c h = grind (arith, nat_tests)

fold_digits : (ds : List ℕ) → AllDigits 10 ds → folded ds ≡ ds
fold_digits [] d = fold_nil
fold_digits (c ∷ cs) d =
    let small : c < 58 = omega (arith, digit_from_value c d.0) in
    fold_more c cs (omega arith) ∙ ap (λ x. x ∷ folded cs) (same_digit c small) ∙ ap (λ xs. c ∷ xs) (fold_digits cs d.1)

pub numbered_fold : (n : ℕ) → n < 2 ^ 64 → folded (codes "Module" ++ decimal n) ≡ codes "module" ++ decimal n
numbered_fold n h =
    let ds = decimal n in
    rw (
      fold_more 77 (111 ∷ 100 ∷ 117 ∷ 108 ∷ 101 ∷ ds) (omega arith),
      fold_more 111 (100 ∷ 117 ∷ 108 ∷ 101 ∷ ds) (omega arith),
      fold_more 100 (117 ∷ 108 ∷ 101 ∷ ds) (omega arith),
      fold_more 117 (108 ∷ 101 ∷ ds) (omega arith),
      fold_more 108 (101 ∷ ds) (omega arith),
      fold_more 101 ds (omega arith),
    )
    (ap (λ xs. 109 ∷ 111 ∷ 100 ∷ 117 ∷ 108 ∷ 101 ∷ xs) (fold_digits ds (decimal_is_IsNumeral n h).0.1))
