-- Laws of texts that are the same.
use Rattle.std.proofs.Common.{◌≡◌, ◌≢◌, List, [], ◌∷◌, ℕ, true, false, length, refl, ap}
use Rattle.std.specs.Prelude.{◌==◌}
use Rattle.std.proofs.lemmas.Bool.{eqb-true, eq-eqb, and_from, and_parts, false_from_ne_true}
use Rattle.vba_lexer.specs.Tokens.{same_text}

-- a text is the same as itself
pub same_text-refl : (text : List ℕ) → same_text text text ≡ true
same_text-refl [] = refl
same_text-refl (unit ∷ text) = and_from (unit == unit) (same_text text text) (eq-eqb unit unit refl) (same_text-refl text)

-- texts that are the same are equal
pub same_text-true : (left right : List ℕ) → same_text left right ≡ true → left ≡ right
same_text-true [] [] same = refl
same_text-true [] (unit ∷ right) same = cc
same_text-true (unit ∷ left) [] same = cc
same_text-true (unit ∷ left) (other ∷ right) same =
    let parts = and_parts (unit == other) (same_text left right) same in
    cc (eqb-true unit other parts.0, same_text-true left right parts.1)

-- texts of different lengths are not the same
pub same_text_sizes : (left right : List ℕ) → length left ≢ length right → same_text left right ≡ false
same_text_sizes left right differ = false_from_ne_true (same_text left right) (λ same. differ (ap length (same_text-true left right same)))
