-- What a text begins with passes the test that it was taken by.
use Rattle.std.proofs.Common.{◌≡◌, ℕ, Bool, true, List, [], ◌∷◌, take_while, ◌∙◌, inl, inr, arith, rules}
use Rattle.std.specs.Prelude.{All}
use Rattle.std.specs.Char.{IsAsciiDigit, is_ascii_digit, is_ascii_alphabetic}
use Rattle.std.proofs.lemmas.List.Elements.{All-nil, All-cons, All-same}
use Rattle.std.proofs.lemmas.List.Sums.{take_while-cons}
use Rattle.std.proofs.lemmas.Bool.{cases_Bool, cond-true, cond-false}
use Rattle.sheet_host.specs.Address.{IsLetter}

first_all : (P : ℕ → Type 0) (passes : ℕ → Bool) → ((unit : ℕ) → passes unit ≡ true → P unit) → (unit : ℕ) (units : List ℕ) → All P (take_while passes units) → All P (take_while passes (unit ∷ units))
first_all P passes means unit units all =
    elim (cases_Bool (passes unit)) [
      | inl yes' ↦ All-same P _ (unit ∷ take_while passes units) (take_while-cons passes unit units ∙ cond-true _ _ _ yes') (All-cons P unit (take_while passes units) (means unit yes') all)
      | inr no' ↦ All-same P _ [] (take_while-cons passes unit units ∙ cond-false _ _ _ no') (All-nil P)
    ]

pub taken_pass : (P : ℕ → Type 0) (passes : ℕ → Bool) → ((unit : ℕ) → passes unit ≡ true → P unit) → (units : List ℕ) → All P (take_while passes units)
taken_pass P passes means [] = All-nil P
taken_pass P passes means (unit ∷ units) = first_all P passes means unit units (taken_pass P passes means units)

digit_passes : (unit : ℕ) → is_ascii_digit unit ≡ true → IsAsciiDigit unit
digit_passes unit h = grind arith

letter_passes : (unit : ℕ) → is_ascii_alphabetic unit ≡ true → IsLetter unit
letter_passes unit h = search rules

pub digits_are : (text : List ℕ) → All IsAsciiDigit (take_while is_ascii_digit text)
digits_are text = taken_pass IsAsciiDigit is_ascii_digit digit_passes text

pub letters_are : (text : List ℕ) → All IsLetter (take_while is_ascii_alphabetic text)
letters_are text = taken_pass IsLetter is_ascii_alphabetic letter_passes text
