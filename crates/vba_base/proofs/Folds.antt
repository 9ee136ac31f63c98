-- How the fold of a text goes on from its first character.
use Rattle.std.proofs.Common.{◌≡◌, ℕ, zero, suc, nat_le, nat_lt, ◌-◌, ◌<◌, ◌≤◌, Bool, true, false, ◌&&◌, if◌then◌else◌, List, [], ◌∷◌, ◌++◌, length, take, drop, slice_index, take_all, length-drop, append-nil, append_assoc, Some, None, refl, sym, ap, ◌∙◌, arith}
use Rattle.std.specs.Char.{to_ascii_lowercase}
use Rattle.std.specs.List.{All}
use Rattle.std.proofs.lemmas.Bool.Decides.{nat_tests}
use Rattle.caseless.proofs.CaselessLemmas.{default_case_fold-ascii}
use Rattle.std.specs.Char.Utf16.{is_high_surrogate, is_low_surrogate, surrogate_pair_char}
use Rattle.vba_base.specs.Fold.{folded, folded_char, folded_unit}

-- the fold of no units is none
pub folded-nil : folded [] ≡ []
unfolding folded
folded-nil = refl

-- the two units that a text begins with are a pair of surrogates
abbrev pub begins_with_pair : List ℕ → Bool
begins_with_pair text = is_high_surrogate (slice_index text 0) && is_low_surrogate (slice_index text 1)

-- the character of the pair that a text begins with
abbrev pub first_pair_char : List ℕ → ℕ
first_pair_char text = surrogate_pair_char (slice_index text 0) (slice_index text 1)

all_one : (unit : ℕ) → unit < 128 → All (λ c. c < 128) (unit ∷ [])
all_one unit h zero d lt = h
all_one unit h (suc k) d lt = absurd (omega arith)

rest_of : (n : ℕ) (text : List ℕ) → take (length text - n) (drop n text) ≡ drop n text
rest_of n text = take_all (length text - n) (drop n text) (omega (arith, length-drop n text))

folded_pair : (text : List ℕ) → 2 ≤ length text → begins_with_pair text ≡ true → folded text ≡ folded_char (first_pair_char text) ++ folded (drop 2 text)
unfolding folded
folded_pair [] long pair = absurd (omega arith)
folded_pair (unit ∷ []) long pair = absurd (omega arith)
folded_pair (unit ∷ next ∷ text) long pair = rw pair refl

folded_lone : (text : List ℕ) → 0 < length text → begins_with_pair text ≡ false → folded text ≡ folded_unit (slice_index text 0) ++ folded (drop 1 text)
unfolding folded
folded_lone [] some apart = absurd (omega arith)
folded_lone (unit ∷ []) some apart = sym (append-nil (folded_unit unit))
folded_lone (unit ∷ next ∷ text) some apart = rw apart refl

module _ (text old new : List ℕ) where
  -- the fold goes on after a pair, and after any other unit
  pub after_pair : 2 ≤ length text → begins_with_pair text ≡ true → new ≡ old ++ folded_char (first_pair_char text) → new ++ folded (take (length text - 2) (drop 2 text)) ≡ old ++ folded text
  after_pair long pair made =
      ap (λ rest. new ++ folded rest) (rest_of 2 text) ∙ ap (λ units. units ++ folded (drop 2 text)) made
      ∙ append_assoc old _ _ ∙ ap (λ units. old ++ units) (sym (folded_pair text long pair))

  pub after_lone : 0 < length text → begins_with_pair text ≡ false → new ≡ old ++ folded_unit (slice_index text 0) → new ++ folded (take (length text - 1) (drop 1 text)) ≡ old ++ folded text
  after_lone some apart made =
      ap (λ rest. new ++ folded rest) (rest_of 1 text) ∙ ap (λ units. units ++ folded (drop 1 text)) made
      ∙ append_assoc old _ _ ∙ ap (λ units. old ++ units) (sym (folded_lone text some apart))

-- a unit of ASCII
fold_of_ascii : (unit : ℕ) → unit < 128 → folded_unit unit ≡ to_ascii_lowercase unit ∷ []
fold_of_ascii unit h =
    let low : nat_le 0xD800 unit ≡ false = grind (arith, nat_tests) in
    let short : nat_lt (to_ascii_lowercase unit) 0x1_0000 ≡ true = grind (arith, nat_tests) in
    rw (low, default_case_fold-ascii (unit ∷ []) (all_one unit h), short) refl

no_high : (unit : ℕ) → unit < 128 → is_high_surrogate unit ≡ false
no_high unit h = grind (arith, nat_tests)

apart : (text : List ℕ) → slice_index text 0 < 128 → begins_with_pair text ≡ false
apart text h = rw (no_high (slice_index text 0) h) refl

-- the fold goes on after a unit of ASCII
pub after_ascii : (text old new : List ℕ) → 0 < length text → slice_index text 0 < 128 → new ≡ old ++ to_ascii_lowercase (slice_index text 0) ∷ [] → new ++ folded (take (length text - 1) (drop 1 text)) ≡ old ++ folded text
after_ascii text old new some h made =
    after_lone text old new some (apart text h) (made ∙ ap (λ units. old ++ units) (sym (fold_of_ascii (slice_index text 0) h)))

-- what an optional character says of its test
pub some_where : (b : Bool) (x y : ℕ) → Some y ≡ (if b then Some x else None) → (b ≡ true) × (y ≡ x)
some_where true x y is = (refl, cc)
some_where false x y is = cc

pub none_where : (b : Bool) (x : ℕ) → None ≡ (if b then Some x else None) → b ≡ false
none_where true x is = cc
none_where false x is = refl
