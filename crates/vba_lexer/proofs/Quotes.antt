-- Texts: how long the longest text is that begins with a quote.
use Rattle.std.proofs.Common.{◌≡◌, ◌≢◌, ℕ, zero, suc, ◌+◌, ◌<◌, ◌≤◌, Bool, true, false, List, [], ◌∷◌, length, get_or, take, drop, refl, sym, ◌∙◌, ap, subst, arith, ◌⊎◌, inl, inr}
use Rattle.std.specs.Prelude.{if◌then◌else◌, ◌==◌, IsTrue}
use Rattle.std.proofs.lemmas.Bool.{both_ways, eqb-true, ne_eqb}
use Rattle.std.proofs.lemmas.List.{drop_all, drop_more}
use Rattle.vba_lexer.specs.Forms.{IsLongest}
use Rattle.vba_lexer.specs.Kinds.{is_quoted, is_behind_quote, is_text}
use Rattle.vba_lexer.specs.Scans.{begins_with}

-- one character more, where there is a slice at all
abbrev pub after_character : ℕ → ℕ
after_character zero = zero
after_character (suc size) = suc (suc size)

abbrev mutual
  -- how many characters behind an opening quote the longest text takes; 0 where no quote closes it
  pub quoted_size : List ℕ → ℕ
  quoted_size [] = 0
  quoted_size (character ∷ rest) =
      if character == 34 then suc (behind_size rest) else if character == 10 then 0 else after_character (quoted_size rest)

  -- how many characters the longest text takes behind a quote in it
  pub behind_size : List ℕ → ℕ
  behind_size [] = 0
  behind_size (character ∷ rest) = if character == 34 then after_character (quoted_size rest) else 0

-- these are the greatest sizes of what is quoted, and of what is behind a quote
pub record AreLongest (line : List ℕ) : Type 0 where
  pub quoted_at : 0 < quoted_size line → is_quoted (take (quoted_size line) line) ≡ true
  pub quoted_above : (size : ℕ) → quoted_size line < size → size ≤ length line → is_quoted (take size line) ≡ false
  pub behind_at : is_behind_quote (take (behind_size line) line) ≡ true
  pub behind_above : (size : ℕ) → behind_size line < size → size ≤ length line → is_behind_quote (take size line) ≡ false
  pub quoted_within : quoted_size line ≤ length line
  pub behind_within : behind_size line ≤ length line

-- what is quoted behind a character that is no quote
abbrev other_size : Bool → List ℕ → ℕ
other_size feed rest = if feed then 0 else after_character (quoted_size rest)

cons_quoted_at : (quote feed : Bool) (character : ℕ) (rest : List ℕ) → (character == 34) ≡ quote → (character == 10) ≡ feed → AreLongest rest
    → 0 < (if quote then suc (behind_size rest) else other_size feed rest)
    → is_quoted (take (if quote then suc (behind_size rest) else other_size feed rest) (character ∷ rest)) ≡ true
cons_quoted_at true feed character rest e f longest some = rw e longest.behind_at
cons_quoted_at false true character rest e f longest some = absurd (omega arith)
cons_quoted_at false false character rest e f longest some = at (quoted_size rest) refl some
  where
    at : (size : ℕ) → quoted_size rest ≡ size → 0 < after_character size → is_quoted (take (after_character size) (character ∷ rest)) ≡ true
    at zero same some = absurd (omega arith)
    at (suc size) same some = rw (e, f) (subst (λ (m : ℕ). is_quoted (take m rest) ≡ true) same (longest.quoted_at (omega arith)))

cons_quoted_above : (quote feed : Bool) (character : ℕ) (rest : List ℕ) (size : ℕ) → (character == 34) ≡ quote → (character == 10) ≡ feed → AreLongest rest
    → (if quote then suc (behind_size rest) else other_size feed rest) < suc size → size ≤ length rest
    → is_quoted (character ∷ take size rest) ≡ false
cons_quoted_above true feed character rest size e f longest above within = rw e (longest.behind_above size (omega arith) within)
cons_quoted_above false true character rest size e f longest above within = rw (e, f)
cons_quoted_above false false character rest size e f longest above within = rw (e, f) (at size (quoted_size rest) refl above within)
  where
    at : (size front : ℕ) → quoted_size rest ≡ front → after_character front < suc size → size ≤ length rest → is_quoted (take size rest) ≡ false
    at zero front same above within = refl
    at (suc size) zero same above within = longest.quoted_above (suc size) (omega arith) within
    at (suc size) (suc front) same above within = longest.quoted_above (suc size) (omega arith) within

cons_behind_at : (quote : Bool) (character : ℕ) (rest : List ℕ) → (character == 34) ≡ quote → AreLongest rest
    → is_behind_quote (take (if quote then after_character (quoted_size rest) else 0) (character ∷ rest)) ≡ true
cons_behind_at false character rest e longest = refl
cons_behind_at true character rest e longest = at (quoted_size rest) refl
  where
    at : (size : ℕ) → quoted_size rest ≡ size → is_behind_quote (take (after_character size) (character ∷ rest)) ≡ true
    at zero same = refl
    at (suc size) same = rw e (subst (λ (m : ℕ). is_quoted (take m rest) ≡ true) same (longest.quoted_at (omega arith)))

cons_behind_above : (quote : Bool) (character : ℕ) (rest : List ℕ) (size : ℕ) → (character == 34) ≡ quote → AreLongest rest
    → (if quote then after_character (quoted_size rest) else 0) < suc size → size ≤ length rest
    → is_behind_quote (character ∷ take size rest) ≡ false
cons_behind_above false character rest size e longest above within = rw e
cons_behind_above true character rest size e longest above within = rw e (at size (quoted_size rest) refl above within)
  where
    at : (size front : ℕ) → quoted_size rest ≡ front → after_character front < suc size → size ≤ length rest → is_quoted (take size rest) ≡ false
    at zero front same above within = refl
    at (suc size) zero same above within = longest.quoted_above (suc size) (omega arith) within
    at (suc size) (suc front) same above within = longest.quoted_above (suc size) (omega arith) within

after_character-le : (size bound : ℕ) → size ≤ bound → after_character size ≤ suc bound
after_character-le zero bound below = omega arith
after_character-le (suc size) bound below = omega arith

cons_quoted_within : (quote feed : Bool) (rest : List ℕ) → AreLongest rest
    → (if quote then suc (behind_size rest) else other_size feed rest) ≤ suc (length rest)
cons_quoted_within true feed rest longest = let w : behind_size rest ≤ length rest = longest.behind_within in omega arith
cons_quoted_within false true rest longest = omega arith
cons_quoted_within false false rest longest = after_character-le (quoted_size rest) (length rest) longest.quoted_within

cons_behind_within : (quote : Bool) (rest : List ℕ) → AreLongest rest → (if quote then after_character (quoted_size rest) else 0) ≤ suc (length rest)
cons_behind_within true rest longest = after_character-le (quoted_size rest) (length rest) longest.quoted_within
cons_behind_within false rest longest = omega arith

pub are_longest : (line : List ℕ) → AreLongest line
are_longest [] =
    record {
      quoted_at = λ some. absurd (omega arith);
      quoted_above = λ size above within. absurd (omega arith);
      behind_at = refl;
      behind_above = λ size above within. absurd (omega arith);
      quoted_within = omega arith;
      behind_within = omega arith;
    }
are_longest (character ∷ rest) =
    record {
      quoted_at = cons_quoted_at (character == 34) (character == 10) character rest refl refl (are_longest rest);
      quoted_above = quoted_above (are_longest rest);
      behind_at = cons_behind_at (character == 34) character rest refl (are_longest rest);
      behind_above = behind_above (are_longest rest);
      quoted_within = cons_quoted_within (character == 34) (character == 10) rest (are_longest rest);
      behind_within = cons_behind_within (character == 34) rest (are_longest rest);
    }
  where
    quoted_above : AreLongest rest → (size : ℕ) → quoted_size (character ∷ rest) < size → size ≤ length (character ∷ rest)
        → is_quoted (take size (character ∷ rest)) ≡ false
    quoted_above longest zero above within = refl
    quoted_above longest (suc size) above within =
        cons_quoted_above (character == 34) (character == 10) character rest size refl refl longest above (omega arith)

    behind_above : AreLongest rest → (size : ℕ) → behind_size (character ∷ rest) < size → size ≤ length (character ∷ rest)
        → is_behind_quote (take size (character ∷ rest)) ≡ false
    behind_above longest zero above within = absurd (omega arith)
    behind_above longest (suc size) above within = cons_behind_above (character == 34) character rest size refl longest above (omega arith)

-- the size so far, or that of the text that goes on behind so many characters of the line
abbrev pub text_behind : ℕ → ℕ → ℕ → ℕ
text_behind longest place zero = longest
text_behind longest place (suc size) = place + suc size

-- the longest text of a line that begins with a quote
text_longest : (rest : List ℕ) → IsLongest (λ slice after. is_text slice) (34 ∷ rest) (text_behind 0 1 (quoted_size rest))
text_longest rest = at (quoted_size rest) refl
  where
    longest : AreLongest rest
    longest = are_longest rest

    none_above : (longer : ℕ) → 0 < longer → suc (quoted_size rest) < longer ⊎ (quoted_size rest ≡ 0) → longer ≤ suc (length rest)
        → is_text (take longer (34 ∷ rest)) ≡ false
    none_above zero some above within = absurd (omega arith)
    none_above (suc zero) some above within = refl
    none_above (suc (suc size)) some above within = longest.quoted_above (suc size) (omega arith) (omega arith)

    at : (size : ℕ) → quoted_size rest ≡ size → IsLongest (λ slice after. is_text slice) (34 ∷ rest) (text_behind 0 1 size)
    at zero same =
        record { passes = λ some. absurd (omega arith); within = omega arith; longest = λ longer above within. none_above longer above (inr same) within }
    at (suc size) same =
        let quoted : is_quoted (take (suc size) rest) ≡ true = subst (λ (m : ℕ). is_quoted (take m rest) ≡ true) same (longest.quoted_at (omega arith)) in
        let within : quoted_size rest ≤ length rest = longest.quoted_within in
        let found : IsLongest (λ slice after. is_text slice) (34 ∷ rest) (suc (suc size)) =
        record {
          passes = λ some. quoted;
          within = omega arith;
          longest = λ longer above within. none_above longer (omega arith) (inl (omega arith)) within;
        } in
        subst (λ (m : ℕ). IsLongest (λ slice after. is_text slice) (34 ∷ rest) m) (let e : suc (suc size) ≡ 1 + suc size = omega arith in e) found

pub text_of : (line : List ℕ) (size : ℕ) → IsTrue (begins_with (λ character. character == 34) line)
    → text_behind 0 1 (quoted_size (drop 1 line)) ≡ size → IsLongest (λ slice after. is_text slice) line size
text_of [] size begins same = absurd (both_ways _ refl begins)
text_of (first ∷ rest) size begins same =
    let e : 34 ≡ first = sym (eqb-true first 34 begins) in
    subst (λ (m : ℕ). IsLongest (λ slice after. is_text slice) (first ∷ rest) m) same
    (subst (λ (character : ℕ). IsLongest (λ slice after. is_text slice) (character ∷ rest) (text_behind 0 1 (quoted_size rest))) e (text_longest rest))

-- no text begins with another character, or with none
pub no_text-other : (line : List ℕ) → begins_with (λ character. character == 34) line ≡ false → IsLongest (λ slice after. is_text slice) line 0
no_text-other line other =
    record { passes = λ some. absurd (omega arith); within = omega arith; longest = λ longer above within. none longer line other }
  where
    none : (longer : ℕ) (line : List ℕ) → begins_with (λ character. character == 34) line ≡ false → is_text (take longer line) ≡ false
    none zero line other = refl
    none (suc longer) [] other = refl
    none (suc longer) (character ∷ line) other = rw other

-- the steps of the scanning of a text

-- a quote that closes
text_behind_close : (longest place : ℕ) (rest : List ℕ) → begins_with (λ character. character == 34) rest ≡ false
    → text_behind longest place (quoted_size (34 ∷ rest)) ≡ place + 1
text_behind_close longest place [] single = refl
text_behind_close longest place (character ∷ rest) single = rw single

pub text_behind_end : (longest place : ℕ) (line : List ℕ) → length line ≤ place → text_behind longest place (quoted_size (drop place line)) ≡ longest
text_behind_end longest place line past = rw (drop_all place line past)

-- a line end
pub text_behind_feed : (longest place : ℕ) (line : List ℕ) → place < length line → get_or line place 0 ≡ 10
    → text_behind longest place (quoted_size (drop place line)) ≡ longest
text_behind_feed longest place line inside feed =
    let e : drop place line ≡ 10 ∷ drop (place + 1) line =
    drop_more line place 0 inside ∙ ap (λ (character : ℕ). character ∷ drop (place + 1) line) feed in
    rw e

pub single_at_end : (place : ℕ) (line : List ℕ) → place + 1 ≡ length line → begins_with (λ character. character == 34) (drop (place + 1) line) ≡ false
single_at_end place line last = rw (drop_all (place + 1) line (omega arith))

pub single_before : (place : ℕ) (line : List ℕ) → place + 1 < length line → get_or line (place + 1) 0 ≢ 34
    → begins_with (λ character. character == 34) (drop (place + 1) line) ≡ false
single_before place line inside other = rw (drop_more line (place + 1) 0 inside) (ne_eqb (get_or line (place + 1) 0) 34 other)

pub text_closes : (longest place : ℕ) (line : List ℕ) → place < length line → get_or line place 0 ≡ 34
    → begins_with (λ character. character == 34) (drop (place + 1) line) ≡ false
    → text_behind longest place (quoted_size (drop place line)) ≡ place + 1
text_closes longest place line inside quote single =
    let e : drop place line ≡ 34 ∷ drop (place + 1) line =
    drop_more line place 0 inside ∙ ap (λ (character : ℕ). character ∷ drop (place + 1) line) quote in
    rw e (text_behind_close longest place (drop (place + 1) line) single)
