-- The bytes of a text.
use Rattle.std.proofs.Common.{◌≡◌, ◌==◌, ◌||◌, ◌&&◌, ◌++◌, ◌+◌, ◌/◌, ◌%◌, ◌≤◌, ℕ, Bool, true, false, List, [], ◌∷◌, map, nat_le, nat_lt, drop, unwrap_or, get_or, encode_utf8_all, refl, sym, ap, ap₂, ◌∙◌, inl, inr, arith}
use Rattle.std.specs.List.{list_any}
use Rattle.std.specs.Char.{encode_utf8}
use Rattle.std.specs.Char.Utf16.{is_high_surrogate, is_low_surrogate, lone_unit_char, surrogate_pair_char}
use Rattle.std.proofs.lemmas.Bool.{cases_Bool, leb-true, ltb-true, ltb-false, ne_eqb, and_parts}
use Rattle.std.proofs.lemmas.Bool.Decides.{nat_tests}
use Rattle.std.proofs.lemmas.List.Folds.{list_any-append}
use Rattle.std.proofs.lemmas.Str.{utf16_chars-nil, utf16_chars_lone, utf16_chars_pair}
use Rattle.std.proofs.str.Utf16.{IsPair}
use Rattle.csv.specs.Writing.{default_writer, escaped, field_text, needs_byte}
use Rattle.csv.proofs.WriteFacts.{escaped-none}
use Rattle.vba_base.specs.Text.{encoded}

-- a test that no byte past ASCII passes
abbrev pub IsOfAscii : (ℕ → Bool) → Type 0
IsOfAscii test = (byte : ℕ) → 128 ≤ byte → test byte ≡ false

or_false : (b : Bool) → (b || false) ≡ b
or_false true = refl
or_false false = refl

-- the bytes of a character pass such a test exactly where the character does
any_of_character : (test : ℕ → Bool) (character : ℕ) → IsOfAscii test → list_any test (encode_utf8 character) ≡ test character
unfolding lib.Utf8.encode
any_of_character test c ascii = elim (cases_Bool (nat_lt c 128)) [
  | inl one ↦ rw one (or_false (test c))
  | inr past ↦
      let none = ascii c (ltb-false c 128 past) in
      elim (cases_Bool (nat_lt c 2048)) [
        | inl two ↦ rw (past, two, none, ascii (192 + c / 64) (omega arith), ascii (128 + c % 64) (omega arith)) refl
        | inr more ↦ elim (cases_Bool (nat_lt c 65536)) [
          | inl three ↦ rw (past, more, three, none, ascii (224 + c / 4096) (omega arith), ascii (128 + c / 64 % 64) (omega arith), ascii (128 + c % 64) (omega arith)) refl
          | inr four ↦
              rw (past, more, four, none, ascii (240 + c / 262144) (omega arith), ascii (128 + c / 4096 % 64) (omega arith), ascii (128 + c / 64 % 64) (omega arith), ascii (128 + c % 64) (omega arith)) refl
        ]
      ]
]

-- so does the unit that the character was made of, and of a pair no unit does
any_of_unit : (test : ℕ → Bool) (unit : ℕ) → IsOfAscii test → test (unwrap_or (lone_unit_char unit) 0xFFFD) ≡ test unit
any_of_unit test unit ascii = elim (cases_Bool (nat_le 0xD800 unit && nat_lt unit 0xE000)) [
  | inl surrogate ↦
      let past = leb-true 0xD800 unit (and_parts _ _ surrogate).0 in
      rw (surrogate, ascii 0xFFFD (omega arith)) (sym (ascii unit (omega arith)))
  | inr other ↦ rw other refl
]

any_of_pair : (test : ℕ → Bool) (high low : ℕ) (rest : Bool) → IsOfAscii test → IsPair high low
    → (test (surrogate_pair_char high low) || rest) ≡ (test high || (test low || rest))
any_of_pair test high low rest ascii pair =
    rw (ascii (surrogate_pair_char high low) (omega arith), ascii high (omega (arith, pair.0)), ascii low (omega (arith, pair.2))) refl

-- the bytes of a text begin with those of its first character
encoded_pair : (high low : ℕ) (behind : List ℕ) → IsPair high low → encoded (high ∷ low ∷ behind) ≡ encode_utf8 (surrogate_pair_char high low) ++ encoded behind
encoded_pair high low behind pair = ap (λ characters. encode_utf8_all (map (λ o. unwrap_or o 0xFFFD) characters)) (utf16_chars_pair high low behind pair)

encoded_unit : (unit : ℕ) (behind : List ℕ) → (IsPair unit (get_or behind 0 0) → ⊥) → encoded (unit ∷ behind) ≡ encode_utf8 (unwrap_or (lone_unit_char unit) 0xFFFD) ++ encoded behind
encoded_unit unit behind apart = ap (λ characters. encode_utf8_all (map (λ o. unwrap_or o 0xFFFD) characters)) (utf16_chars_lone unit behind apart)

pub encoded_none : encoded [] ≡ []
encoded_none = ap (λ characters. encode_utf8_all (map (λ o. unwrap_or o 0xFFFD) characters)) utf16_chars-nil

-- the units are a pair where the tests say so
pub pair_of_tests : (high low : ℕ) → (is_high_surrogate high && is_low_surrogate low) ≡ true → IsPair high low
pair_of_tests high low is =
    let (first, second) = and_parts _ _ is in
    let (a, b) = and_parts _ _ first in
    let (c, d) = and_parts _ _ second in
    (leb-true _ _ a, ltb-true _ _ b, leb-true _ _ c, ltb-true _ _ d)

no_pair : (high low : ℕ) → (is_high_surrogate high && is_low_surrogate low) ≡ false → IsPair high low → ⊥
no_pair high low isnt pair = grind (arith, nat_tests, isnt, pair.0, pair.1, pair.2, pair.3)

pub first_of_pair : (high low : ℕ) (behind : List ℕ) → (is_high_surrogate high && is_low_surrogate low) ≡ true → low ≡ get_or behind 0 0
    → encoded (high ∷ behind) ≡ encode_utf8 (surrogate_pair_char high low) ++ encoded (drop 1 behind)
first_of_pair high low [] is next = absurd (omega (arith, next, (pair_of_tests high low is).2))
first_of_pair high low (unit ∷ behind) is next =
    rw next (encoded_pair high unit behind (pair_of_tests high unit (rw next at is)))

pub first_of_unit : (unit next : ℕ) (behind : List ℕ) → (is_high_surrogate unit && is_low_surrogate next) ≡ false → next ≡ get_or behind 0 0
    → encoded (unit ∷ behind) ≡ encode_utf8 (unwrap_or (lone_unit_char unit) 0xFFFD) ++ encoded behind
first_of_unit unit next behind isnt is = encoded_unit unit behind (no_pair unit (get_or behind 0 0) (rw is at isnt))

any_of_first : (test : ℕ → Bool) (unit : ℕ) (behind : List ℕ) → IsOfAscii test → (IsPair unit (get_or behind 0 0) → ⊥)
    → list_any test (encoded behind) ≡ list_any test behind → list_any test (encoded (unit ∷ behind)) ≡ list_any test (unit ∷ behind)
any_of_first test unit behind ascii apart later =
    ap (list_any test) (encoded_unit unit behind apart)
    ∙ list_any-append test (encode_utf8 (unwrap_or (lone_unit_char unit) 0xFFFD)) (encoded behind)
    ∙ ap₂ ◌||◌ (any_of_character test (unwrap_or (lone_unit_char unit) 0xFFFD) ascii ∙ any_of_unit test unit ascii) later

-- the bytes of a text pass a test of ASCII exactly where its units do
any_encoded : (test : ℕ → Bool) (text : List ℕ) → IsOfAscii test → list_any test (encoded text) ≡ list_any test text
any_encoded test [] ascii = ap (list_any test) encoded_none
any_encoded test (unit ∷ []) ascii = any_of_first test unit [] ascii (λ pair. omega (arith, pair.2)) (any_encoded test [] ascii)
any_encoded test (high ∷ low ∷ text) ascii = elim (cases_Bool (is_high_surrogate high && is_low_surrogate low)) [
  | inr isnt ↦ any_of_first test high (low ∷ text) ascii (no_pair high low isnt) (any_encoded test (low ∷ text) ascii)
  | inl is ↦
      let pair = pair_of_tests high low is in
      ap (list_any test) (encoded_pair high low text pair)
      ∙ list_any-append test (encode_utf8 (surrogate_pair_char high low)) (encoded text)
      ∙ ap₂ ◌||◌ (any_of_character test (surrogate_pair_char high low) ascii) (any_encoded test text ascii)
      ∙ any_of_pair test high low (list_any test text) ascii pair
]

needs_past_ascii : IsOfAscii (needs_byte default_writer)
needs_past_ascii byte past =
    rw (ne_eqb byte 44 (λ is. omega (arith, is)), ne_eqb byte 34 (λ is. omega (arith, is)), ne_eqb byte 13 (λ is. omega (arith, is)), ne_eqb byte 10 (λ is. omega (arith, is))) refl

-- a text needs quotes where one of its units does
pub needs_of_text : (text : List ℕ) → list_any (needs_byte default_writer) (encoded text) ≡ list_any (needs_byte default_writer) text
needs_of_text text = any_encoded (needs_byte default_writer) text needs_past_ascii

-- a quote is written twice, and every other character as it is
pub quote_written : (character : ℕ) → character ≡ 34 → escaped default_writer (encode_utf8 character) ≡ 34 ∷ 34 ∷ []
unfolding escaped lib.Utf8.encode
quote_written character is = ap (λ c. escaped default_writer (encode_utf8 c)) is

pub other_written : (character : ℕ) → (character ≡ 34 → ⊥) → escaped default_writer (encode_utf8 character) ≡ encode_utf8 character
other_written character isnt =
    escaped-none default_writer (encode_utf8 character)
    (any_of_character (λ byte. byte == 34) character (λ byte past. ne_eqb byte 34 (λ is. omega (arith, is))) ∙ ne_eqb character 34 isnt)

no_needs : (byte : ℕ) → needs_byte default_writer byte ≡ false → (byte == 34) ≡ false
no_needs byte none = ne_eqb byte 34 (λ is. cc (rw is at none))

or_parts : (a b : Bool) → (a || b) ≡ false → (a ≡ false) × (b ≡ false)
or_parts false b none = (refl, none)
or_parts true b none = cc none

no_quote : (bytes : List ℕ) → list_any (needs_byte default_writer) bytes ≡ false → list_any (λ byte. byte == 34) bytes ≡ false
no_quote [] none = refl
no_quote (byte ∷ bytes) none =
    let (first, later) = or_parts _ _ none in
    ap₂ ◌||◌ (no_needs byte first) (no_quote bytes later)

-- a text that needs no quotes has none to be doubled
pub plain_field : (bytes : List ℕ) → list_any (needs_byte default_writer) bytes ≡ false → field_text default_writer bytes ≡ escaped default_writer bytes
plain_field bytes none = rw none (sym (escaped-none default_writer bytes (no_quote bytes none)))
