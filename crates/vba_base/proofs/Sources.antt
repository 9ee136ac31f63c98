-- What callers need of the texts of sources.
use Rattle.std.proofs.Common.{◌≡◌, ℕ, zero, suc, ◌+◌, ◌-◌, ◌/◌, ◌%◌, ◌<◌, ◌≤◌, Bool, true, false, cond, not, ◌&&◌, List, [], ◌∷◌, ◌++◌, map, flat_map, length, drop, length-append, length-drop, encode_utf8, encode_utf8_all, Some, is_some, slice_index, chars, IsAscii, IsUtf8, nat_lt, nat_le, nat_eq, refl, sym, subst, ap, ap₂, ◌∙◌, arith, ◌⊎◌, ⊎_elim, inl, inr}
use Rattle.std.specs.List.{list_any, list_all, starts_with}
use Rattle.std.specs.Str.{is_utf8, all_scalars}
use Rattle.std.specs.Char.{IsScalar, len_utf8}
use Rattle.std.specs.Char.Escape.{encode_utf16}
use Rattle.std.specs.Char.Utf16.{utf16_chars, surrogate_pair_char, has_unpaired_surrogate}
use Rattle.std.proofs.str.Utf16.{IsPair, one_unit, two_units, lone_unit_char_low, lone_unit_char_high}
use Rattle.std.proofs.lemmas.Str.{utf16_chars-nil, utf16_chars_lone, utf16_chars_pair, IsUtf8-from_is_utf8, is_utf8-from_IsUtf8, IsUtf8-from_ascii, chars-IsAscii, scalars-chars, encodes-chars, length-encode, len_utf8_bounds}
use Rattle.std.proofs.lemmas.Bool.{and_parts}
use borrow.Author.Tests.{ltb-true, ltb-false, le-ltb, ne_eqb}
use lib.Utf8.{scalar_cases, low_scalar}
use Rattle.vba_base.specs.Decode.{decoded, source_characters, windows_1252, windows_1252_from_80, without_mark, byte_order_mark}

-- ---- no lone surrogate

-- each number is a byte
abbrev pub AreBytes : List ℕ → Type 0
AreBytes bytes = (i : ℕ) → slice_index bytes i < 256

surrogates_of : (c : ℕ) (us : List ℕ) → 0x1_0000 ≤ c → c < 1114112 → utf16_chars (encode_utf16 c ++ us) ≡ Some c ∷ utf16_chars us
surrogates_of c us wide below =
    let pair : IsPair (0xD800 + (c - 0x1_0000) / 0x400) (0xDC00 + (c - 0x1_0000) % 0x400) = (omega arith, omega arith, omega arith, omega arith) in
    let same : surrogate_pair_char (0xD800 + (c - 0x1_0000) / 0x400) (0xDC00 + (c - 0x1_0000) % 0x400) ≡ c = omega arith in
    ap (λ units. utf16_chars (units ++ us)) (two_units c wide) ∙ utf16_chars_pair _ _ us pair ∙ ap (λ character. Some character ∷ utf16_chars us) same

unit_of : (c : ℕ) (us : List ℕ) → (c < 55296) ⊎ ((57344 ≤ c) × (c < 0x1_0000)) → utf16_chars (encode_utf16 c ++ us) ≡ Some c ∷ utf16_chars us
unit_of c us (inl low) =
    ap (λ units. utf16_chars (units ++ us)) (one_unit c (omega arith)) ∙ utf16_chars_lone c us (λ pair. omega (arith, pair.0))
    ∙ ap (λ character. character ∷ utf16_chars us) (lone_unit_char_low c low)
unit_of c us (inr high) =
    ap (λ units. utf16_chars (units ++ us)) (one_unit c (omega (arith, high.1))) ∙ utf16_chars_lone c us (λ pair. omega (arith, pair.1, high.0))
    ∙ ap (λ character. character ∷ utf16_chars us) (lone_unit_char_high c high.0)

-- the units of a character spell it
char_of_units : (c : ℕ) (us : List ℕ) → IsScalar c → utf16_chars (encode_utf16 c ++ us) ≡ Some c ∷ utf16_chars us
char_of_units c us is = ⊎_elim
    (λ low. unit_of c us (inl low))
    (λ high. elim (nat_lt c 0x1_0000) as (λ b. nat_lt c 0x1_0000 ≡ b → utf16_chars (encode_utf16 c ++ us) ≡ Some c ∷ utf16_chars us) [
      | true ↦ λ e. unit_of c us (inr (high.0, ltb-true c 0x1_0000 e))
      | false ↦ λ e. surrogates_of c us (ltb-false c 0x1_0000 e) high.1
    ] refl)
    (scalar_cases c is)

-- the units of characters spell them
pub utf16_chars-units : (cs : List ℕ) → all_scalars cs ≡ true → utf16_chars (flat_map encode_utf16 cs) ≡ map Some cs
utf16_chars-units [] are = utf16_chars-nil
utf16_chars-units (c ∷ cs) are =
    let parts = and_parts _ _ are in
    char_of_units c (flat_map encode_utf16 cs) parts.0 ∙ ap (λ rest. Some c ∷ rest) (utf16_chars-units cs parts.1)

none_lone : (cs : List ℕ) → list_any (λ o. not (is_some o)) (map Some cs) ≡ false
none_lone [] = refl
none_lone (c ∷ cs) = none_lone cs

scalar_at : (cs : List ℕ) (i : ℕ) → all_scalars cs ≡ true → IsScalar (slice_index cs i)
scalar_at [] i are = refl
scalar_at (c ∷ cs) zero are = (and_parts _ _ are).0
scalar_at (c ∷ cs) (suc i) are = scalar_at cs i (and_parts _ _ are).1

scalar-windows_1252 : (byte : ℕ) → byte < 256 → IsScalar (windows_1252 byte)
scalar-windows_1252 byte below =
    elim (nat_le 0x80 byte && nat_lt byte 0xA0) as (λ b. IsScalar (cond b (slice_index windows_1252_from_80 (byte - 0x80)) byte)) [
      | true ↦ scalar_at windows_1252_from_80 (byte - 0x80) refl
      | false ↦ low_scalar byte (omega arith)
    ]

scalars-windows_1252 : (bytes : List ℕ) → AreBytes bytes → all_scalars (map windows_1252 bytes) ≡ true
scalars-windows_1252 [] below = refl
scalars-windows_1252 (byte ∷ bytes) below =
    let first = scalar-windows_1252 byte (below zero) in
    let others = scalars-windows_1252 bytes (λ i. below (suc i)) in
    λ i. first i && others i

-- a source gives characters
scalars-source : (bytes : List ℕ) → AreBytes bytes → all_scalars (source_characters bytes) ≡ true
scalars-source bytes below =
    elim (is_utf8 (without_mark bytes)) as (λ b. is_utf8 (without_mark bytes) ≡ b → all_scalars (cond b (chars (without_mark bytes)) (map windows_1252 bytes)) ≡ true) [
      | true ↦ λ e. scalars-chars _ (IsUtf8-from_is_utf8 _ e)
      | false ↦ λ _. scalars-windows_1252 bytes below
    ] refl

-- the text of a source has no lone surrogate
pub decoded_paired : (bytes : List ℕ) → AreBytes bytes → has_unpaired_surrogate (decoded bytes) ≡ false
unfolding decoded
decoded_paired bytes below = ap (list_any (λ o. not (is_some o))) (utf16_chars-units (source_characters bytes) (scalars-source bytes below)) ∙ none_lone (source_characters bytes)

not-true : (b : Bool) → ¬ (b ≡ true) → b ≡ false
not-true true h = absurd (h refl)
not-true false h = refl

-- ---- the two forms of a source

pub decoded-utf8 : (bytes : List ℕ) → IsUtf8 (without_mark bytes) → decoded bytes ≡ flat_map encode_utf16 (chars (without_mark bytes))
unfolding decoded
decoded-utf8 bytes are = rw (is_utf8-from_IsUtf8 _ are) refl

pub decoded-windows_1252 : (bytes : List ℕ) → ¬ (IsUtf8 (without_mark bytes)) → decoded bytes ≡ flat_map encode_utf16 (map windows_1252 bytes)
unfolding decoded
decoded-windows_1252 bytes not_utf8 = rw (not-true _ (λ e. not_utf8 (IsUtf8-from_is_utf8 _ e))) refl

-- ---- ASCII

units_of_ascii : (bytes : List ℕ) → IsAscii bytes → flat_map encode_utf16 bytes ≡ bytes
units_of_ascii [] below = refl
units_of_ascii (byte ∷ bytes) below =
    let first : byte < 128 = below zero in
    ap₂ ◌++◌ (one_unit byte (omega arith)) (units_of_ascii bytes (λ i. below (suc i)))

no_mark : (bytes : List ℕ) → IsAscii bytes → without_mark bytes ≡ bytes
no_mark [] are = refl
no_mark (byte ∷ bytes) are = let first : byte < 128 = are zero in rw (ne_eqb 239 byte (λ same. omega (arith, same))) refl

-- ASCII gives itself
pub decoded-ascii : (bytes : List ℕ) → IsAscii bytes → decoded bytes ≡ bytes
decoded-ascii bytes are =
    let text = no_mark bytes are in
    decoded-utf8 bytes (subst IsUtf8 (sym text) (IsUtf8-from_ascii bytes are)) ∙ ap (λ bs. flat_map encode_utf16 (chars bs)) text
    ∙ ap (flat_map encode_utf16) (chars-IsAscii bytes are) ∙ units_of_ascii bytes are

-- ---- how long a text is

units_short : (c : ℕ) → length (encode_utf16 c) ≤ len_utf8 c
units_short c =
    elim (nat_lt c 0x1_0000) as (λ b. nat_lt c 0x1_0000 ≡ b → length (encode_utf16 c) ≤ len_utf8 c) [
      | true ↦ λ e. omega (arith, ap length (one_unit c (ltb-true c 0x1_0000 e)), len_utf8_bounds c)
      | false ↦ λ e.
          let wide = ltb-false c 0x1_0000 e in
          let four : len_utf8 c ≡ 4 = rw (le-ltb c 0x80 (omega arith), le-ltb c 0x800 (omega arith), e) refl in
          omega (arith, ap length (two_units c wide), four)
    ] refl

units_of_encodes : (cs : List ℕ) → length (flat_map encode_utf16 cs) ≤ length (encode_utf8_all cs)
units_of_encodes [] = omega arith
units_of_encodes (c ∷ cs) =
    omega (arith, length-append (encode_utf16 c) (flat_map encode_utf16 cs), length-append (encode_utf8 c) (encode_utf8_all cs), units_short c, length-encode c, units_of_encodes cs)

short_at : (cs : List ℕ) (i : ℕ) → list_all (λ c. nat_lt c 0x1_0000) cs ≡ true → slice_index cs i < 0x1_0000
short_at [] i are = omega arith
short_at (c ∷ cs) zero are = ltb-true c 0x1_0000 (and_parts _ _ are).0
short_at (c ∷ cs) (suc i) are = short_at cs i (and_parts _ _ are).1

windows_1252_short : (byte : ℕ) → byte < 256 → windows_1252 byte < 0x1_0000
windows_1252_short byte below =
    elim (nat_le 0x80 byte && nat_lt byte 0xA0) as (λ b. cond b (slice_index windows_1252_from_80 (byte - 0x80)) byte < 0x1_0000) [
      | true ↦ short_at windows_1252_from_80 (byte - 0x80) refl
      | false ↦ omega arith
    ]

units_of_bytes : (bytes : List ℕ) → AreBytes bytes → length (flat_map encode_utf16 (map windows_1252 bytes)) ≡ length bytes
units_of_bytes [] below = refl
units_of_bytes (byte ∷ bytes) below =
    let first = ap length (one_unit (windows_1252 byte) (windows_1252_short byte (below zero))) in
    omega (arith, length-append (encode_utf16 (windows_1252 byte)) (flat_map encode_utf16 (map windows_1252 bytes)), first, units_of_bytes bytes (λ i. below (suc i)))

length-without_mark : (bytes : List ℕ) → length (without_mark bytes) ≤ length bytes
length-without_mark bytes =
    elim (starts_with nat_eq bytes byte_order_mark) as (λ b. length (cond b (drop 3 bytes) bytes) ≤ length bytes) [
      | true ↦ omega (arith, length-drop 3 bytes)
      | false ↦ omega arith
    ]

-- a text has no more units than its source has bytes
pub length-decoded : (bytes : List ℕ) → AreBytes bytes → length (decoded bytes) ≤ length bytes
length-decoded bytes below =
    elim (is_utf8 (without_mark bytes)) as (λ b. is_utf8 (without_mark bytes) ≡ b → length (decoded bytes) ≤ length bytes) [
      | true ↦ λ e.
          let are = IsUtf8-from_is_utf8 _ e in
          omega (arith, ap length (decoded-utf8 bytes are), units_of_encodes (chars (without_mark bytes)), ap length (encodes-chars (without_mark bytes) are), length-without_mark bytes)
      | false ↦ λ e.
          let not_utf8 : ¬ (IsUtf8 (without_mark bytes)) = λ are. let is = is_utf8-from_IsUtf8 _ are in cc in
          omega (arith, ap length (decoded-windows_1252 bytes not_utf8), units_of_bytes bytes below)
    ] refl
