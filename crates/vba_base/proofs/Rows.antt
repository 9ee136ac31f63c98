-- Definitions, checked on rows that are written out.
use Rattle.std.specs.Prelude.{◌≡◌, ℕ, ◌-◌, ◌^◌, [], ◌∷◌, true, false, Some, None, Ok, Err, refl}
use Rattle.vba_base.specs.declared.outside.ReadAnswer.TheVariants as read
use Rattle.vba_base.specs.declared.outside.WriteAnswer.TheVariants as write
use Rattle.std.specs.Char.Utf16.{utf16_chars}
use lib.Utf8.{encode}
use Rattle.vba_base.specs.Causes.{up, IsPrefix}
use Rattle.std.specs.Str.{chars, is_utf8}
use Rattle.vba_base.specs.Decode.{decoded}
use Rattle.caseless.proofs.Computing.{caseless}
use Rattle.vba_base.specs.Fold.{folded}
use Rattle.vba_base.specs.Text.{encoded}
use Rattle.vba_base.specs.Memory.{are_different, no_counts, call_number, counted_read, read_of, next_most, taken_of}

-- a count stays at the greatest u64
up_stays : up (2 ^ 64 - 1) ≡ 2 ^ 64 - 1
up_stays = refl

-- the call after one read that failed has the number 2
second_call : call_number (counted_read {X = ℕ} no_counts (Err read.Failed)) ≡ 2
second_call = refl

-- two bytes at the limit of two, and at the limit of one
at_limit : read_of (Some (7 ∷ 8 ∷ [])) 2 ≡ Ok (7 ∷ 8 ∷ [])
at_limit = refl

past_limit : read_of (Some (7 ∷ 8 ∷ [])) 1 ≡ Err read.TooLong
past_limit = refl

not_held : read_of None 1 ≡ Err read.Failed
not_held = refl

-- the second put fails after one byte
second_put : next_most (record { taken = []; puts = 1; faults = 0; fails = (2, 1) ∷ [] }) ≡ Some 1
second_put = refl

first_put : next_most (record { taken = []; puts = 0; faults = 0; fails = (2, 1) ∷ [] }) ≡ None
first_put = refl

one_byte : taken_of {X = ℕ} (7 ∷ 8 ∷ []) (Some 1) (Err write.Failed) ≡ 7 ∷ []
one_byte = refl

different : are_different ((97 ∷ []) ∷ (98 ∷ []) ∷ []) ≡ true
different = refl

twice : are_different ((97 ∷ []) ∷ (98 ∷ []) ∷ (97 ∷ []) ∷ []) ≡ false
twice = refl

prefix : IsPrefix (7 ∷ []) (7 ∷ 8 ∷ [])
prefix = refl

-- A, a lone surrogate, and a pair
encoded_row : encoded (65 ∷ 0xd800 ∷ 0xd83d ∷ 0xde00 ∷ []) ≡ 0x41 ∷ 0xef ∷ 0xbf ∷ 0xbd ∷ 0xf0 ∷ 0x9f ∷ 0x98 ∷ 0x80 ∷ []
unfolding utf16_chars encode
encoded_row = refl

-- ASCII, as it is
decoded_ascii_row : decoded (65 ∷ 10 ∷ []) ≡ 65 ∷ 10 ∷ []
unfolding decoded is_utf8 chars encode
decoded_ascii_row = refl

-- a lone E9 isn't UTF-8, nor is caf before it
decoded_latin_row : decoded (0xe9 ∷ []) ≡ 0xe9 ∷ []
unfolding decoded is_utf8 chars encode
decoded_latin_row = refl

-- the Euro sign, and a control
decoded_euro_row : decoded (0x80 ∷ 0x81 ∷ []) ≡ 0x20ac ∷ 0x81 ∷ []
unfolding decoded is_utf8 chars encode
decoded_euro_row = refl

-- a byte order mark is dropped, but not from bytes that aren't UTF-8
decoded_mark_row : decoded (0xef ∷ 0xbb ∷ 0xbf ∷ 65 ∷ []) ≡ 65 ∷ []
unfolding decoded is_utf8 chars encode
decoded_mark_row = refl

decoded_latin_mark_row : decoded (0xef ∷ 0xbb ∷ 0xbf ∷ 0xe9 ∷ []) ≡ 0xef ∷ 0xbb ∷ 0xbf ∷ 0xe9 ∷ []
unfolding decoded is_utf8 chars encode
decoded_latin_mark_row = refl

-- a character past the first plane is a pair
decoded_pair_row : decoded (0xf0 ∷ 0x9f ∷ 0x98 ∷ 0x80 ∷ []) ≡ 0xd83d ∷ 0xde00 ∷ []
unfolding decoded is_utf8 chars encode
decoded_pair_row = refl

-- STRASSE and straße fold alike
folded_sharp_row : folded (0x73 ∷ 0x74 ∷ 0x72 ∷ 0x61 ∷ 0xdf ∷ 0x65 ∷ []) ≡ folded (0x53 ∷ 0x54 ∷ 0x52 ∷ 0x41 ∷ 0x53 ∷ 0x53 ∷ 0x45 ∷ [])
unfolding folded caseless
folded_sharp_row = refl

-- sub with a long s
folded_long_row : folded (0x17f ∷ 0x75 ∷ 0x62 ∷ []) ≡ 0x73 ∷ 0x75 ∷ 0x62 ∷ []
unfolding folded caseless
folded_long_row = refl

-- lone surrogates stay, and a pair folds as its character
folded_lone_row : folded (0xd801 ∷ 0x41 ∷ 0xdc00 ∷ []) ≡ 0xd801 ∷ 0x61 ∷ 0xdc00 ∷ []
unfolding folded caseless
folded_lone_row = refl

folded_pair_row : folded (0xd801 ∷ 0xdc00 ∷ []) ≡ 0xd801 ∷ 0xdc28 ∷ []
unfolding folded caseless
folded_pair_row = refl
