-- Texts without regard to case: by default full case folding, with lone surrogates unchanged.
use Rattle.std.specs.Prelude.{ℕ, ◌&&◌, List, [], ◌∷◌, ◌++◌, nat_le, nat_lt, flat_map, if◌then◌else◌}
use Rattle.std.specs.Char.Escape.{encode_utf16}
use Rattle.std.specs.Char.Utf16.{is_high_surrogate, is_low_surrogate, surrogate_pair_char}
use Rattle.caseless.specs.Caseless.{default_case_fold}

-- the units of a character's case fold
abbrev pub folded_char : ℕ → List ℕ
folded_char character = flat_map encode_utf16 (default_case_fold (character ∷ []))

-- the units of the case fold of a unit that is in no pair; a surrogate stays as it is
abbrev pub folded_unit : ℕ → List ℕ
folded_unit unit = if nat_le 0xD800 unit && nat_lt unit 0xE000 then unit ∷ [] else folded_char unit

-- the units of a text's case fold
unfoldable pub folded : List ℕ → List ℕ
folded [] = []
folded (unit ∷ []) = folded_unit unit
folded (unit ∷ next ∷ text) =
    if is_high_surrogate unit && is_low_surrogate next then folded_char (surrogate_pair_char unit next) ++ folded text
    else folded_unit unit ++ folded (next ∷ text)
