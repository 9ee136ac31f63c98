-- A text is a list of 16-bit units.
use Rattle.std.specs.Prelude.{ℕ, List, encode_utf8_all}
use Rattle.std.specs.Char.Utf16.{utf16_lossy_chars}

-- the text in UTF-8, with U+FFFD for a lone surrogate
abbrev pub encoded : List ℕ → List ℕ
encoded text = encode_utf8_all (utf16_lossy_chars text)
