-- Sources: UTF-8 with an optional byte order mark, or else Windows-1252.
use Rattle.std.specs.Prelude.{ℕ, ◌-◌, ◌&&◌, List, [], ◌∷◌, map, flat_map, drop, nat_le, nat_lt, nat_eq, slice_index, if◌then◌else◌}
use Rattle.std.specs.List.{starts_with}
use Rattle.std.specs.Str.{chars, is_utf8}
use Rattle.std.specs.Char.Escape.{encode_utf16}

-- the characters of the bytes 80 to 9F in Windows-1252; 81, 8D, 8F, 90 and 9D are the controls of the same number
abbrev pub windows_1252_from_80 : List ℕ
windows_1252_from_80 =
    0x20AC ∷ 0x0081 ∷ 0x201A ∷ 0x0192 ∷ 0x201E ∷ 0x2026 ∷ 0x2020 ∷ 0x2021
    ∷ 0x02C6 ∷ 0x2030 ∷ 0x0160 ∷ 0x2039 ∷ 0x0152 ∷ 0x008D ∷ 0x017D ∷ 0x008F
    ∷ 0x0090 ∷ 0x2018 ∷ 0x2019 ∷ 0x201C ∷ 0x201D ∷ 0x2022 ∷ 0x2013 ∷ 0x2014
    ∷ 0x02DC ∷ 0x2122 ∷ 0x0161 ∷ 0x203A ∷ 0x0153 ∷ 0x009D ∷ 0x017E ∷ 0x0178 ∷ []

-- the character of a byte in Windows-1252
abbrev pub windows_1252 : ℕ → ℕ
windows_1252 byte = if nat_le 0x80 byte && nat_lt byte 0xA0 then slice_index windows_1252_from_80 (byte - 0x80) else byte

-- the byte order mark in UTF-8
abbrev pub byte_order_mark : List ℕ
byte_order_mark = 0xEF ∷ 0xBB ∷ 0xBF ∷ []

-- the bytes without a byte order mark before them
abbrev pub without_mark : List ℕ → List ℕ
without_mark bytes = if starts_with nat_eq bytes byte_order_mark then drop 3 bytes else bytes

-- the characters of a source; the bytes that aren't UTF-8 are Windows-1252 as a whole
abbrev pub source_characters : List ℕ → List ℕ
source_characters bytes = if is_utf8 (without_mark bytes) then chars (without_mark bytes) else map windows_1252 bytes

-- the text of a source: the units of its characters
unfoldable pub decoded : List ℕ → List ℕ
decoded bytes = flat_map encode_utf16 (source_characters bytes)
