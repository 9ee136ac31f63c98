-- Worked rows.
use Rattle.std.specs.Prelude.{◌≡◌, [], ◌∷◌, refl, codes, Ok, Err}
use Rattle.csv.proofs.OnLiterals.{csv_on_literals}
use Rattle.csv.specs.Writing.{escaped, fields_text, is_blank}
use Rattle.std.specs.Char.Utf16.{utf16_chars}
use Rattle.std.specs.Str.{is_utf8, chars}
use Rattle.csv_book.specs.declared.fault.BookFault.TheVariants.{NotUtf8}
use Rattle.csv_book.specs.Reading.{sheet_of, sheet_of_rows, rows_from}
use Rattle.csv_book.specs.Writing.{text_of_rows}

pub fields_and_rows : sheet_of (codes "id,price\n007,1.50\n") ≡ Ok (sheet_of_rows ((codes "id" ∷ codes "price" ∷ []) ∷ (codes "007" ∷ codes "1.50" ∷ []) ∷ []))
unfolding csv_on_literals rows_from is_utf8 chars lib.Utf8.encode
fields_and_rows = refl

pub not_utf8 : sheet_of (0x61 ∷ 0x0A ∷ 0xFF ∷ 0x0A ∷ []) ≡ Err (NotUtf8 2)
unfolding csv_on_literals rows_from is_utf8 chars lib.Utf8.encode
not_utf8 = refl

-- empty lines are no rows, a row may end in CR, CR LF or at the end of the file, and rows have any lengths
pub line_ends : sheet_of (codes "a\r\rb,c\r\n\r\n\nd") ≡ Ok (sheet_of_rows ((codes "a" ∷ []) ∷ (codes "b" ∷ codes "c" ∷ []) ∷ (codes "d" ∷ []) ∷ []))
unfolding csv_on_literals rows_from is_utf8 chars lib.Utf8.encode
line_ends = refl

-- quotes hold commas, line ends and doubled quotes; two of them alone are an empty field
pub quotes : sheet_of (codes "\"a,b\",\"say \"\"hi\"\"\"\n\"x\ny\"\n\"\"\n") ≡ Ok (sheet_of_rows ((codes "a,b" ∷ codes "say \"hi\"" ∷ []) ∷ (codes "x\ny" ∷ []) ∷ ([] ∷ []) ∷ []))
unfolding csv_on_literals rows_from is_utf8 chars lib.Utf8.encode
quotes = refl

-- one byte order mark is dropped; a second one begins the first field
pub marks : sheet_of (0xEF ∷ 0xBB ∷ 0xBF ∷ codes "a") ≡ Ok (sheet_of_rows ((codes "a" ∷ []) ∷ []))
unfolding csv_on_literals rows_from is_utf8 chars lib.Utf8.encode
marks = refl

pub two_marks : sheet_of (0xEF ∷ 0xBB ∷ 0xBF ∷ 0xEF ∷ 0xBB ∷ 0xBF ∷ codes "a") ≡ Ok (sheet_of_rows (((0xFEFF ∷ codes "a") ∷ []) ∷ []))
unfolding csv_on_literals rows_from is_utf8 chars lib.Utf8.encode
two_marks = refl

-- a character past FFFF is two units
pub wide_character : sheet_of (0xF0 ∷ 0x9F ∷ 0x98 ∷ 0x80 ∷ []) ≡ Ok (sheet_of_rows (((0xD83D ∷ 0xDE00 ∷ []) ∷ []) ∷ []))
unfolding csv_on_literals rows_from is_utf8 chars lib.Utf8.encode
wide_character = refl

pub no_rows : sheet_of (codes "\n\r\n") ≡ Ok (sheet_of_rows [])
unfolding csv_on_literals rows_from is_utf8 chars lib.Utf8.encode
no_rows = refl

-- fields with a comma, a quote or a line end stand in quotes, and quotes are doubled
pub written : text_of_rows ((codes "a" ∷ codes "b,c" ∷ codes "1\"" ∷ []) ∷ (codes "x\ry" ∷ codes " z" ∷ []) ∷ []) ≡ codes "a,\"b,c\",\"1\"\"\"\n\"x\ry\", z\n"
unfolding escaped fields_text is_blank utf16_chars lib.Utf8.encode
written = refl

-- a row without fields, one with an empty field, and one with two
pub empty_rows : text_of_rows ([] ∷ ([] ∷ []) ∷ ([] ∷ [] ∷ []) ∷ []) ≡ codes "\"\"\n\"\"\n,\n"
unfolding escaped fields_text is_blank utf16_chars lib.Utf8.encode
empty_rows = refl

-- a lone surrogate becomes U+FFFD
pub lone_surrogate : text_of_rows (((0xD800 ∷ []) ∷ []) ∷ []) ≡ 0xEF ∷ 0xBF ∷ 0xBD ∷ 0x0A ∷ []
unfolding escaped fields_text is_blank utf16_chars lib.Utf8.encode
lone_surrogate = refl
