-- What is written of rows that were read is read as these rows.
use Rattle.std.proofs.Common.{◌≡◌, ℕ, ◌<◌, ◌==◌, ◌&&◌, Bool, true, false, List, [], ◌∷◌, ◌++◌, map, Ok, if◌then◌else◌, refl, sym, ap, ◌∙◌, inl, inr, arith, append_assoc}
use Rattle.std.specs.List.{list_any}
use Rattle.std.specs.Str.{chars}
use Rattle.std.proofs.lemmas.List.{append-nil}
use Rattle.std.proofs.lemmas.Bool.{cases_Bool, and_parts, eqb-true, ne_eqb}
use Rattle.csv.specs.Reading.{default_config, is_bom, records, strip_bom}
use Rattle.csv.specs.Writing.{default_writer, field_text, fields_text, is_blank, needs_byte, row_text}
use Rattle.csv.proofs.RoundTrip.{rows_text}
use Rattle.vba_base.specs.Answer.{◌>>=◌}
use Rattle.vba_base.specs.Text.{encoded}
use Rattle.sheet_host.specs.Sheets.{SheetContent}
use Rattle.csv_book.specs.Reading.{Fields, Rows, rows_from, sheet_of, sheet_of_rows, text_of_bytes}
use Rattle.csv_book.specs.Writing.{begins_with_mark, line_of, text_of_rows, text_of_sheet}
use Rattle.csv_book.proofs.Records.{records_again}
use Rattle.csv_book.proofs.Saved.{saved-unwritten}
use Rattle.csv_book.proofs.Texts.{rows_are_texts, value_of}

-- a text that doesn't begin with the three bytes of the mark loses none
keeps_first : (a : ℕ) (rest : List ℕ) → (a == 0xEF) ≡ false → strip_bom (a ∷ rest) ≡ a ∷ rest
unfolding strip_bom
keeps_first a [] other = refl
keeps_first a (b ∷ []) other = refl
keeps_first a (b ∷ c ∷ rest) other = rw other refl

keeps_second : (a b : ℕ) (rest : List ℕ) → (b == 0xBB) ≡ false → strip_bom (a ∷ b ∷ rest) ≡ a ∷ b ∷ rest
unfolding strip_bom
keeps_second a b [] other = refl
keeps_second a b (c ∷ rest) other = elim (cases_Bool (a == 0xEF)) [ inl is ↦ rw (is, other) refl | inr isnt ↦ rw isnt refl ]

keeps_third : (a b c : ℕ) (rest : List ℕ) → is_bom a b c ≡ false → strip_bom (a ∷ b ∷ c ∷ rest) ≡ a ∷ b ∷ c ∷ rest
unfolding strip_bom
keeps_third a b c rest other = rw other refl

no_third : (a b c : ℕ) → (c == 0xBF) ≡ false → is_bom a b c ≡ false
no_third a b c other = elim (cases_Bool ((a == 0xEF) && (b == 0xBB))) [ inl is ↦ rw (is, other) refl | inr isnt ↦ rw isnt refl ]

-- bytes that begin with the mark are a text that begins with its unit
marked : (bytes : List ℕ) (fields : Fields) (rows : Rows) → begins_with_mark ((text_of_bytes (0xEF ∷ 0xBB ∷ 0xBF ∷ bytes) ∷ fields) ∷ rows) ≡ true
unfolding chars
marked [] fields rows = refl
marked (byte ∷ bytes) fields rows = refl

not_ascii : (m n : ℕ) → m < 128 → 128 < n → (m == n) ≡ false
not_ascii m n low high = ne_eqb m n (λ same. omega (arith, same))

-- a field that is written as it stands, before a byte of ASCII
keeps_plain : (field : List ℕ) (m : ℕ) (rest : List ℕ) (fields : Fields) (rows : Rows) → m < 128
    → begins_with_mark ((text_of_bytes field ∷ fields) ∷ rows) ≡ false → strip_bom (field ++ m ∷ rest) ≡ field ++ m ∷ rest
keeps_plain [] m rest fields rows low free = keeps_first m rest (not_ascii m 0xEF low (omega arith))
keeps_plain (a ∷ []) m rest fields rows low free = keeps_second a m rest (not_ascii m 0xBB low (omega arith))
keeps_plain (a ∷ b ∷ []) m rest fields rows low free = keeps_third a b m rest (no_third a b m (not_ascii m 0xBF low (omega arith)))
keeps_plain (a ∷ b ∷ c ∷ field) m rest fields rows low free = elim (cases_Bool (is_bom a b c)) [
  | inl is ↦
      let (ab, third) = and_parts _ _ is in
      let (first, second) = and_parts _ _ ab in
      let same : a ∷ b ∷ c ∷ field ≡ 0xEF ∷ 0xBB ∷ 0xBF ∷ field = rw (eqb-true a 0xEF first, eqb-true b 0xBB second, eqb-true c 0xBF third) refl in
      let mark = ap (λ bytes. begins_with_mark ((text_of_bytes bytes ∷ fields) ∷ rows)) same ∙ marked field fields rows in
      cc (mark, free)
  | inr isnt ↦ keeps_third a b c (field ++ m ∷ rest) isnt
]

keeps_field : (field : List ℕ) (m : ℕ) (rest : List ℕ) (fields : Fields) (rows : Rows) → m < 128
    → begins_with_mark ((text_of_bytes field ∷ fields) ∷ rows) ≡ false
    → strip_bom (field_text default_writer field ++ m ∷ rest) ≡ field_text default_writer field ++ m ∷ rest
keeps_field field m rest fields rows low free = elim (cases_Bool (list_any (needs_byte default_writer) field)) [
  | inl needs ↦ rw needs (keeps_first 34 _ refl)
  | inr plain ↦ rw plain (keeps_plain field m rest fields rows low free)
]

-- behind a row's first field stands a byte of ASCII
behind_only : (field tail : List ℕ) (blank : Bool)
    → (m : ℕ) × (rest : List ℕ) × (m < 128) × ((field ++ []) ++ ((if blank then 34 ∷ 34 ∷ [] else []) ++ 10 ∷ []) ++ tail ≡ field ++ m ∷ rest)
behind_only field tail true = (34, 34 ∷ 10 ∷ tail, omega arith, simp (append-nil, append_assoc))
behind_only field tail false = (10, tail, omega arith, simp (append-nil, append_assoc))

behind_first : (field : List ℕ) (fields : Fields) (tail : List ℕ)
    → (m : ℕ) × (rest : List ℕ) × (m < 128) × (row_text default_writer (field ∷ fields) ++ tail ≡ field_text default_writer field ++ m ∷ rest)
unfolding is_blank fields_text
behind_first field [] tail = behind_only (field_text default_writer field) tail _
behind_first field (next ∷ fields) tail = (44, (field_text default_writer next ++ fields_text default_writer fields) ++ 10 ∷ tail, omega arith, simp append_assoc)

-- the written rows don't begin with the mark, where the first field's text doesn't
keeps_rows : (rows : Rows) → begins_with_mark (map (map text_of_bytes) rows) ≡ false → strip_bom (rows_text rows) ≡ rows_text rows
unfolding rows_text strip_bom is_blank
keeps_rows [] free = refl
keeps_rows ([] ∷ rows) free = keeps_first 34 (34 ∷ 10 ∷ rows_text rows) refl
keeps_rows ((field ∷ fields) ∷ rows) free =
    let (m, rest, low, same) = behind_first field fields (rows_text rows) in
    rw same (keeps_field field m rest (map text_of_bytes fields) (map (map text_of_bytes) rows) low free)

-- the lines of rows are what csv writes of their bytes
lines_are : (rows : Rows) → text_of_rows rows ≡ rows_text (map (map encoded) rows)
unfolding rows_text
lines_are [] = refl
lines_are (row ∷ rows) = ap (λ rest. line_of row ++ rest) (lines_are rows)

-- the lines of rows and one more
pub lines_more : (rows : Rows) (row : Fields) → text_of_rows (rows ++ row ∷ []) ≡ text_of_rows rows ++ line_of row
lines_more [] row = append-nil (line_of row)
lines_more (first ∷ rows) row = ap (λ rest. line_of first ++ rest) (lines_more rows row) ∙ sym (append_assoc (line_of first) (text_of_rows rows) (line_of row))

rows_again : (bytes : List ℕ) (rows : Rows) → rows_from 1 (records default_config (strip_bom bytes)) ≡ Ok rows → begins_with_mark rows ≡ false
    → rows_from 1 (records default_config (strip_bom (text_of_rows rows))) ≡ Ok rows
rows_again bytes rows is free =
    let records_of = records default_config (strip_bom bytes) in
    let are = rows_are_texts 1 records_of rows is in
    let text : text_of_rows rows ≡ rows_text records_of = lines_are rows ∙ ap rows_text are.bytes in
    let kept : strip_bom (rows_text records_of) ≡ rows_text records_of = keeps_rows records_of (ap begins_with_mark (sym are.texts) ∙ free) in
    let again : records default_config (strip_bom (text_of_rows rows)) ≡ records_of =
    ap (λ t. records default_config (strip_bom t)) text ∙ ap (records default_config) kept ∙ records_again (strip_bom bytes) in
    ap (rows_from 1) again ∙ is

pub sheet_again : (bytes : List ℕ) (sheet : SheetContent) → sheet_of bytes ≡ Ok sheet → begins_with_mark sheet.rows ≡ false → sheet_of (text_of_sheet sheet) ≡ Ok sheet
sheet_again bytes sheet is free =
    let (rows, rows_are, made) = value_of (rows_from 1 (records default_config (strip_bom bytes))) _ sheet is in
    let same : sheet ≡ sheet_of_rows rows = cc made in
    let text : text_of_sheet sheet ≡ text_of_rows rows = ap text_of_sheet same ∙ ap text_of_rows (saved-unwritten rows) in
    let again = rows_again bytes rows rows_are (ap (λ s. begins_with_mark s.rows) (sym same) ∙ free) in
    ap sheet_of text ∙ ap (λ r. r >>= λ rows. Ok (sheet_of_rows rows)) again ∙ ap Ok (sym same)
