-- The texts of rows, and their bytes in UTF-8.
use Rattle.std.proofs.Common.{◌≡◌, ℕ, ◌+◌, Bool, true, false, not, List, [], ◌∷◌, map, length, nat_lt, Some, None, Result, Ok, Err, MatchResult, IsUtf8, unwrap_or, chars, encode_utf8_all, if◌then◌else◌, refl, ap, ap₂, ◌∙◌}
use Rattle.std.specs.List.{list_all}
use Rattle.std.specs.Result.{is_ok}
use Rattle.std.specs.Str.{is_utf8}
use Rattle.std.proofs.lemmas.Bool.{and_parts}
use Rattle.std.proofs.lemmas.Str.{IsUtf8-from_is_utf8, is_utf8-from_IsUtf8, scalars-chars, encodes-chars}
use Rattle.vba_base.specs.Answer.{◌>>=◌}
use Rattle.vba_base.specs.Text.{encoded}
use Rattle.vba_base.proofs.Sources.{utf16_chars-units}
use Rattle.sheet_host.specs.Size.{sheet_columns, sheet_rows}
use Rattle.csv_book.specs.declared.fault.BookFault.TheVariants.{NotUtf8, TooManyRows, TooManyColumns}
use Rattle.csv_book.specs.Reading.{Fields, Rows, fault_of, rows_from, text_of_bytes, unless}

all_known : (cs : List ℕ) → map (λ o. unwrap_or o 0xFFFD) (map Some cs) ≡ cs
all_known [] = refl
all_known (c ∷ cs) = ap (λ rest. c ∷ rest) (all_known cs)

-- bytes that are UTF-8 are those of their text
pub encoded-text_of_bytes : (bytes : List ℕ) → is_utf8 bytes ≡ true → encoded (text_of_bytes bytes) ≡ bytes
encoded-text_of_bytes bytes is =
    let are = IsUtf8-from_is_utf8 bytes is in
    ap (λ cs. encode_utf8_all (map (λ o. unwrap_or o 0xFFFD) cs)) (utf16_chars-units (chars bytes) (scalars-chars bytes are))
    ∙ ap encode_utf8_all (all_known (chars bytes)) ∙ encodes-chars bytes are

encoded_fields : (fields : Fields) → list_all is_utf8 fields ≡ true → map encoded (map text_of_bytes fields) ≡ fields
encoded_fields [] are = refl
encoded_fields (field ∷ fields) are =
    let parts = and_parts _ _ are in
    ap₂ ◌∷◌ (encoded-text_of_bytes field parts.0) (encoded_fields fields parts.1)

not_true : (b : Bool) → ¬ (b ≡ true) → b ≡ false
not_true true h = absurd (h refl)
not_true false h = refl

-- bytes are UTF-8 exactly where they are read as such
pub is_utf8-is_ok : {S E : Type 0} (bytes : List ℕ) (r : Result S E) (P : S → Type 0) (Q : E → Type 0)
    → MatchResult r (λ s. P s × IsUtf8 bytes) (λ e. ¬ (IsUtf8 bytes) × Q e) → is_utf8 bytes ≡ is_ok r
is_utf8-is_ok bytes (Ok s) P Q cases = is_utf8-from_IsUtf8 bytes cases.1
is_utf8-is_ok bytes (Err e) P Q cases = not_true (is_utf8 bytes) (λ is. cases.0 (IsUtf8-from_is_utf8 bytes is))

-- the rows are the texts of these fields, which are their bytes
pub record AreTextsOf (records rows : Rows) : Type 0 where
  pub texts : rows ≡ map (map text_of_bytes) records
  pub bytes : map (map encoded) rows ≡ records

without_fault : {X : Type 0} (number : ℕ) (long utf8 wide : Bool) (x y : X)
    → unless (if long then Some TooManyRows else if not utf8 then Some (NotUtf8 number) else if wide then Some (TooManyColumns number) else None) x ≡ Ok y
    → (utf8 ≡ true) × (y ≡ x)
without_fault number true utf8 wide x y is = cc is
without_fault number false false wide x y is = cc is
without_fault number false true true x y is = cc is
without_fault number false true false x y is = (refl, cc is)

-- what goes on, where nothing failed
pub value_of : {A B E : Type 0} (r : Result A E) (f : A → Result B E) (y : B) → (r >>= f) ≡ Ok y → (x : A) × (r ≡ Ok x) × (f x ≡ Ok y)
value_of (Ok x) f y is = (x, refl, is)
value_of (Err e) f y is = cc is

-- the rows of a file without a fault
pub rows_are_texts : (number : ℕ) (records rows : Rows) → rows_from number records ≡ Ok rows → AreTextsOf records rows
unfolding rows_from
rows_are_texts number [] rows is =
    let none : rows ≡ [] = cc is in
    rw none (record { texts = refl; bytes = refl })
rows_are_texts number (fields ∷ more) rows is =
    let (row, row_is, rest_is) = value_of (unless (fault_of number fields) (map text_of_bytes fields)) _ rows is in
    let (later, later_is, whole) = value_of (rows_from (number + 1) more) _ rows rest_is in
    let (utf8, texts) = without_fault number (nat_lt sheet_rows number) (list_all is_utf8 fields) (nat_lt sheet_columns (length fields)) (map text_of_bytes fields) row row_is in
    let rest = rows_are_texts (number + 1) more later later_is in
    let same : rows ≡ row ∷ later = cc whole in
    let first : row ∷ later ≡ map text_of_bytes fields ∷ map (map text_of_bytes) more = ap₂ ◌∷◌ texts rest.texts in
    record {
      texts = same ∙ first;
      bytes = ap (map (map encoded)) same ∙ ap₂ ◌∷◌ (ap (map encoded) texts ∙ encoded_fields fields utf8) rest.bytes;
    }
