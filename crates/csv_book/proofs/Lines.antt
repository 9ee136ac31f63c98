-- The line of a row, from its fields and what ends it.
use Rattle.std.proofs.Common.{◌≡◌, ℕ, ◌+◌, ◌==◌, List, [], ◌∷◌, ◌++◌, map, length, length-append, append_assoc, if◌then◌else◌, refl, sym, ap, ◌∙◌, arith}
use Rattle.std.proofs.lemmas.Bool.{ne_eqb}
use Rattle.std.proofs.lemmas.Bool.Decides.{nat_tests}
use Rattle.std.specs.List.{range_with_len}
use Rattle.std.proofs.lemmas.List.{append-nil, length-map, map-append}
use Rattle.std.proofs.lemmas.List.FromFn.{length-map-range_with_len, map-range_with_len_more}
use Rattle.csv.proofs.WriteFacts.{row-more}
use Rattle.csv.specs.Writing.{default_writer, field_text, fields_text, is_blank, next_sep, row_body, row_text}
use Rattle.vba_base.specs.Text.{encoded}

-- the fields of a row's first columns, with their commas
abbrev pub first_columns : (ℕ → List ℕ) → ℕ → List ℕ
first_columns text n = row_body default_writer (map encoded (map text (range_with_len 1 n)))

first_columns_more : (text : ℕ → List ℕ) (n next : ℕ) → 1 + n ≡ next
    → first_columns text (n + 1) ≡ first_columns text n ++ (next_sep default_writer n ++ field_text default_writer (encoded (text next)))
first_columns_more text n next is =
    let texts = map text (range_with_len 1 n) in
    let count : length (map encoded texts) ≡ n = length-map texts encoded ∙ length-map-range_with_len text 1 n in
    let fields = ap (map encoded) (map-range_with_len_more text 1 n next is) ∙ map-append encoded texts (text next ∷ []) in
    let body = row-more default_writer (map encoded texts) (encoded (text next)) in
    ap (row_body default_writer) fields
    ∙ rw count at body

-- one column more, behind what was written before the row
pub column_written : (old file comma now : List ℕ) (text : ℕ → List ℕ) (n next : ℕ) → 1 + n ≡ next → file ≡ old ++ first_columns text n
    → comma ≡ file ++ next_sep default_writer n → now ≡ comma ++ field_text default_writer (encoded (text next)) → now ≡ old ++ first_columns text (n + 1)
column_written old file comma now text n next is before separated written =
    let field = field_text default_writer (encoded (text next)) in
    let body = first_columns text n in
    let separator = next_sep default_writer n in
    written ∙ ap (λ bytes. bytes ++ field) (separated ∙ ap (λ bytes. bytes ++ separator) before)
    ∙ append_assoc (old ++ body) separator field ∙ append_assoc old body (separator ++ field)
    ∙ ap (λ bytes. old ++ bytes) (sym (first_columns_more text n next is))

-- a row shows nothing where its fields with their commas have no byte
blank_is : (fields : List (List ℕ)) → is_blank default_writer fields ≡ (length (row_body default_writer fields) == 0)
unfolding is_blank fields_text
blank_is [] = refl
blank_is (field ∷ []) = ap (λ bytes. length bytes == 0) (sym (append-nil (field_text default_writer field)))
blank_is (field ∷ next ∷ fields) =
    let rest = 44 ∷ (field_text default_writer next ++ fields_text default_writer fields) in
    sym (ne_eqb (length (field_text default_writer field ++ rest)) 0 (λ is. omega (arith, is, length-append (field_text default_writer field) rest)))

same_length : (old body : List ℕ) → (length (old ++ body) == length old) ≡ (length body == 0)
same_length old body = grind (arith, nat_tests, length-append old body)

-- the line of a row behind what was written before
pub line_written : (file old : List ℕ) (fields : List (List ℕ)) → file ≡ old ++ row_body default_writer fields
    → file ++ ((if length file == length old then 34 ∷ 34 ∷ [] else []) ++ 10 ∷ []) ≡ old ++ row_text default_writer fields
line_written file old fields is =
    let body = row_body default_writer fields in
    let blank = ap (λ bytes. length bytes == length old) is ∙ same_length old body ∙ sym (blank_is fields) in
    rw (blank, is) (append_assoc old body _)
