-- The records of a text of CSV, and of what is written of them.
use Rattle.std.proofs.Common.{◌≡◌, ℕ, zero, suc, ◌+◌, ◌<◌, ◌≤◌, ◌⊎◌, inl, inr, Bool, true, false, List, [], ◌∷◌, ◌++◌, map, length, length-append, Option, Some, None, if◌then◌else◌, refl, sym, add-one, ap, ap₂, ◌∙◌, arith}
use Rattle.csv.specs.Machine.{Read, ends_at_end, fields_after, is_end, next_record, step}
use Rattle.csv.specs.Reading.{default_config, records, records_from, records_next}
use Rattle.csv.specs.Writing.{default_writer, is_blank, read_back, row_body, row_text}
use Rattle.csv.specs.declared.parser.Action.{Action}
use Rattle.csv.specs.declared.parser.Action.TheVariants as act
use Rattle.csv.specs.declared.parser.Config.{Config}
use Rattle.csv.specs.declared.parser.State.{State}
use Rattle.csv.specs.declared.parser.State.TheVariants as st
use Rattle.csv.proofs.RoundTrip.{read-write, rows_text}
use Rattle.csv_book.specs.Reading.{Fields, Rows}

-- a list with one more item is written with that item
with_last : (fields : Fields) (field : List ℕ) → read_back (fields ++ field ∷ []) ≡ fields ++ field ∷ []
with_last [] field = refl
with_last (first ∷ fields) field = refl

ended : (a : Action) (fields : Fields) (field : List ℕ) → is_end a ≡ true → read_back (fields_after a fields field) ≡ fields_after a fields field
ended act.EndRecord fields field is = with_last fields field
ended act.EndField fields field is = cc is
ended act.Skip fields field is = cc is
ended act.Copy fields field is = cc is

at_end : (s : State) (fields : Fields) (field : List ℕ) (b : Bool) (q : Read)
    → (if b then Some (fields ++ field ∷ [], st.StartRecord, []) else None) ≡ Some q → (read_back q.0 ≡ q.0) × (q.1 ≡ st.StartRecord) × (q.2 ≡ [])
at_end s fields field true q is = let same : q ≡ (fields ++ field ∷ [], st.StartRecord, []) = cc is in rw same (with_last fields field, refl, refl)
at_end s fields field false q is = cc is

-- what was made of a record's last byte
last_byte : {A : Type 0} (b : Bool) (x y : A) (o : Option A) → (if b then Some x else o) ≡ Some y → ((b ≡ true) × (y ≡ x)) ⊎ ((b ≡ false) × (o ≡ Some y))
last_byte true x y o is = inl (refl, cc is)
last_byte false x y o is = inr (refl, is)

-- a record has a field at least
pub record_has_fields : (cfg : Config) (s : State) (fields : Fields) (field text : List ℕ) (q : Read) → next_record cfg s fields field text ≡ Some q → read_back q.0 ≡ q.0
unfolding next_record
record_has_fields cfg s fields field [] q is = (at_end s fields field (ends_at_end s) q is).0
record_has_fields cfg s fields field (c ∷ text) q is =
    elim (last_byte (is_end (step cfg s c).1) _ q _ is) [
      | inl last ↦ rw last.1 (ended (step cfg s c).1 fields field last.0)
      | inr more ↦ record_has_fields cfg (step cfg s c).0 _ _ text q more.1
    ]

-- a record leaves a shorter text, or is the last of it
shorter : (cfg : Config) (s : State) (fields : Fields) (field text : List ℕ) (q : Read) → next_record cfg s fields field text ≡ Some q
    → (length q.2 < length text) ⊎ ((q.1 ≡ st.StartRecord) × (q.2 ≡ []))
unfolding next_record
shorter cfg s fields field [] q is = inr ((at_end s fields field (ends_at_end s) q is).1, (at_end s fields field (ends_at_end s) q is).2)
shorter cfg s fields field (c ∷ text) q is =
    elim (last_byte (is_end (step cfg s c).1) _ q _ is) [
      | inl last ↦ inl (rw last.1 (omega arith))
      | inr more ↦ elim (shorter cfg (step cfg s c).0 _ _ text q more.1) [ inl less ↦ inl (omega arith) | inr gone ↦ inr gone ]
    ]

-- at the start of a record an empty text has none
none_left : (cfg : Config) (n : ℕ) → records_from cfg n st.StartRecord [] ≡ []
unfolding records_from next_record
none_left cfg zero = refl
none_left cfg (suc n) = refl

enough : (cfg : Config) (n m : ℕ) (s : State) (text : List ℕ) → length text < n → length text < m → records_from cfg n s text ≡ records_from cfg m s text
unfolding records_from
enough cfg zero m s text first second = absurd (omega arith)
enough cfg (suc n) zero s text first second = absurd (omega arith)
enough cfg (suc n) (suc m) s text first second =
    elim (next_record cfg s [] [] text) as (λ o. next_record cfg s [] [] text ≡ o → records_next (records_from cfg n) o ≡ records_next (records_from cfg m) o) [
      | None ↦ λ _. refl
      | Some q ↦ λ is. ap (λ (rest : Rows). q.0 ∷ rest) (elim (shorter cfg s [] [] text q is) [
        | inl less ↦ enough cfg n m q.1 q.2 (omega arith) (omega arith)
        | inr gone ↦ rw (gone.0, gone.1) (none_left cfg n ∙ sym (none_left cfg m))
      ])
    ] refl

-- the records of a text from a state on
abbrev pub records_after : Config → State → List ℕ → Rows
records_after cfg s text = records_from cfg (length text + 1) s text

pub after_last : (cfg : Config) (s : State) (text : List ℕ) → next_record cfg s [] [] text ≡ None → records_after cfg s text ≡ []
unfolding records_from
after_last cfg s text is = rw (add-one, is) refl

pub after_one : (cfg : Config) (s : State) (text : List ℕ) (q : Read) → next_record cfg s [] [] text ≡ Some q → records_after cfg s text ≡ q.0 ∷ records_after cfg q.1 q.2
unfolding records_from
after_one cfg s text q is =
    let one : records_after cfg s text ≡ q.0 ∷ records_from cfg (length text) q.1 q.2 = rw (add-one, is) refl in
    one ∙ ap (λ (rest : Rows). q.0 ∷ rest) (elim (shorter cfg s [] [] text q is) [
      | inl less ↦ enough cfg (length text) (length q.2 + 1) q.1 q.2 less (omega arith)
      | inr gone ↦ rw (gone.0, gone.1) (none_left cfg (length text) ∙ sym (none_left cfg 1))
    ])

-- from two states that read the next record alike the records are the same
pub same_after : (cfg : Config) (s t : State) (text : List ℕ) → next_record cfg s [] [] text ≡ next_record cfg t [] [] text → records_after cfg s text ≡ records_after cfg t text
unfolding records_from
same_after cfg s t text same = rw add-one (ap (records_next (records_from cfg (length text))) same)

pub records_have_fields : (cfg : Config) (n : ℕ) (s : State) (text : List ℕ) → map read_back (records_from cfg n s text) ≡ records_from cfg n s text
unfolding records_from
records_have_fields cfg zero s text = refl
records_have_fields cfg (suc n) s text =
    elim (next_record cfg s [] [] text) as (λ o. next_record cfg s [] [] text ≡ o → map read_back (records_next (records_from cfg n) o) ≡ records_next (records_from cfg n) o) [
      | None ↦ λ _. refl
      | Some q ↦ λ is. ap₂ ◌∷◌ (record_has_fields cfg s [] [] text q is) (records_have_fields cfg n q.1 q.2)
    ] refl

-- a written record has a byte at least
row_has_bytes : (row : Fields) → 1 ≤ length (row_text default_writer row)
row_has_bytes row =
    let blank : List ℕ = if is_blank default_writer row then 34 ∷ 34 ∷ [] else [] in
    omega (arith, length-append (row_body default_writer row) (blank ++ 10 ∷ []), length-append blank (10 ∷ []))

rows_fit : (rows : Rows) → length rows ≤ length (rows_text rows)
unfolding rows_text
rows_fit [] = omega arith
rows_fit (row ∷ rows) = omega (arith, row_has_bytes row, rows_fit rows, length-append (row_text default_writer row) (rows_text rows))

read_again : (rows : Rows) (n : ℕ) → length rows ≤ n → records_from default_config n st.StartRecord (rows_text rows) ≡ map read_back rows
unfolding records_from rows_text next_record
read_again [] zero fits = refl
read_again [] (suc n) fits = refl
read_again (row ∷ rows) zero fits = absurd (omega arith)
read_again (row ∷ rows) (suc n) fits =
    rw (read-write row (rows_text rows)) (ap (λ rest. read_back row ∷ rest) (read_again rows n (omega arith)))

-- the records of a text are those of what is written of them
pub records_again : (text : List ℕ) → records default_config (rows_text (records default_config text)) ≡ records default_config text
records_again text =
    read_again (records default_config text) _ (omega (arith, rows_fit (records default_config text)))
    ∙ records_have_fields default_config (length text + 1) st.StartRecord text
