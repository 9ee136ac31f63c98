-- A row that is being read, one byte further.
use Rattle.std.proofs.Common.{◌≡◌, ℕ, Bool, true, false, ◌++◌, ◌+◌, ◌<◌, ◌≤◌, List, [], ◌∷◌, length, drop, get_or, Some, None, refl, sym, subst, ap, ap₂, ◌∙◌, arith, if◌then◌else◌}
use Rattle.std.proofs.lemmas.Bool.Decides.{nat_tests}
use Rattle.std.proofs.lemmas.List.{drop_all, drop_more}
use Rattle.csv.specs.Machine.{ends_at_end, field_after, fields_after, is_end, next_record, step}
use Rattle.csv.specs.Reading.{default_config}
use Rattle.csv.specs.declared.parser.Action.{Action}
use Rattle.csv.specs.declared.parser.Action.TheVariants as act
use Rattle.csv.specs.declared.parser.State.{State}
use Rattle.csv.specs.declared.parser.State.TheVariants as st
use Rattle.sheet_host.specs.Sheets.{SheetContent}
use Rattle.csv_book.specs.Reading.{Fields, Rows}
use Rattle.csv_book.specs.Row.{HasTexts, IsReading, ReadsRow}
use Rattle.csv_book.specs.declared.row.Row.{Row}
use Rattle.csv_book.specs.Scan.{csv_state, without_return}
use Rattle.csv_book.specs.declared.scan.State as own

-- behind CR a row is read as behind LF
step_return : (c : ℕ) → step default_config st.AfterCr c ≡ step default_config st.StartRecord c
step_return c = grind (arith, nat_tests)

next_stepped : (s t : State) (fields : Fields) (field : List ℕ) (c : ℕ) (rest : List ℕ) → step default_config s c ≡ step default_config t c
    → next_record default_config s fields field (c ∷ rest) ≡ next_record default_config t fields field (c ∷ rest)
unfolding next_record
next_stepped s t fields field c rest same =
    ap (λ (p : State × Action). if is_end p.1 then Some (fields_after p.1 fields field, p.0, rest)
    else next_record default_config p.0 (fields_after p.1 fields field) (field_after p.1 c field) rest) same

pub next_return : (s : State) (fields : Fields) (field text : List ℕ)
    → next_record default_config s fields field text ≡ next_record default_config (without_return s) fields field text
unfolding next_record
next_return st.AfterCr fields field [] = refl
next_return st.AfterCr fields field (c ∷ rest) = next_stepped st.AfterCr st.StartRecord fields field c rest (step_return c)
next_return st.StartRecord fields field text = refl
next_return st.StartField fields field text = refl
next_return st.InField fields field text = refl
next_return st.InQuoted fields field text = refl
next_return st.AfterQuote fields field text = refl
next_return st.InEscape fields field text = refl
next_return st.InComment fields field text = refl

choice : {A : Type 0} (b c : Bool) (x y : A) → b ≡ c → (if b then x else y) ≡ (if c then x else y)
choice b c x y same = ap (λ b. if b then x else y) same

-- the row goes on behind a byte, or ends with it
pub row_goes_on : (s : State) (fields : Fields) (field : List ℕ) (c : ℕ) (rest : List ℕ) → is_end (step default_config s c).1 ≡ false
    → next_record default_config s fields field (c ∷ rest)
    ≡ next_record default_config (without_return (step default_config s c).0) (fields_after (step default_config s c).1 fields field)
    (field_after (step default_config s c).1 c field) rest
unfolding next_record
row_goes_on s fields field c rest goes = choice _ false _ _ goes ∙ next_return (step default_config s c).0 _ _ rest

pub row_ends : (s : State) (fields : Fields) (field : List ℕ) (c : ℕ) (rest : List ℕ) → is_end (step default_config s c).1 ≡ true
    → next_record default_config s fields field (c ∷ rest) ≡ Some (fields_after (step default_config s c).1 fields field, (step default_config s c).0, rest)
unfolding next_record
row_ends s fields field c rest ends = choice _ true _ _ ends

-- only line ends stand before a row
before_row : (s : own.State) (c : ℕ) → is_end (step default_config (csv_state s) c).1 ≡ false
    → ends_at_end (without_return (step default_config (csv_state s) c).0) ≡ false
    → (ends_at_end (csv_state s) ≡ false) × ((step default_config (csv_state s) c).1 ≡ act.Skip)
before_row s c goes before = grind (arith, nat_tests)

-- a row ends with a line end alone
behind_row : (s : own.State) (c : ℕ) → is_end (step default_config (csv_state s) c).1 ≡ true
    → without_return (step default_config (csv_state s) c).0 ≡ st.StartRecord
behind_row s c ends = grind (arith, nat_tests)

-- a row that is read up to a place of a file
pub record IsAt (rows : Rows) (bytes : List ℕ) (place : ℕ) (row : Row) (sheet : SheetContent) : Type 0 where
  pub fields : Fields
  pub reading : IsReading rows fields row sheet
  pub begun : ends_at_end (csv_state row.state) ≡ false → fields ≡ []
  pub next : next_record default_config st.StartRecord [] [] bytes ≡ next_record default_config (csv_state row.state) fields row.field.items (drop place bytes)

-- a byte was taken
pub record IsTaken (byte : ℕ) (rows : Rows) (fields : Fields) (row row' : Row) (sheet' : SheetContent) (ended : Bool) : Type 0 where
  pub state : csv_state row'.state ≡ without_return (step default_config (csv_state row.state) byte).0
  pub field : row'.field.items ≡ field_after (step default_config (csv_state row.state) byte).1 byte row.field.items
  pub reading : IsReading rows (fields_after (step default_config (csv_state row.state) byte).1 fields row.field.items) row' sheet'
  pub over : ended ≡ is_end (step default_config (csv_state row.state) byte).1

module _ (rows : Rows) (bytes : List ℕ) (place byte : ℕ) (row row' : Row) (sheet sheet' : SheetContent) (at : IsAt rows bytes place row sheet)
    (inside : place < length bytes) (here : byte ≡ get_or bytes place 0) where
  from_here : next_record default_config st.StartRecord [] [] bytes ≡ next_record default_config (csv_state row.state) at.fields row.field.items
      (byte ∷ drop (place + 1) bytes)
  from_here = at.next ∙ ap (next_record default_config (csv_state row.state) at.fields row.field.items)
      (drop_more bytes place 0 inside ∙ ap (λ b. b ∷ drop (place + 1) bytes) (sym here))

  pub goes_on : IsTaken byte rows at.fields row row' sheet' false → IsAt rows bytes (place + 1) row' sheet'
  goes_on taken =
      let goes = sym taken.over in
      record {
        fields = fields_after (step default_config (csv_state row.state) byte).1 at.fields row.field.items;
        reading = taken.reading;
        begun = λ before.
            let (was, skip) = before_row row.state byte goes (ap ends_at_end (sym taken.state) ∙ before) in
            ap (λ action. fields_after action at.fields row.field.items) skip ∙ at.begun was;
        next = from_here ∙ row_goes_on (csv_state row.state) at.fields row.field.items byte (drop (place + 1) bytes) goes
            ∙ ap₂ (λ s field. next_record default_config s (fields_after (step default_config (csv_state row.state) byte).1 at.fields row.field.items) field
            (drop (place + 1) bytes)) (sym taken.state) (sym taken.field);
      }

  pub ends : IsTaken byte rows at.fields row row' sheet' true
      → ReadsRow rows bytes (next_record default_config st.StartRecord [] [] bytes) (Some (place + 1)) row' sheet'
  ends taken =
      let ended = sym taken.over in
      subst (λ o. ReadsRow rows bytes o (Some (place + 1)) row' sheet')
      (sym (from_here ∙ row_ends (csv_state row.state) at.fields row.field.items byte (drop (place + 1) bytes) ended))
      (place + 1, refl, omega arith, refl, behind_row row.state byte ended, taken.reading)

-- the file ends
at_end : (s : State) (fields : Fields) (field : List ℕ) → next_record default_config s fields field []
    ≡ (if ends_at_end s then Some (fields ++ field ∷ [], st.StartRecord, []) else None)
unfolding next_record
at_end s fields field = refl

module _ (rows : Rows) (bytes : List ℕ) (place : ℕ) (row : Row) (sheet : SheetContent) (at : IsAt rows bytes place row sheet)
    (past : length bytes ≤ place) where
  to_end : (begun : Bool) → ends_at_end (csv_state row.state) ≡ begun
      → next_record default_config st.StartRecord [] [] bytes ≡ (if begun then Some (at.fields ++ row.field.items ∷ [], st.StartRecord, []) else None)
  to_end begun is =
      at.next ∙ ap (next_record default_config (csv_state row.state) at.fields row.field.items) (drop_all place bytes past)
      ∙ at_end (csv_state row.state) at.fields row.field.items ∙ choice (ends_at_end (csv_state row.state)) begun _ _ is

  pub no_row : (row' : Row) → ends_at_end (csv_state row.state) ≡ false
      → ReadsRow rows bytes (next_record default_config st.StartRecord [] [] bytes) None row' sheet
  no_row row' is =
      subst (λ o. ReadsRow rows bytes o None row' sheet) (sym (to_end false is))
      (refl, subst (λ fields. HasTexts rows fields sheet) (at.begun is) at.reading.texts)

  pub last_row : (row' : Row) (sheet' : SheetContent) → ends_at_end (csv_state row.state) ≡ true
      → IsReading rows (at.fields ++ row.field.items ∷ []) row' sheet'
      → ReadsRow rows bytes (next_record default_config st.StartRecord [] [] bytes) (Some (length bytes)) row' sheet'
  last_row row' sheet' is read =
      subst (λ o. ReadsRow rows bytes o (Some (length bytes)) row' sheet') (sym (to_end true is))
      (length bytes, refl, omega arith, sym (drop_all (length bytes) bytes (omega arith)), refl, read)
