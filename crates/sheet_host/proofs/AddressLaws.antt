-- Reading finds exactly the areas that texts are addresses of.
use Rattle.std.proofs.Common.{◌≡◌, ℕ, ◌<◌, ◌≤◌, Bool, true, false, nat_le, ◌&&◌, List, [], ◌∷◌, ◌++◌, length, take_while, Option, Some, None, Result, Ok, Err, refl, sym, ap, ◌∙◌, subst, arith, rules, inl, inr, append-nil, IfOk, IfErr}
use Rattle.std.specs.Prelude.{All, ◌==◌}
use Rattle.std.specs.Char.{IsAsciiDigit, is_ascii_digit, is_ascii_alphabetic}
use Rattle.std.specs.List.{prefix_len}
use Rattle.std.specs.Str.Parse.{digits_value}
use Rattle.std.proofs.lemmas.List.{take-append-drop, take_at, drop_at, append_assoc}
use Rattle.std.proofs.lemmas.List.Elements.{All-head, All-tail}
use Rattle.std.proofs.lemmas.Bool.{cases_Bool, eqb-true}
use Rattle.std.proofs.lemmas.Grind.{common_steps}
use Rattle.std.proofs.Math.Numerals.{one-add}
use Rattle.vba_values.specs.declared.fault.Bad.{Bad}
use Rattle.sheet_host.specs.declared.area.Area.{Area}
use Rattle.sheet_host.specs.declared.area.SheetId.{SheetId}
use Rattle.sheet_host.specs.declared.corner.Corner.{Corner}
use Rattle.sheet_host.specs.Size.{IsInside, sheet_rows, sheet_columns}
use Rattle.sheet_host.specs.Area.{host_error}
use Rattle.sheet_host.specs.Address.{dollar, colon, dollar_text, IsLetter, column_of, NamesCell, NamesCells, one, two, area_between, IsAddress}
use Rattle.sheet_host.specs.AddressText.{behind_dollar, behind, first_letters, behind_letters, first_digits, behind_corner, place_up_to, corner_at, corner_of, area_to, only, last_corner, area_from, area_of_text}
use Rattle.sheet_host.proofs.Units.{letters_are, digits_are}

-- the parts of any text

has_dollar : List ℕ → Bool
has_dollar [] = false
has_dollar (unit ∷ units) = unit == dollar

dollar_split : (text : List ℕ) → text ≡ dollar_text (has_dollar text) ++ behind_dollar text
unfolding has_dollar
dollar_split [] = refl
dollar_split (unit ∷ units) = grind (arith, common_steps)

front_split : (passes : ℕ → Bool) (text : List ℕ) → text ≡ take_while passes text ++ behind passes text
front_split passes text = sym (take-append-drop (prefix_len passes text) text)

-- the cell that a text begins with, as it is written
spelled_corner : List ℕ → List ℕ
spelled_corner text = dollar_text (has_dollar text) ++ (first_letters text ++ (dollar_text (has_dollar (behind_letters text)) ++ first_digits text))

corner_split : (text : List ℕ) → text ≡ spelled_corner text ++ behind_corner text
unfolding spelled_corner
corner_split text =
    let named = behind_dollar text in
    let numbered = behind_letters text in
    let a : text ≡ dollar_text (has_dollar text) ++ named = dollar_split text in
    let b : named ≡ first_letters text ++ numbered = front_split is_ascii_alphabetic named in
    let c : numbered ≡ dollar_text (has_dollar numbered) ++ behind_dollar numbered = dollar_split numbered in
    let d : behind_dollar numbered ≡ first_digits text ++ behind_corner text = front_split is_ascii_digit (behind_dollar numbered) in
    a ∙ ap (λ x. dollar_text (has_dollar text) ++ x) (b ∙ ap (λ x. first_letters text ++ x) (c ∙ ap (λ x. dollar_text (has_dollar numbered) ++ x) d))
    ∙ sym (simp append_assoc)

within : (n last : ℕ) → nat_le 1 n && nat_le n last ≡ true → (1 ≤ n) × (n ≤ last)
within n last h = (grind arith, grind arith)

-- a corner that is found has the places that were read
record CornerIs (corner : Corner) (r c : ℕ) : Type 0 where
  row : corner.row ≡ r
  column : corner.column ≡ c
  inside : IsInside r c

abbrev corner : ℕ → ℕ → Corner
corner r c = record { row = r; column = c }

corner_found : (found : Corner) (r c : ℕ) → nat_le 1 r && nat_le r sheet_rows ≡ true → nat_le 1 c && nat_le c sheet_columns ≡ true → corner r c ≡ found → CornerIs found r c
corner_found found r c rows columns e =
    let row = within r sheet_rows rows in
    let column = within c sheet_columns columns in
    record {
      row = ap (λ (x : Corner). x.row) (sym e);
      column = ap (λ (x : Corner). x.column) (sym e);
      inside = record { first_row = row.0; last_row = row.1; first_column = column.0; last_column = column.1 };
    }

corner_is : (found : Corner) (r c : ℕ) → corner_at (place_up_to sheet_rows r) (place_up_to sheet_columns c) ≡ Some found → CornerIs found r c
corner_is found r c e =
    elim (cases_Bool (nat_le 1 r && nat_le r sheet_rows)) [
      | inl rows ↦ elim (cases_Bool (nat_le 1 c && nat_le c sheet_columns)) [
        | inl columns ↦
            let same : Some (corner r c) ≡ Some found = rw (rows, columns) at e in
            let equal : corner r c ≡ found = cc in
            corner_found found r c rows columns equal
        | inr columns ↦ let none : ◌≡◌ {A = Option Corner} None (Some found) = rw (rows, columns) at e in absurd (cc)
      ]
      | inr rows ↦ let none : ◌≡◌ {A = Option Corner} None (Some found) = rw rows at e in absurd (cc)
    ]

corner_named : (text : List ℕ) (found : Corner) → corner_of text ≡ Some found → NamesCell (spelled_corner text) found
unfolding spelled_corner
corner_named text found e =
    let is = corner_is found (digits_value 10 (first_digits text)) (column_of (first_letters text)) e in
    record {
      column_dollar = has_dollar text;
      letters = first_letters text;
      row_dollar = has_dollar (behind_letters text);
      digits = first_digits text;
      spelled = refl;
      are_letters = letters_are (behind_dollar text);
      are_digits = digits_are (behind_dollar (behind_letters text));
      column = is.column;
      row = is.row;
      inside = rw (is.row, is.column) is.inside;
    }

-- a text behind which nothing stands
whole_named : (text : List ℕ) (found : Corner) → corner_of text ≡ Some found → behind_corner text ≡ [] → NamesCell text found
whole_named text found e none =
    let whole : spelled_corner text ≡ text = sym (append-nil (spelled_corner text)) ∙ ap (λ x. spelled_corner text ++ x) (sym none) ∙ sym (corner_split text) in
    subst (λ t. NamesCell t found) whole (corner_named text found e)

-- what is read names two cells, and is the area between them
pub record Named (sheet : SheetId) (text : List ℕ) (area : Area) : Type 0 where
  pub first : Corner
  pub last : Corner
  pub cells : NamesCells text first last
  pub between : area ≡ area_between sheet first last

between_them : (sheet : SheetId) (text : List ℕ) (area : Area) (first last : Corner) → NamesCells text first last → area_to sheet first (Some last) ≡ Ok area → Named sheet text area
between_them sheet text area first last cells e =
    let same : area_between sheet first last ≡ area = cc in
    record { first = first; last = last; cells = cells; between = sym same }

no_area : {X : Type 0} (area : Area) → ◌≡◌ {A = Result Area Bad} (Err host_error) (Ok area) → X
no_area area e = absurd (cc)

behind_colon : (sheet : SheetId) (text before units rest : List ℕ) (area : Area) (first : Corner) (found : Option Corner) → NamesCell before first → text ≡ before ++ colon ∷ units → corner_of units ≡ found → behind_corner units ≡ rest → area_to sheet first (only found rest) ≡ Ok area → Named sheet text area
behind_colon sheet text before units [] area first None named spelled e none h = no_area area h
behind_colon sheet text before units (unit ∷ rest) area first None named spelled e none h = no_area area h
behind_colon sheet text before units (unit ∷ rest) area first (Some last) named spelled e none h = no_area area h
behind_colon sheet text before units [] area first (Some last) named spelled e none h =
    between_them sheet text area first last (two before units spelled named (whole_named units last e none)) h

last_named : (sheet : SheetId) (text before rest : List ℕ) (area : Area) (first : Corner) → NamesCell before first → text ≡ before ++ rest → area_to sheet first (last_corner first rest) ≡ Ok area → Named sheet text area
last_named sheet text before [] area first named spelled h =
    let whole : before ≡ text = sym (append-nil before) ∙ sym spelled in
    between_them sheet text area first first (one (subst (λ t. NamesCell t first) whole named) refl) h
last_named sheet text before (unit ∷ units) area first named spelled h =
    elim (cases_Bool (unit == colon)) [
      | inl is ↦
          let same : unit ≡ colon = eqb-true unit colon is in
          behind_colon sheet text before units (behind_corner units) area first (corner_of units) named (spelled ∙ ap (λ u. before ++ u ∷ units) same) refl refl (rw is at h)
      | inr no' ↦ no_area area (rw no' at h)
    ]

text_named : (sheet : SheetId) (text : List ℕ) (area : Area) (found : Option Corner) → corner_of text ≡ found → area_from sheet found (behind_corner text) ≡ Ok area → Named sheet text area
text_named sheet text area None e h = no_area area h
text_named sheet text area (Some first) e h = last_named sheet text (spelled_corner text) (behind_corner text) area first (corner_named text first e) (corner_split text) h

-- a text that is read is an address of what is read
pub reads_address : (sheet : SheetId) (text : List ℕ) (area : Area) → area_of_text sheet text ≡ Ok area → IsAddress text area × (area.sheet ≡ sheet)
reads_address sheet text area e =
    let named = text_named sheet text area (corner_of text) refl e in
    let own : area.sheet ≡ sheet = ap (λ (a : Area). a.sheet) named.between in
    (record { first = named.first; last = named.last; named = named.cells; between = named.between ∙ ap (λ s. area_between s named.first named.last) (sym own) }, own)

-- what begins with units that pass, and goes on with none

passed_first : (P : ℕ → Type 0) (passes : ℕ → Bool) → ((unit : ℕ) → P unit → passes unit ≡ true) → (units rest : List ℕ) → All P units → prefix_len passes rest ≡ 0 → prefix_len passes (units ++ rest) ≡ length units
passed_first P passes means [] rest all none = none
passed_first P passes means (unit ∷ units) rest all none =
    rw (means unit (All-head P unit units all), passed_first P passes means units rest (All-tail P unit units all) none) (one-add (length units))

front_reads : (P : ℕ → Type 0) (passes : ℕ → Bool) → ((unit : ℕ) → P unit → passes unit ≡ true) → (units rest : List ℕ) → All P units → prefix_len passes rest ≡ 0 → (take_while passes (units ++ rest) ≡ units) × (behind passes (units ++ rest) ≡ rest)
front_reads P passes means units rest all none =
    let n = passed_first P passes means units rest all none in
    (rw n (take_at units rest (length units) refl), rw n (drop_at units rest (length units) refl))

letter_passes : (unit : ℕ) → IsLetter unit → is_ascii_alphabetic unit ≡ true
letter_passes unit h = search rules

digit_passes : (unit : ℕ) → IsAsciiDigit unit → is_ascii_digit unit ≡ true
digit_passes unit h = grind arith

-- a letter and a digit are no dollars, and a digit is no letter
letter_is_none : (unit : ℕ) → IsLetter unit → (unit == dollar) ≡ false
letter_is_none unit h = grind (arith, letter_passes unit h)

digit_is_none : (unit : ℕ) → IsAsciiDigit unit → ((unit == dollar) ≡ false) × (is_ascii_alphabetic unit ≡ false)
digit_is_none unit h = (grind arith, grind arith)

dollar_reads : (written : Bool) (unit : ℕ) (units : List ℕ) → (unit == dollar) ≡ false → behind_dollar (dollar_text written ++ unit ∷ units) ≡ unit ∷ units
dollar_reads true unit units none = refl
dollar_reads false unit units none = rw none refl

letters_end : (written : Bool) (unit : ℕ) (units : List ℕ) → is_ascii_alphabetic unit ≡ false → prefix_len is_ascii_alphabetic (dollar_text written ++ unit ∷ units) ≡ 0
letters_end true unit units none = refl
letters_end false unit units none = rw none refl

record CornerReads (text letters digits rest : List ℕ) : Type 0 where
  reads_letters : first_letters text ≡ letters
  reads_digits : first_digits text ≡ digits
  behind_it : behind_corner text ≡ rest

corner_reads : (first second : Bool) (letters digits rest : List ℕ) → All IsLetter letters → All IsAsciiDigit digits → 0 < length letters → 0 < length digits → prefix_len is_ascii_digit rest ≡ 0 → CornerReads (dollar_text first ++ (letters ++ (dollar_text second ++ (digits ++ rest)))) letters digits rest
corner_reads first second [] digits rest all_letters all_digits some_letter some_digit none = absurd (omega arith)
corner_reads first second (letter ∷ letters) [] rest all_letters all_digits some_letter some_digit none = absurd (omega arith)
corner_reads first second (letter ∷ letters) (digit ∷ digits) rest all_letters all_digits some_letter some_digit none =
    let no_letter = letter_is_none letter (All-head IsLetter letter letters all_letters) in
    let no_digit = digit_is_none digit (All-head IsAsciiDigit digit digits all_digits) in
    let row = dollar_text second ++ (digit ∷ digits ++ rest) in
    let named = dollar_reads first letter (letters ++ row) no_letter in
    let read = front_reads IsLetter is_ascii_alphabetic letter_passes (letter ∷ letters) row all_letters (letters_end second digit (digits ++ rest) no_digit.1) in
    let numbered = dollar_reads second digit (digits ++ rest) no_digit.0 in
    let last = front_reads IsAsciiDigit is_ascii_digit digit_passes (digit ∷ digits) rest all_digits none in
    record {
      reads_letters = rw named read.0;
      reads_digits = rw (named, read.1, numbered) last.0;
      behind_it = rw (named, read.1, numbered) last.1;
    }

up_to : (n last : ℕ) → 1 ≤ n → n ≤ last → place_up_to last n ≡ Some n
up_to n last low high = grind arith

some_letters : (letters : List ℕ) → 1 ≤ column_of letters → 0 < length letters
some_letters [] h = absurd (omega arith)
some_letters (letter ∷ letters) h = omega arith

some_digits : (digits : List ℕ) → 1 ≤ digits_value 10 digits → 0 < length digits
some_digits [] h = absurd (omega arith)
some_digits (digit ∷ digits) h = omega arith

-- a cell's name, and what stands behind it, is read as that cell
record NameReads (text : List ℕ) (found : Corner) (rest : List ℕ) : Type 0 where
  reads_corner : corner_of text ≡ Some found
  behind_it : behind_corner text ≡ rest

name_reads : (text name rest : List ℕ) (found : Corner) → text ≡ name ++ rest → NamesCell name found → prefix_len is_ascii_digit rest ≡ 0 → NameReads text found rest
name_reads text name rest found spelled named none =
    let inside = named.inside in
    let reads = corner_reads named.column_dollar named.row_dollar named.letters named.digits rest named.are_letters named.are_digits
    (some_letters named.letters (omega (arith, inside.first_column, named.column))) (some_digits named.digits (omega (arith, inside.first_row, named.row))) none in
    let whole : text ≡ dollar_text named.column_dollar ++ (named.letters ++ (dollar_text named.row_dollar ++ (named.digits ++ rest))) =
    spelled ∙ ap (λ x. x ++ rest) named.spelled ∙ simp append_assoc in
    let row : place_up_to sheet_rows (digits_value 10 named.digits) ≡ Some found.row =
    rw (sym named.row) (up_to found.row sheet_rows inside.first_row inside.last_row) in
    let column : place_up_to sheet_columns (column_of named.letters) ≡ Some found.column =
    rw (sym named.column) (up_to found.column sheet_columns inside.first_column inside.last_column) in
    record {
      reads_corner = rw (whole, reads.reads_digits, reads.reads_letters, row, column) refl;
      behind_it = rw whole reads.behind_it;
    }

names_read : (sheet : SheetId) (text : List ℕ) (first last : Corner) → NamesCells text first last → area_of_text sheet text ≡ Ok (area_between sheet first last)
names_read sheet text first last (one named same) =
    let reads = name_reads text text [] first (sym (append-nil text)) named refl in
    rw (reads.reads_corner, reads.behind_it, same) refl
names_read sheet text first last (two before behind_it spelled named_first named_last) =
    let reads = name_reads text before (colon ∷ behind_it) first spelled named_first refl in
    let ends = name_reads behind_it behind_it [] last (sym (append-nil behind_it)) named_last refl in
    rw (reads.reads_corner, reads.behind_it, ends.reads_corner, ends.behind_it) refl

-- an address is read as its area
pub address_reads : (text : List ℕ) (area : Area) → IsAddress text area → area_of_text area.sheet text ≡ Ok area
address_reads text area is = names_read area.sheet text is.first is.last is.named ∙ ap Ok (sym is.between)

-- a text that isn't read is no address
no_address : (sheet : SheetId) (text : List ℕ) (bad : Bad) → area_of_text sheet text ≡ Err bad → (area : Area) → area.sheet ≡ sheet → ¬ (IsAddress text area)
no_address sheet text bad e area own is =
    let reads : area_of_text sheet text ≡ Ok area = ap (λ s. area_of_text s text) (sym own) ∙ address_reads text area is in
    let clash : ◌≡◌ {A = Result Area Bad} (Err bad) (Ok area) = sym e ∙ reads in
    cc

last_fault : (sheet : SheetId) (first : Corner) (last : Option Corner) (bad : Bad) → area_to sheet first last ≡ Err bad → bad ≡ host_error
last_fault sheet first None bad e = cc
last_fault sheet first (Some last) bad e = absurd (cc)

fault_is : (sheet : SheetId) (found : Option Corner) (rest : List ℕ) (bad : Bad) → area_from sheet found rest ≡ Err bad → bad ≡ host_error
fault_is sheet None rest bad e = cc
fault_is sheet (Some first) rest bad e = last_fault sheet first (last_corner first rest) bad e

-- what reading answers, in terms of addresses
pub reads_addresses : (sheet : SheetId) (text : List ℕ) (read : Result Area Bad) → read ≡ area_of_text sheet text → IfOk read (λ area. IsAddress text area)
reads_addresses sheet text (Ok area) e = (reads_address sheet text area (sym e)).0
reads_addresses sheet text (Err bad) e = tt

pub refuses_others : (sheet : SheetId) (text : List ℕ) (read : Result Area Bad) → read ≡ area_of_text sheet text → IfErr read (λ bad. (bad ≡ host_error) × ((area : Area) → area.sheet ≡ sheet → ¬ (IsAddress text area)))
refuses_others sheet text (Ok area) e = tt
refuses_others sheet text (Err bad) e = (fault_is sheet (corner_of text) (behind_corner text) bad (sym e), no_address sheet text bad (sym e))
