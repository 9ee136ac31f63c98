-- An address that is written names its area.
use Rattle.std.proofs.Common.{◌≡◌, ℕ, ◌+◌, ◌-◌, ◌*◌, ◌/◌, ◌%◌, ◌<◌, ◌≤◌, true, nat_lt, ◌&&◌, List, [], ◌∷◌, ◌++◌, refl, sym, ◌∙◌, subst, arith, inl, inr, min, max}
use Rattle.std.specs.Prelude.{All, ◌==◌}
use Rattle.std.specs.Char.{IsAsciiDigit, digit_value}
use Rattle.std.specs.Fmt.{decimal}
use Rattle.std.specs.Str.Parse.{AllDigits}
use Rattle.std.proofs.lemmas.List.Elements.{All-nil, All-cons}
use Rattle.std.proofs.lemmas.Bool.{cases_Bool, cond-true, ltb-true, ltb-false, and_parts, eqb-true}
use Rattle.std.proofs.lemmas.Fmt.{decimal_is_IsNumeral}
use Rattle.sheet_host.specs.declared.area.Area.{Area}
use Rattle.sheet_host.specs.declared.corner.Corner.{Corner}
use Rattle.sheet_host.specs.Size.{IsInside, IsAreaInside, sheet_columns}
use Rattle.sheet_host.specs.Area.{bottom, right}
use Rattle.sheet_host.specs.Address.{colon, IsLetter, letter, letter_number, column_letters, column_of, cell_text, NamesCell, one, two, area_between, IsAddress, address_of}

letter_is : (place : ℕ) → IsLetter (letter place)
letter_is place = let low : place % 26 < 26 = omega arith in grind arith

number_is : (place : ℕ) → letter_number (letter place) ≡ place % 26 + 1
number_is place = let low : place % 26 < 26 = omega arith in grind arith

one_letter : (x a : ℕ) → letter_number x ≡ a → column_of (x ∷ []) ≡ a
one_letter x a e = rw e (omega arith)

two_letters : (x y a b : ℕ) → letter_number x ≡ a → letter_number y ≡ b → column_of (x ∷ y ∷ []) ≡ a * 26 + b
two_letters x y a b e f = rw (e, f) (omega arith)

three_letters : (x y z a b c : ℕ) → letter_number x ≡ a → letter_number y ≡ b → letter_number z ≡ c → column_of (x ∷ y ∷ z ∷ []) ≡ (a * 26 + b) * 26 + c
three_letters x y z a b c e f g = rw (e, f, g) (omega arith)

value_of_three : (n : ℕ) → 702 < n → n ≤ 16384 → (((n - 703) / 676 % 26 + 1) * 26 + ((n - 27) / 26 % 26 + 1)) * 26 + ((n - 1) % 26 + 1) ≡ n
value_of_three n low high = omega arith

value_of_two : (n : ℕ) → 26 < n → n ≤ 702 → ((n - 27) / 26 % 26 + 1) * 26 + ((n - 1) % 26 + 1) ≡ n
value_of_two n low high = omega arith

value_of_one : (n : ℕ) → 1 ≤ n → n ≤ 26 → (n - 1) % 26 + 1 ≡ n
value_of_one n low high = omega arith

-- the letters of a column name it
record NameColumn (letters : List ℕ) (column : ℕ) : Type 0 where
  names : column_of letters ≡ column
  all : All IsLetter letters

letters_column : (column : ℕ) → 1 ≤ column → column ≤ sheet_columns → NameColumn (column_letters column) column
letters_column column low high =
    let a = letter ((column - 703) / 676) in
    let b = letter ((column - 27) / 26) in
    let c = letter (column - 1) in
    let is_a = number_is ((column - 703) / 676) in
    let is_b = number_is ((column - 27) / 26) in
    let is_c = number_is (column - 1) in
    let all_c : All IsLetter (c ∷ []) = All-cons IsLetter c [] (letter_is (column - 1)) (All-nil IsLetter) in
    let all_b : All IsLetter (b ∷ c ∷ []) = All-cons IsLetter b (c ∷ []) (letter_is ((column - 27) / 26)) all_c in
    let all_a : All IsLetter (a ∷ b ∷ c ∷ []) = All-cons IsLetter a (b ∷ c ∷ []) (letter_is ((column - 703) / 676)) all_b in
    elim (cases_Bool (nat_lt 702 column)) [
      | inl more ↦
          let above : 702 < column = ltb-true 702 column more in
          let same : a ∷ b ∷ c ∷ [] ≡ column_letters column = sym (cond-true (nat_lt 702 column) _ _ more) in
          subst (λ l. NameColumn l column) same (record { names = three_letters a b c _ _ _ is_a is_b is_c ∙ value_of_three column above high; all = all_a })
      | inr few ↦ elim (cases_Bool (nat_lt 26 column)) [
        | inl more ↦
            let above : 26 < column = ltb-true 26 column more in
            let below : column ≤ 702 = ltb-false 702 column few in
            let same : b ∷ c ∷ [] ≡ column_letters column = rw (few, more) refl in
            subst (λ l. NameColumn l column) same (record { names = two_letters b c _ _ is_b is_c ∙ value_of_two column above below; all = all_b })
        | inr one' ↦
            let below : column ≤ 26 = ltb-false 26 column one' in
            let same : c ∷ [] ≡ column_letters column = rw (few, one') refl in
            subst (λ l. NameColumn l column) same (record { names = one_letter c _ is_c ∙ value_of_one column low below; all = all_c })
      ]
    ]

digit_below_ten : (unit : ℕ) → digit_value unit < 10 → IsAsciiDigit unit
digit_below_ten unit h = grind arith

all_digits : (digits : List ℕ) → AllDigits 10 digits → All IsAsciiDigit digits
all_digits [] h = All-nil IsAsciiDigit
all_digits (digit ∷ digits) h = All-cons IsAsciiDigit digit digits (digit_below_ten digit h.0) (all_digits digits h.1)

cell_named : (row column : ℕ) → IsInside row column → NamesCell (cell_text row column) (record { row = row; column = column })
cell_named row column inside =
    let letters = letters_column column inside.first_column inside.last_column in
    let digits = decimal_is_IsNumeral row (omega (arith, inside.last_row)) in
    record {
      column_dollar = true;
      letters = column_letters column;
      row_dollar = true;
      digits = decimal row;
      spelled = refl;
      are_letters = letters.all;
      are_digits = all_digits (decimal row) digits.0.1;
      column = sym letters.names;
      row = sym digits.1;
      inside = inside;
    }

area_is : (area : Area) (first last : Corner) → first.row ≡ area.top → first.column ≡ area.left → last.row ≡ bottom area → last.column ≡ right area → IsAreaInside area → area ≡ area_between area.sheet first last
area_is area first last e f g h inside =
    let rows : max first.row last.row - min first.row last.row + 1 ≡ area.rows = omega (arith, inside.some_row) in
    let columns : max first.column last.column - min first.column last.column + 1 ≡ area.columns = omega (arith, inside.some_column) in
    let top : min first.row last.row ≡ area.top = omega (arith, inside.some_row) in
    let left : min first.column last.column ≡ area.left = omega (arith, inside.some_column) in
    sym (rw (rows, columns, top, left) refl)

-- the address that is written for an area is an address of it
pub written_address : (area : Area) → IsAreaInside area → IsAddress (address_of area) area
written_address area inside =
    let first : Corner = record { row = area.top; column = area.left } in
    let last : Corner = record { row = bottom area; column = right area } in
    let named_first : NamesCell (cell_text area.top area.left) first = cell_named area.top area.left (record {
      first_row = inside.first_row;
      last_row = omega (arith, inside.last_row, inside.some_row);
      first_column = inside.first_column;
      last_column = omega (arith, inside.last_column, inside.some_column);
    }) in
    let named_last : NamesCell (cell_text (bottom area) (right area)) last = cell_named (bottom area) (right area) (record {
      first_row = omega (arith, inside.first_row, inside.some_row);
      last_row = omega (arith, inside.last_row, inside.some_row);
      first_column = omega (arith, inside.first_column, inside.some_column);
      last_column = omega (arith, inside.last_column, inside.some_column);
    }) in
    elim (cases_Bool (area.rows == 1 && area.columns == 1)) [
      | inl single ↦
          let sizes = and_parts (area.rows == 1) (area.columns == 1) single in
          let row : area.rows ≡ 1 = eqb-true area.rows 1 sizes.0 in
          let column : area.columns ≡ 1 = eqb-true area.columns 1 sizes.1 in
          let same : cell_text area.top area.left ≡ address_of area = rw single refl in
          subst (λ t. IsAddress t area) same (record { first = first; last = first; named = one named_first refl; between = area_is area first first refl refl (omega arith) (omega arith) inside })
      | inr several ↦
          let same : cell_text area.top area.left ++ colon ∷ cell_text (bottom area) (right area) ≡ address_of area = rw several refl in
          subst (λ t. IsAddress t area) same (record {
            first = first;
            last = last;
            named = two (cell_text area.top area.left) (cell_text (bottom area) (right area)) refl named_first named_last;
            between = area_is area first last refl refl refl refl inside;
          })
    ]
