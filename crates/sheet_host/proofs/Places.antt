-- Rows and columns that texts name.
use Rattle.std.proofs.Common.{◌≡◌, ℕ, ◌+◌, ◌*◌, ◌-◌, ◌≤◌, ◌<◌, List, [], ◌∷◌, length, take, zero, suc, arith, get_or, Option, None, ap, ◌∙◌}
use Rattle.std.specs.Prelude.{fold}
use Rattle.std.specs.Char.{IsAsciiDigit, digit_value}
use Rattle.std.specs.Str.Parse.{digits_value}
use Rattle.std.proofs.lemmas.List.Sums.{fold_more}
use Rattle.std.proofs.lemmas.Int.Digits.{digits_value_more}
use Rattle.std.proofs.lemmas.Str.Parse.{digits_value-take-le}
use Rattle.sheet_host.specs.Size.{sheet_rows, sheet_columns}
use Rattle.sheet_host.specs.Address.{letter_number, column_of}
use Rattle.sheet_host.specs.AddressText.{place_up_to}

letters_grow : (column : ℕ) (letters : List ℕ) → column ≤ fold (λ n letter. n * 26 + letter_number letter) column letters
letters_grow column [] = omega arith
letters_grow column (letter ∷ letters) = omega (arith, letters_grow (column * 26 + letter_number letter) letters)

fewer_letters : (column : ℕ) (letters : List ℕ) (i : ℕ) → fold (λ n letter. n * 26 + letter_number letter) column (take i letters) ≤ fold (λ n letter. n * 26 + letter_number letter) column letters
fewer_letters column letters zero = letters_grow column letters
fewer_letters column [] (suc i) = omega arith
fewer_letters column (letter ∷ letters) (suc i) = fewer_letters (column * 26 + letter_number letter) letters i

-- letters that name a column behind the last, and more behind them
pub column_behind_last : (letters : List ℕ) (i : ℕ) → i < length letters → sheet_columns < column_of (take i letters) * 26 + letter_number (get_or letters i 0) → ◌≡◌ {A = Option ℕ} None (place_up_to sheet_columns (column_of letters))
column_behind_last letters i h behind =
    let more : column_of (take (i + 1) letters) ≡ column_of (take i letters) * 26 + letter_number (get_or letters i 0) = fold_more (λ n letter. n * 26 + letter_number letter) 0 letters i 0 h in
    let less : column_of (take (i + 1) letters) ≤ column_of letters = fewer_letters 0 letters (i + 1) in
    let all : sheet_columns < column_of letters = omega arith in
    grind arith

pub row_more : (digits : List ℕ) (i : ℕ) → i < length digits → IsAsciiDigit (get_or digits i 0) → digits_value 10 (take (i + 1) digits) ≡ digits_value 10 (take i digits) * 10 + (get_or digits i 0 - 48)
row_more digits i h digit =
    let value : digit_value (get_or digits i 0) ≡ get_or digits i 0 - 48 = grind arith in
    digits_value_more 10 digits i h ∙ ap (λ n. digits_value 10 (take i digits) * 10 + n) value

-- digits of a row behind the last, and more behind them
pub row_behind_last : (digits : List ℕ) (i : ℕ) → i < length digits → IsAsciiDigit (get_or digits i 0) → sheet_rows < digits_value 10 (take i digits) * 10 + (get_or digits i 0 - 48) → ◌≡◌ {A = Option ℕ} None (place_up_to sheet_rows (digits_value 10 digits))
row_behind_last digits i h digit behind =
    let more = row_more digits i h digit in
    let less : digits_value 10 (take (i + 1) digits) ≤ digits_value 10 digits = digits_value-take-le 10 digits (i + 1) (omega arith) in
    let all : sheet_rows < digits_value 10 digits = omega arith in
    grind arith
