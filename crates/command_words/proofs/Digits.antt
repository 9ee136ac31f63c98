-- The number that digits stand for, digit by digit.
use Rattle.std.proofs.Common.{◌≡◌, ℕ, ◌+◌, ◌-◌, ◌*◌, ◌<◌, ◌≤◌, true, false, List, [], ◌∷◌, length, drop, get_or, Some, None, ap, ◌∙◌, arith}
use Rattle.std.specs.Prelude.{nat_le}
use Rattle.std.specs.List.{list_all}
use Rattle.std.proofs.lemmas.Bool.{le-leb, lt-leb, and_from, and_left, and_right}
use Rattle.std.proofs.lemmas.List.{drop_more, drop_all}
use Rattle.command_words.specs.Words.{is_digit, number_from, turns_from, most_turns}

-- what was read before is at most the whole number
number_from-ge : (before : ℕ) (digits : List ℕ) → before ≤ number_from before digits
number_from-ge before [] = omega arith
number_from-ge before (unit ∷ digits) = omega (arith, number_from-ge (before * 10 + (unit - 48)) digits)

pub turns_from_above : (before : ℕ) (text : List ℕ) → most_turns < before → turns_from before text ≡ None
turns_from_above before text above =
    rw (and_right (list_all is_digit text) (nat_le (number_from before text) most_turns)
    (lt-leb (number_from before text) most_turns (omega (arith, number_from-ge before text))))

pub turns_from_all : (before : ℕ) (text : List ℕ) (index : ℕ) → length text ≤ index → before ≤ most_turns
    → turns_from before (drop index text) ≡ Some before
turns_from_all before text index all small = rw (drop_all index text all, le-leb before most_turns small)

turns_from_digit : (before unit : ℕ) (text : List ℕ) → is_digit unit ≡ true
    → turns_from before (unit ∷ text) ≡ turns_from (before * 10 + (unit - 48)) text
turns_from_digit before unit text digit = rw digit

pub turns_from_more : (before : ℕ) (text : List ℕ) (index : ℕ) → index < length text → 48 ≤ get_or text index 0 → get_or text index 0 ≤ 57
    → turns_from before (drop index text) ≡ turns_from (before * 10 + (get_or text index 0 - 48)) (drop (index + 1) text)
turns_from_more before text index more low high =
    ap (turns_from before) (drop_more text index 0 more)
    ∙ turns_from_digit before (get_or text index 0) (drop (index + 1) text)
    (and_from (nat_le 48 (get_or text index 0)) (nat_le (get_or text index 0) 57) (le-leb 48 (get_or text index 0) low) (le-leb (get_or text index 0) 57 high))

turns_from_other : (before unit : ℕ) (text : List ℕ) → is_digit unit ≡ false → turns_from before (unit ∷ text) ≡ None
turns_from_other before unit text other = rw other

pub turns_from_low : (before : ℕ) (text : List ℕ) (index : ℕ) → index < length text → get_or text index 0 < 48
    → turns_from before (drop index text) ≡ None
turns_from_low before text index more low =
    ap (turns_from before) (drop_more text index 0 more)
    ∙ turns_from_other before (get_or text index 0) (drop (index + 1) text)
    (and_left (nat_le 48 (get_or text index 0)) (nat_le (get_or text index 0) 57) (lt-leb 48 (get_or text index 0) low))

pub turns_from_high : (before : ℕ) (text : List ℕ) (index : ℕ) → index < length text → 57 < get_or text index 0
    → turns_from before (drop index text) ≡ None
turns_from_high before text index more high =
    ap (turns_from before) (drop_more text index 0 more)
    ∙ turns_from_other before (get_or text index 0) (drop (index + 1) text)
    (and_right (nat_le 48 (get_or text index 0)) (nat_le (get_or text index 0) 57) (lt-leb (get_or text index 0) 57 high))
