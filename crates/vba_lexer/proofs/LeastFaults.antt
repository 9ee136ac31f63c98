-- The fault of a line is the least one of its tokens: the places of tokens grow along a line.
use Rattle.std.proofs.Common.{◌≡◌, ℕ, ◌+◌, ◌-◌, ◌<◌, ◌≤◌, Bool, true, false, List, [], ◌∷◌, map, length, take, drop, Option, Some, None, refl, sym, ◌∙◌, ap, subst, arith, inl, inr, length-take-le, length-drop}
use Rattle.std.specs.Prelude.{◌⊎◌, if◌then◌else◌, ◌==◌, ◌&&◌, ◌||◌, nat_lt, nat_le, All, option_map}
use Rattle.std.specs.List.{AllByRecursion, cons_option}
use Rattle.std.proofs.lemmas.Bool.{lt-ltb, le-leb, eq-eqb}
use Rattle.std.proofs.lemmas.List.Elements.{All-from_recursion}
use Rattle.std.proofs.Math.Seq.{take-add}
use Rattle.vba_base.specs.declared.place.Refusal.{Refusal}
use Rattle.vba_lexer.specs.declared.cursor.Cursor.{Cursor}
use Rattle.vba_lexer.specs.Characters.{characters_of, width, behind, past, place_of}
use Rattle.vba_lexer.specs.Continuations.{LogicalLine, logical_lines}
use Rattle.vba_lexer.specs.Faults.{broken_rule, or_later, first_fault, faults_of}
use Rattle.vba_lexer.specs.Inside.{StandBetween}
use Rattle.vba_lexer.specs.Lexed.{token_of, lexed_line, lexed}
use Rattle.vba_lexer.specs.Order.{is_before, is_same_place, not_later, IsLeastOf}
use Rattle.vba_lexer.specs.Texts.{text_of}
use Rattle.vba_lexer.specs.Tokens.{Slice, slices_of}
use Rattle.vba_lexer.proofs.CharacterLemmas.{past-append, some_width}
use Rattle.vba_lexer.proofs.Inside.{slices_of-stand, StandBetween-le}

-- the one place stands before the other
abbrev Before : Cursor → Cursor → Type 0
Before one other = (one.line < other.line) ⊎ ((one.line ≡ other.line) × (one.column < other.column))

before-trans : (one other third : Cursor) → Before one other → Before other third → Before one third
before-trans one other third (inl a) (inl b) = inl (omega arith)
before-trans one other third (inl a) (inr b) = inl (let e : other.line ≡ third.line = b.0 in omega arith)
before-trans one other third (inr a) (inl b) = inl (let e : one.line ≡ other.line = a.0 in omega arith)
before-trans one other third (inr a) (inr b) = inr (a.0 ∙ b.0, let e : one.column < other.column = a.1 in let f : other.column < third.column = b.1 in omega arith)

before-behind : (cursor : Cursor) (character : ℕ) → Before cursor (behind cursor character)
before-behind cursor character = at (character == 10)
  where
    at : (feed : Bool) → Before cursor
        (if feed then record { units = cursor.units + 1; line = cursor.line + 1; column = 1 }
        else record { units = cursor.units + width character; line = cursor.line; column = cursor.column + width character })
    at true = inl (omega arith)
    at false = inr (refl, let some : 1 ≤ width character = some_width character in omega arith)

-- a place stands before those behind it
before-past : (cursor : Cursor) (character : ℕ) (line : List ℕ) → Before cursor (past cursor (character ∷ line))
before-past cursor character [] = before-behind cursor character
before-past cursor character (next ∷ line) =
    before-trans cursor (behind cursor character) (past (behind cursor character) (next ∷ line)) (before-behind cursor character)
    (before-past (behind cursor character) next line)

before-past_some : (cursor : Cursor) (line : List ℕ) → 0 < length line → Before cursor (past cursor line)
before-past_some cursor [] some = absurd (omega arith)
before-past_some cursor (character ∷ line) some = before-past cursor character line

before-take : (first : Cursor) (line : List ℕ) (place size : ℕ) → 0 < size → place + size ≤ length line
    → Before (past first (take place line)) (past first (take (place + size) line))
before-take first line place size some within =
    let e : past first (take (place + size) line) ≡ past (past first (take place line)) (take size (drop place line)) =
    ap (past first) (take-add place size line) ∙ past-append first (take place line) (take size (drop place line)) in
    let f : length (take size (drop place line)) ≡ size = length-take-le size (drop place line) (omega (arith, length-drop place line)) in
    subst (λ (c : Cursor). Before (past first (take place line)) c) (sym e)
    (before-past_some (past first (take place line)) (take size (drop place line)) (omega arith))

before-later : (first : Cursor) (line : List ℕ) (place later : ℕ) → place < later → later ≤ length line
    → Before (past first (take place line)) (past first (take later line))
before-later first line place later above within =
    let e : place + (later - place) ≡ later = omega arith in
    subst (λ (n : ℕ). Before (past first (take place line)) (past first (take n line))) e
    (before-take first line place (later - place) (omega arith) (omega arith))

or_true : (b : Bool) → (b || true) ≡ true
or_true true = refl
or_true false = refl

is_before-from : (number : ℕ) (one other : Cursor) → Before one other → is_before (place_of number one) (place_of number other) ≡ true
is_before-from number one other (inl above) = let e : nat_lt one.line other.line ≡ true = lt-ltb one.line other.line above in rw e
is_before-from number one other (inr same) =
    let e : (one.line == other.line) ≡ true = eq-eqb one.line other.line same.0 in
    let f : nat_lt one.column other.column ≡ true = lt-ltb one.column other.column same.1 in
    rw (e, f) (or_true (nat_lt one.line other.line))

not_later-before : (one other : Refusal) → is_before one.place other.place ≡ true → not_later one other ≡ true
not_later-before one other before = rw before

not_later-itself : (one : Refusal) → not_later one one ≡ true
not_later-itself one =
    let e : (one.place.line == one.place.line) ≡ true = eq-eqb one.place.line one.place.line refl in
    let f : (one.place.column == one.place.column) ≡ true = eq-eqb one.place.column one.place.column refl in
    let g : nat_le one.rule one.rule ≡ true = le-leb one.rule one.rule (omega arith) in
    let same : (is_same_place one.place one.place && nat_le one.rule one.rule) ≡ true = rw (e, f, g) refl in
    ap (λ (b : Bool). is_before one.place one.place || b) same ∙ or_true (is_before one.place one.place)

-- the rule that a slice's token breaks
abbrev rule_at : List ℕ → ℕ → Cursor → List ℕ → Slice → Option ℕ
rule_at source number first line slice = broken_rule slice.kind (text_of source (token_of number first line slice))

-- the faults of the tokens behind a place come later
faults-later : (source : List ℕ) (number : ℕ) (first : Cursor) (line : List ℕ) (rule start from to : ℕ) (slices : List Slice)
    → start < from → to ≤ length line → StandBetween from to slices
    → AllByRecursion (λ other. not_later (record { rule = rule; place = place_of number (past first (take start line)) }) other ≡ true)
    (faults_of source (map (token_of number first line) slices))
faults-later source number first line rule start from to [] above within stand = tt
faults-later source number first line rule start from to (slice ∷ slices) above within stand =
    let order : slice.start < slice.end = stand.1 in
    let low : from ≤ slice.start = stand.0 in
    let below : slice.end ≤ to = StandBetween-le slice.end to slices stand.2 in
    at (rule_at source number first line slice)
    (before-later first line start slice.start (omega arith) (omega arith))
    (faults-later source number first line rule start slice.end to slices (omega arith) within stand.2)
  where
    at : (broken : Option ℕ) → Before (past first (take start line)) (past first (take slice.start line))
        → AllByRecursion (λ other. not_later (record { rule = rule; place = place_of number (past first (take start line)) }) other ≡ true)
        (faults_of source (map (token_of number first line) slices))
        → AllByRecursion (λ other. not_later (record { rule = rule; place = place_of number (past first (take start line)) }) other ≡ true)
        (cons_option (option_map (λ r. record { rule = r; place = (token_of number first line slice).place }) broken)
        (faults_of source (map (token_of number first line) slices)))
    at None before later = later
    at (Some broken) before later = (
      not_later-before (record { rule = rule; place = place_of number (past first (take start line)) })
          (record { rule = broken; place = place_of number (past first (take slice.start line)) })
          (is_before-from number (past first (take start line)) (past first (take slice.start line)) before),
      later,
    )

-- the first fault is the least
first_fault-least : (source : List ℕ) (number : ℕ) (first : Cursor) (line : List ℕ) (from to : ℕ) (slices : List Slice)
    → to ≤ length line → StandBetween from to slices
    → IsLeastOf (faults_of source (map (token_of number first line) slices)) (first_fault source (map (token_of number first line) slices))
first_fault-least source number first line from to [] within stand = refl
first_fault-least source number first line from to (slice ∷ slices) within stand =
    at (rule_at source number first line slice) (first_fault-least source number first line slice.end to slices within stand.2)
  where
    at : (broken : Option ℕ)
        → IsLeastOf (faults_of source (map (token_of number first line) slices)) (first_fault source (map (token_of number first line) slices))
        → IsLeastOf
        (cons_option (option_map (λ r. record { rule = r; place = (token_of number first line slice).place }) broken)
        (faults_of source (map (token_of number first line) slices)))
        (or_later (option_map (λ r. record { rule = r; place = (token_of number first line slice).place }) broken)
        (first_fault source (map (token_of number first line) slices)))
    at None behind = behind
    at (Some rule) behind =
        let this : Refusal = record { rule = rule; place = place_of number (past first (take slice.start line)) } in
        record {
          among = (0, omega arith, refl);
          first = All-from_recursion (λ other. not_later this other ≡ true) (this ∷ faults_of source (map (token_of number first line) slices))
              (not_later-itself this, faults-later source number first line rule slice.start slice.end to slices stand.1 within stand.2);
        }

lines-least : (number : ℕ) (source : List ℕ) (lines : List LogicalLine)
    → AllByRecursion (λ line. IsLeastOf (faults_of source line.tokens) line.fault) (map (lexed_line number source) lines)
lines-least number source [] = tt
lines-least number source (line ∷ lines) = (
  first_fault-least source number line.first (characters_of line.text) 0 (length (characters_of line.text)) (slices_of (characters_of line.text)) (omega arith)
      (slices_of-stand (characters_of line.text)),
  lines-least number source lines,
)

-- so the fault of each lexed line is
pub lexed-least : (number : ℕ) (source : List ℕ) → All (λ line. IsLeastOf (faults_of source line.tokens) line.fault) (lexed number source)
lexed-least number source =
    All-from_recursion (λ line. IsLeastOf (faults_of source line.tokens) line.fault) (lexed number source) (lines-least number source (logical_lines source))
