-- The tokens of a line stand in order and lie within it, and those of a source lie within it.
use Rattle.std.proofs.Common.{◌≡◌, ℕ, zero, suc, ◌+◌, ◌-◌, ◌<◌, ◌≤◌, Bool, true, false, List, [], ◌∷◌, ◌++◌, map, length, take, refl, sym, ◌∙◌, ap, subst, arith, length-append, Option, Some, None}
use Rattle.std.specs.Prelude.{if◌then◌else◌, All}
use Rattle.std.specs.List.{AllByRecursion}
use Rattle.std.proofs.lemmas.List.{length-map}
use Rattle.std.proofs.lemmas.List.Elements.{All-from_recursion}
use Rattle.std.proofs.lemmas.List.Sums.{sum_by-cons}
use Rattle.vba_lexer.specs.declared.line.Line.{Line}
use Rattle.vba_lexer.specs.declared.cursor.Cursor.{Cursor}
use Rattle.vba_lexer.specs.declared.scan.Standing.{Standing}
use Rattle.vba_lexer.specs.declared.scan.Standing.TheVariants as standings
use Rattle.vba_lexer.specs.Characters.{characters_of, units_of, past, AreUnits}
use Rattle.vba_lexer.specs.Kinds.{is_gap}
use Rattle.vba_lexer.specs.Tokens.{IsToken, Front, front_of, is_first, front_text, begins_comment, standing_behind, Slice, slices_from, slices_of}
use Rattle.vba_lexer.specs.Header.{header_size, without_header}
use Rattle.vba_lexer.specs.Lines.{PhysicalLine, line_units, end_units, joined, lines_of}
use Rattle.vba_lexer.specs.Lexed.{LexedLine, lines_view, token_of, tokens_of, lexed_line, lexed}
use Rattle.vba_lexer.specs.Continuations.{LogicalLine, continued_text, if_continued, behind_line, logical_from, source_front, logical_lines}
use Rattle.vba_lexer.proofs.ContinuationLemmas.{length-continued, are_units-continued, are_units-join}
use Rattle.vba_lexer.specs.Inside.{StandBetween, IsWithin, LiesIn, AllLieIn, token_count, view_count}
use Rattle.vba_lexer.proofs.Fronts.{IsToken-front_of, IsToken-size}
use Rattle.vba_lexer.proofs.CharacterLemmas.{past-units, units_of-take, units_of-take-le, units_of-characters_of, length-characters_of, are_units-front, are_units-rest}
use Rattle.vba_lexer.proofs.Headers.{length-blanked, are_units-blanked}
use Rattle.vba_lexer.proofs.Splits.{AreLinesOf-lines_of}

StandBetween-from : (low from to : ℕ) (slices : List Slice) → low ≤ from → StandBetween from to slices → StandBetween low to slices
StandBetween-from low from to [] below stand = omega arith
StandBetween-from low from to (slice ∷ slices) below stand = (omega arith, stand.1, stand.2)

pub StandBetween-le : (from to : ℕ) (slices : List Slice) → StandBetween from to slices → from ≤ to
StandBetween-le from to [] stand = stand
StandBetween-le from to (slice ∷ slices) stand = let below : slice.end ≤ to = StandBetween-le slice.end to slices stand.2 in omega arith

moved : (from to low high : ℕ) (slices : List Slice) → from ≡ low → to ≡ high → StandBetween from to slices → StandBetween low high slices
moved from to low high slices e f stand =
    subst (λ (m : ℕ). StandBetween low m slices) f (subst (λ (m : ℕ). StandBetween m to slices) e stand)

-- a front token, and what stands behind it
front_stands : (standing : Standing) (place character : ℕ) (line : List ℕ) (gap comment : Bool) → is_gap character ≡ gap
    → ((standing : Standing) (skipped : ℕ) → skipped ≤ length line
    → StandBetween (place + 1 + skipped) (place + 1 + length line) (slices_from standing skipped (place + 1) line))
    → StandBetween (place + 0) (place + suc (length line))
    (if gap then slices_from standing 0 (place + 1) line
    else if comment then []
    else
    record {
      kind = (front_of (is_first standing) (character ∷ line)).kind;
      start = place;
      end = place + (front_of (is_first standing) (character ∷ line)).size;
    }
    ∷ slices_from (standing_behind (front_text standing (character ∷ line))) ((front_of (is_first standing) (character ∷ line)).size - 1) (place + 1) line)
front_stands standing place character line true comment e rest =
    StandBetween-from (place + 0) (place + 1 + 0) (place + suc (length line)) (slices_from standing 0 (place + 1) line) (omega arith)
    (moved (place + 1 + 0) (place + 1 + length line) (place + 1 + 0) (place + suc (length line)) (slices_from standing 0 (place + 1) line) refl (omega arith)
    (rest standing 0 (omega arith)))
front_stands standing place character line false true e rest = omega arith
front_stands standing place character line false false e rest =
    at (front_of (is_first standing) (character ∷ line)) (IsToken-front_of (is_first standing) character line e) (standing_behind (front_text standing (character ∷ line)))
  where
    at : (front : Front) → IsToken (is_first standing) (character ∷ line) front.kind front.size → (next : Standing)
        → StandBetween (place + 0) (place + suc (length line))
        (record { kind = front.kind; start = place; end = place + front.size } ∷ slices_from next (front.size - 1) (place + 1) line)
    at front token next =
        let some : 1 ≤ front.size = IsToken-size (is_first standing) (character ∷ line) front.kind front.size token in
        let within : front.size ≤ suc (length line) = token.within in (
          omega arith,
          omega arith,
          moved (place + 1 + (front.size - 1)) (place + 1 + length line) (place + front.size) (place + suc (length line))
              (slices_from next (front.size - 1) (place + 1) line) (omega arith) (omega arith) (rest next (front.size - 1) (omega arith)),
        )

-- from a place on, where so many characters belong to the token before
slices_from-stand : (standing : Standing) (skipped place : ℕ) (line : List ℕ) → skipped ≤ length line
    → StandBetween (place + skipped) (place + length line) (slices_from standing skipped place line)
slices_from-stand standing skipped place [] below = omega arith
slices_from-stand standing (suc skipped) place (character ∷ line) below =
    moved (place + 1 + skipped) (place + 1 + length line) (place + suc skipped) (place + suc (length line)) (slices_from standing skipped (place + 1) line)
    (omega arith) (omega arith) (slices_from-stand standing skipped (place + 1) line (omega arith))
slices_from-stand standing zero place (character ∷ line) below =
    front_stands standing place character line (is_gap character) (begins_comment standing (character ∷ line)) refl
    (λ next skipped below. slices_from-stand next skipped (place + 1) line below)

-- the tokens of a line stand in order within it
pub slices_of-stand : (line : List ℕ) → StandBetween 0 (length line) (slices_of line)
slices_of-stand line =
    moved (0 + 0) (0 + length line) 0 (length line) (slices_of line) (omega arith) (omega arith) (slices_from-stand standings.First 0 0 line (omega arith))

-- there are no more of them than units
StandBetween-length : (from to : ℕ) (slices : List Slice) → StandBetween from to slices → from + length slices ≤ to
StandBetween-length from to [] stand = omega arith
StandBetween-length from to (slice ∷ slices) stand =
    let below : slice.end + length slices ≤ to = StandBetween-length slice.end to slices stand.2 in
    let start : from ≤ slice.start = stand.0 in
    let end : slice.start < slice.end = stand.1 in
    omega arith

-- they lie in a source that goes on at least as far as their line
pub tokens_within : (size number : ℕ) (first : Cursor) (line : List ℕ) (from to : ℕ) (slices : List Slice) → StandBetween from to slices
    → first.units + units_of line ≤ size → AllByRecursion (IsWithin size) (map (token_of number first line) slices)
tokens_within size number first line from to [] stand below = tt
tokens_within size number first line from to (slice ∷ slices) stand below =
    let end : slice.start < slice.end = stand.1 in
    let a : (past first (take slice.start line)).units ≡ first.units + units_of (take slice.start line) = past-units first (take slice.start line) in
    let b : (past first (take slice.end line)).units ≡ first.units + units_of (take slice.end line) = past-units first (take slice.end line) in
    let c : units_of (take slice.start line) ≤ units_of (take slice.end line) = units_of-take-le slice.start slice.end line (omega arith) in
    let d : units_of (take slice.end line) ≤ units_of line = units_of-take slice.end line in
    (record { order = omega arith; inside = omega arith }, tokens_within size number first line slice.end to slices stand.2 below)

abbrev view_within : ℕ → LexedLine → Type 0
view_within size line = All (IsWithin size) line.tokens

length-joined : (line : PhysicalLine) (lines : List PhysicalLine) → length (joined (line ∷ lines)) ≡ length (line_units line) + length (joined lines)
length-joined line lines = length-append (line_units line) (joined lines)

text-le : (line : PhysicalLine) → length line.text ≤ length (line_units line)
text-le line = let e : length (line_units line) ≡ length line.text + length (end_units line.ending) = length-append line.text (end_units line.ending) in omega arith

-- the tokens of a line lie in a source that goes on at least as far as the line
pub tokens_of-within : (number : ℕ) (first : Cursor) (text : List ℕ) → AreUnits text → (size : ℕ) → first.units + length text ≤ size
    → All (IsWithin size) (tokens_of number first (characters_of text))
tokens_of-within number first text units size below =
    let e : units_of (characters_of text) ≡ length text = units_of-characters_of text units in
    All-from_recursion (IsWithin size) (tokens_of number first (characters_of text))
    (tokens_within size number first (characters_of text) 0 (length (characters_of text)) (slices_of (characters_of text)) (slices_of-stand (characters_of text)) (omega arith))

-- a logical line lies in a source of this size
record LogicalWithin (size : ℕ) (line : LogicalLine) : Type 0 where
  pub units : AreUnits line.text
  pub within : line.first.units + length line.text ≤ size

logical_from-within : (size : ℕ) (first : Cursor) (before : List ℕ) (cursor : Cursor) (lines : List PhysicalLine) → AreUnits before → AreUnits (joined lines)
    → first.units + length before ≡ cursor.units → cursor.units + length (joined lines) ≤ size
    → AllByRecursion (LogicalWithin size) (logical_from first before cursor lines)
logical_from-within size first before cursor [] before_units units filled below = tt
logical_from-within size first before cursor (line ∷ lines) before_units units filled below =
    at (continued_text line) (λ next text cursor. logical_from-within size next text cursor lines) refl
  where
    line_are_units : AreUnits line.text
    line_are_units = are_units-front line.text (end_units line.ending) (are_units-front (line_units line) (joined lines) units)

    rest_are_units : AreUnits (joined lines)
    rest_are_units = are_units-rest (line_units line) (joined lines) units

    at : (continued : Option (List ℕ))
        → ((next : Cursor) (text : List ℕ) (cursor : Cursor) → AreUnits text → AreUnits (joined lines) → next.units + length text ≡ cursor.units
        → cursor.units + length (joined lines) ≤ size → AllByRecursion (LogicalWithin size) (logical_from next text cursor lines))
        → continued_text line ≡ continued
        → AllByRecursion (LogicalWithin size)
        (if_continued continued (λ text. logical_from first (before ++ text) (behind_line cursor line) lines)
        (record { first = first; text = before ++ line.text } ∷ logical_from (behind_line cursor line) [] (behind_line cursor line) lines))
    at None rest e =
        let a : length (joined (line ∷ lines)) ≡ length (line_units line) + length (joined lines) = length-joined line lines in
        let b : length line.text ≤ length (line_units line) = text-le line in
        let d : length (before ++ line.text) ≡ length before + length line.text = length-append before line.text in (
          record { units = are_units-join before line.text before_units line_are_units; within = omega arith },
          rest (behind_line cursor line) [] (behind_line cursor line) (λ place. omega arith) rest_are_units (omega arith) (omega arith),
        )
    at (Some text) rest e =
        let a : length (joined (line ∷ lines)) ≡ length (line_units line) + length (joined lines) = length-joined line lines in
        let b : length text ≡ length (line_units line) = length-continued line text e in
        let d : length (before ++ text) ≡ length before + length text = length-append before text in
        rest first (before ++ text) (behind_line cursor line)
        (are_units-join before text before_units (are_units-continued line text e line_are_units)) rest_are_units (omega arith) (omega arith)

lexed-within : (size number : ℕ) (source : List ℕ) (lines : List LogicalLine) → AllByRecursion (LogicalWithin size) lines
    → AllByRecursion (view_within size) (map (lexed_line number source) lines)
lexed-within size number source [] all = tt
lexed-within size number source (line ∷ lines) all =
    let one : LogicalWithin size line = all.0 in
    (tokens_of-within number line.first line.text one.units size one.within, lexed-within size number source lines all.1)

-- no line has more tokens than units
tokens_of-count : (number : ℕ) (first : Cursor) (text : List ℕ) → length (tokens_of number first (characters_of text)) ≤ length text
tokens_of-count number first text =
    let g : 0 + length (slices_of (characters_of text)) ≤ length (characters_of text) =
    StandBetween-length 0 (length (characters_of text)) (slices_of (characters_of text)) (slices_of-stand (characters_of text)) in
    let h : length (tokens_of number first (characters_of text)) ≡ length (slices_of (characters_of text)) =
    length-map (slices_of (characters_of text)) (token_of number first (characters_of text)) in
    let j : length (characters_of text) ≤ length text = length-characters_of text in
    omega arith

logical_from-count : (number : ℕ) (source : List ℕ) (first : Cursor) (before : List ℕ) (cursor : Cursor) (lines : List PhysicalLine)
    → view_count (map (lexed_line number source) (logical_from first before cursor lines)) ≤ length before + length (joined lines)
logical_from-count number source first before cursor [] = omega arith
logical_from-count number source first before cursor (line ∷ lines) =
    at (continued_text line) (λ next text cursor. logical_from-count number source next text cursor lines) refl
  where
    at : (continued : Option (List ℕ))
        → ((next : Cursor) (text : List ℕ) (cursor : Cursor)
        → view_count (map (lexed_line number source) (logical_from next text cursor lines)) ≤ length text + length (joined lines))
        → continued_text line ≡ continued
        → view_count (map (lexed_line number source)
        (if_continued continued (λ text. logical_from first (before ++ text) (behind_line cursor line) lines)
        (record { first = first; text = before ++ line.text } ∷ logical_from (behind_line cursor line) [] (behind_line cursor line) lines)))
        ≤ length before + length (joined (line ∷ lines))
    at None rest e =
        let a : length (joined (line ∷ lines)) ≡ length (line_units line) + length (joined lines) = length-joined line lines in
        let b : length line.text ≤ length (line_units line) = text-le line in
        let d : length (before ++ line.text) ≡ length before + length line.text = length-append before line.text in
        let f : length (tokens_of number first (characters_of (before ++ line.text))) ≤ length (before ++ line.text) =
        tokens_of-count number first (before ++ line.text) in
        let g : view_count (map (lexed_line number source) (logical_from (behind_line cursor line) [] (behind_line cursor line) lines)) ≤ 0 + length (joined lines) =
        rest (behind_line cursor line) [] (behind_line cursor line) in
        omega arith
    at (Some text) rest e =
        let a : length (joined (line ∷ lines)) ≡ length (line_units line) + length (joined lines) = length-joined line lines in
        let b : length text ≡ length (line_units line) = length-continued line text e in
        let d : length (before ++ text) ≡ length before + length text = length-append before text in
        let g : view_count (map (lexed_line number source) (logical_from first (before ++ text) (behind_line cursor line) lines)) ≤ length (before ++ text) + length (joined lines) =
        rest first (before ++ text) (behind_line cursor line) in
        omega arith

unviewed : (size : ℕ) (lines : List Line) → AllByRecursion (view_within size) (lines_view lines) → AllByRecursion (λ line. All (IsWithin size) line.tokens.items) lines
unviewed size [] all = tt
unviewed size (line ∷ lines) all = (all.0, unviewed size lines all.1)

count_view : (lines : List Line) → token_count lines ≡ view_count (lines_view lines)
count_view [] = refl
count_view (line ∷ lines) =
    sum_by-cons (λ (l : Line). length l.tokens.items) line lines ∙ ap (λ (n : ℕ). length line.tokens.items + n) (count_view lines)

-- the lines that are read take as many units as the source
length-without_header : (source : List ℕ) → length (joined (without_header (lines_of source))) ≡ length source
length-without_header source =
    length-blanked (header_size (lines_of source)) (lines_of source) ∙ ap length (AreLinesOf-lines_of source).whole

-- the tokens of what lexing gives lie in the source
pub lies_in-lexed : (number : ℕ) (source : List ℕ) (lines : List Line) → AreUnits source → lines_view lines ≡ lexed number source → AllLieIn source lines
lies_in-lexed number source lines units same =
    let whole : joined (lines_of source) ≡ source = (AreLinesOf-lines_of source).whole in
    let e : length (joined (without_header (lines_of source))) ≡ length source = length-without_header source in
    let fit : AreUnits (joined (without_header (lines_of source))) =
    are_units-blanked (header_size (lines_of source)) (lines_of source) (subst AreUnits (sym whole) units) in
    All-from_recursion (LiesIn source) lines
    (unviewed (length source) lines
    (subst (λ (views : List LexedLine). AllByRecursion (view_within (length source)) views) (sym same)
    (lexed-within (length source) number source (logical_lines source)
    (logical_from-within (length source) source_front [] source_front (without_header (lines_of source)) (λ place. omega arith) fit refl (omega arith)))))

-- and there are no more of them than units
pub view_count-lexed : (number : ℕ) (source : List ℕ) → view_count (lexed number source) ≤ length source
view_count-lexed number source =
    let e : length (joined (without_header (lines_of source))) ≡ length source = length-without_header source in
    let f : view_count (lexed number source) ≤ 0 + length (joined (without_header (lines_of source))) =
    logical_from-count number source source_front [] source_front (without_header (lines_of source)) in
    omega arith

pub token_count-lexed : (number : ℕ) (source : List ℕ) (lines : List Line) → lines_view lines ≡ lexed number source → token_count lines ≤ length source
token_count-lexed number source lines same =
    let f = view_count-lexed number source in
    let g : token_count lines ≡ view_count (lexed number source) = count_view lines ∙ ap view_count same in
    omega arith
