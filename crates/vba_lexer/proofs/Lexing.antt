-- The steps of the loop over lines.
use Rattle.std.proofs.Common.{◌≡◌, ℕ, ◌+◌, ◌-◌, ◌<◌, ◌≤◌, List, [], ◌∷◌, ◌++◌, map, length, drop, take, Some, None, refl, sym, ◌∙◌, ap, subst, arith, append_assoc, length-append, length-take-le, length-drop, true, false, inl, inr}
use Rattle.std.proofs.lemmas.List.{append-nil, map-append}
use Rattle.vba_lexer.specs.declared.cursor.Cursor.{Cursor}
use Rattle.vba_lexer.specs.declared.line.Line.{Line}
use Rattle.vba_lexer.specs.declared.lines.Ending.{Ending}
use Rattle.vba_lexer.specs.Continuations.{LogicalLine, continued_at, continued_text, inner_text, behind_line, logical_from, source_front}
use Rattle.vba_lexer.specs.FirstLine.{end_size, IsFirstLine}
use Rattle.vba_lexer.specs.Header.{header_size, blank_line, blanked, text_behind_header}
use Rattle.vba_lexer.specs.Lines.{PhysicalLine, line_units, end_units, is_last, lines_of}
use Rattle.std.specs.Prelude.{option_map}
use Rattle.std.proofs.lemmas.Bool.{cases_lt}
use Rattle.vba_lexer.proofs.ContinuationLemmas.{length-continued, end_size-some}
use Rattle.vba_lexer.proofs.Headers.{next_lines, last_line, continued_text-blank, lexed_line-blank, length-blank, empty_from, blanked-header, blanked-behind, blanked-none, read_nothing, read_text}
use Rattle.vba_lexer.specs.Lexed.{LexedLine, line_view, lines_view, lexed_line, lexed}

-- the lines so far, the text of the logical line that began at `first`, and the lines from the cursor on are those of the source,
-- where so many lines count as empty
pub record LinesGoOn (number : ℕ) (source : List ℕ) (header : ℕ) (lines : List Line) (text : List ℕ) (first cursor : Cursor) : Type 0 where
  pub within : cursor.units ≤ length source
  pub numbered : cursor.line ≤ cursor.units + 1
  pub first_numbered : first.line ≤ cursor.line
  pub first_column : first.column ≡ 1
  pub filled : first.units + length text ≡ cursor.units
  pub in_header : cursor.line ≤ header → text ≡ []
  pub go_on : lines_view lines
      ++ map (lexed_line number source) (logical_from first text cursor (blanked (empty_from header cursor.line) (lines_of (drop cursor.units source))))
      ≡ lexed number source

pub none_so_far : (number : ℕ) (source : List ℕ) (header : ℕ) → header ≡ header_size (lines_of source)
    → LinesGoOn number source header [] [] source_front source_front
none_so_far number source header is_header =
    let e : header + 1 - 1 ≡ header = omega arith in
    record {
      within = omega arith;
      numbered = omega arith;
      first_numbered = omega arith;
      first_column = refl;
      filled = refl;
      in_header = λ inside. refl;
      go_on = ap (λ (count : ℕ). map (lexed_line number source) (logical_from source_front [] source_front (blanked count (lines_of source)))) (e ∙ is_header);
    }

-- the first line from a cursor on
abbrev pub first_at : List ℕ → Cursor → ℕ → Ending → PhysicalLine
first_at source cursor size ending = record { text = take size (drop cursor.units source); ending = ending }

-- the cursor behind it
abbrev pub cursor_behind : Cursor → ℕ → Cursor
cursor_behind cursor size = record { units = cursor.units + size; line = cursor.line + 1; column = 1 }

length-first_at : (source : List ℕ) (cursor : Cursor) (size : ℕ) (ending : Ending) → size + end_size ending ≤ length (drop cursor.units source)
    → length (line_units (first_at source cursor size ending)) ≡ size + end_size ending
length-first_at source cursor size ending within =
    let a : length (take size (drop cursor.units source) ++ end_units ending) ≡ length (take size (drop cursor.units source)) + length (end_units ending) =
    length-append (take size (drop cursor.units source)) (end_units ending) in
    let b : length (take size (drop cursor.units source)) ≡ size = length-take-le size (drop cursor.units source) (omega arith) in
    omega arith

behind_first : (source : List ℕ) (cursor : Cursor) (size : ℕ) (ending : Ending) → size + end_size ending ≤ length (drop cursor.units source)
    → behind_line cursor (first_at source cursor size ending) ≡ cursor_behind cursor (size + end_size ending)
behind_first source cursor size ending within = ap (cursor_behind cursor) (length-first_at source cursor size ending within)

-- the lines from a cursor on: the first one, and those from behind it on
lines_from : (source : List ℕ) (cursor : Cursor) (size : ℕ) (ending : Ending) → IsFirstLine (drop cursor.units source) size ending → is_last ending ≡ false
    → lines_of (drop cursor.units source) ≡ first_at source cursor size ending ∷ lines_of (drop (cursor.units + (size + end_size ending)) source)
lines_from source cursor size ending = next_lines source cursor.units size ending

-- behind the header the lines are as they are
go_on-behind : (number : ℕ) (source : List ℕ) (header : ℕ) (lines : List Line) (text : List ℕ) (first cursor : Cursor) → LinesGoOn number source header lines text first cursor
    → header < cursor.line
    → lines_view lines ++ map (lexed_line number source) (logical_from first text cursor (lines_of (drop cursor.units source))) ≡ lexed number source
go_on-behind number source header lines text first cursor so_far behind =
    ap (λ (rest : List PhysicalLine). lines_view lines ++ map (lexed_line number source) (logical_from first text cursor rest))
    (sym (blanked-behind header cursor.line (lines_of (drop cursor.units source)) behind))
    ∙ so_far.go_on

-- and so from the next line on
behind-go_on : (number : ℕ) (source : List ℕ) (header : ℕ) (lines : List Line) (text : List ℕ) (first : Cursor) (units line : ℕ) → header < line
    → lines_view lines ++ map (lexed_line number source) (logical_from first text (record { units = units; line = line + 1; column = 1 }) (lines_of (drop units source)))
    ≡ lexed number source
    → lines_view lines
    ++ map (lexed_line number source)
    (logical_from first text (record { units = units; line = line + 1; column = 1 }) (blanked (empty_from header (line + 1)) (lines_of (drop units source))))
    ≡ lexed number source
behind-go_on number source header lines text first units line behind go_on =
    ap (λ (rest : List PhysicalLine). lines_view lines ++ map (lexed_line number source) (logical_from first text (record { units = units; line = line + 1; column = 1 }) rest))
    (blanked-behind header (line + 1) (lines_of (drop units source)) (omega arith))
    ∙ go_on

-- the step of a continued line
pub line_continued : (number : ℕ) (source : List ℕ) (header : ℕ) (lines : List Line) (text longer more : List ℕ) (first cursor next : Cursor) (size : ℕ) (ending : Ending)
    → LinesGoOn number source header lines text first cursor → header < cursor.line → IsFirstLine (drop cursor.units source) size ending → is_last ending ≡ false
    → continued_text (first_at source cursor size ending) ≡ Some more → next ≡ cursor_behind cursor (size + end_size ending) → longer ≡ text ++ more
    → LinesGoOn number source header lines longer first next
line_continued number source header lines text longer more first cursor next size ending so_far behind is_first not_last continued is_next is_longer =
    subst (λ (c : Cursor). LinesGoOn number source header lines longer first c) (sym is_next)
    (subst (λ (t : List ℕ). LinesGoOn number source header lines t first (cursor_behind cursor (size + end_size ending))) (sym is_longer)
    (record {
      within = omega (arith, length-drop cursor.units source);
      numbered = omega (arith, some_units);
      first_numbered = omega arith;
      first_column = so_far.first_column;
      filled =
          let a : length (text ++ more) ≡ length text + length more = length-append text more in
          let b : length more ≡ length (line_units (first_at source cursor size ending)) = length-continued (first_at source cursor size ending) more continued in
          let d : length (line_units (first_at source cursor size ending)) ≡ size + end_size ending = length-first_at source cursor size ending is_first.within in
          omega arith;
      in_header = λ inside. absurd (omega arith);
      go_on =
          behind-go_on number source header lines (text ++ more) first (cursor.units + (size + end_size ending)) cursor.line behind
          (rw steps at (go_on-behind number source header lines text first cursor so_far behind));
    }))
  where
    some_units : 1 ≤ end_size ending
    some_units = end_size-some ending not_last

    steps : logical_from first text cursor (lines_of (drop cursor.units source))
        ≡ logical_from first (text ++ more) (cursor_behind cursor (size + end_size ending)) (lines_of (drop (cursor.units + (size + end_size ending)) source))
    steps =
        ap (logical_from first text cursor) (lines_from source cursor size ending is_first not_last) ∙ (rw continued)
        ∙ ap (λ (c : Cursor). logical_from first (text ++ more) c (lines_of (drop (cursor.units + (size + end_size ending)) source)))
        (behind_first source cursor size ending is_first.within)

-- the lines with one more
more_lines : (number : ℕ) (source : List ℕ) (lines longer : List Line) (line : Line) (logical : LogicalLine) (rest : List LogicalLine) (all : List LexedLine)
    → longer ≡ lines ++ line ∷ [] → line_view line ≡ lexed_line number source logical
    → lines_view lines ++ map (lexed_line number source) (logical ∷ rest) ≡ all → lines_view longer ++ map (lexed_line number source) rest ≡ all
more_lines number source lines longer line logical rest all is_longer is_line so_far =
    ap (λ (ls : List Line). lines_view ls ++ map (lexed_line number source) rest) is_longer
    ∙ ap (λ (views : List LexedLine). views ++ map (lexed_line number source) rest) (map-append line_view lines (line ∷ []))
    ∙ append_assoc (lines_view lines) (line_view line ∷ []) (map (lexed_line number source) rest)
    ∙ ap (λ (view : LexedLine). lines_view lines ++ view ∷ map (lexed_line number source) rest) is_line
    ∙ so_far

-- the lines with one more, from where the lines of the source begin with it
ended : (number : ℕ) (source : List ℕ) (header : ℕ) (lines longer : List Line) (line : Line) (text whole : List ℕ) (first cursor : Cursor) (size : ℕ) (ending : Ending)
    → LinesGoOn number source header lines text first cursor → IsFirstLine (drop cursor.units source) size ending → is_last ending ≡ false
    → logical_from first text cursor (blanked (empty_from header cursor.line) (lines_of (drop cursor.units source)))
    ≡ record { first = first; text = whole }
    ∷ logical_from (cursor_behind cursor (size + end_size ending)) [] (cursor_behind cursor (size + end_size ending))
    (blanked (empty_from header (cursor.line + 1)) (lines_of (drop (cursor.units + (size + end_size ending)) source)))
    → line_view line ≡ lexed_line number source (record { first = first; text = whole }) → longer ≡ lines ++ line ∷ []
    → LinesGoOn number source header longer [] (cursor_behind cursor (size + end_size ending)) (cursor_behind cursor (size + end_size ending))
ended number source header lines longer line text whole first cursor size ending so_far is_first not_last steps is_line is_longer =
    record {
      within = omega (arith, length-drop cursor.units source);
      numbered = omega (arith, end_size-some ending not_last);
      first_numbered = omega arith;
      first_column = refl;
      filled = omega arith;
      in_header = λ inside. refl;
      go_on = more_lines number source lines longer line (record { first = first; text = whole }) _ (lexed number source) is_longer is_line (rw steps at so_far.go_on);
    }

-- the step of a header line
header_ended : (number : ℕ) (source : List ℕ) (header : ℕ) (lines longer : List Line) (line : Line) (text : List ℕ) (first cursor : Cursor) (size : ℕ) (ending : Ending)
    → LinesGoOn number source header lines text first cursor → cursor.line ≤ header → IsFirstLine (drop cursor.units source) size ending → is_last ending ≡ false
    → line_view line ≡ lexed_line number source (record { first = first; text = [] }) → longer ≡ lines ++ line ∷ []
    → LinesGoOn number source header longer [] (cursor_behind cursor (size + end_size ending)) (cursor_behind cursor (size + end_size ending))
header_ended number source header lines longer line text first cursor size ending so_far inside is_first not_last is_line is_longer =
    ended number source header lines longer line text (blank_line this).text first cursor size ending so_far is_first not_last steps
    (is_line ∙ lexed_line-blank number source first this) is_longer
  where
    this : PhysicalLine
    this = first_at source cursor size ending

    rest : List PhysicalLine
    rest = lines_of (drop (cursor.units + (size + end_size ending)) source)

    steps : logical_from first text cursor (blanked (empty_from header cursor.line) (lines_of (drop cursor.units source)))
        ≡ record { first = first; text = (blank_line this).text }
        ∷ logical_from (cursor_behind cursor (size + end_size ending)) [] (cursor_behind cursor (size + end_size ending))
        (blanked (empty_from header (cursor.line + 1)) rest)
    steps =
        ap (λ (t : List ℕ). logical_from first t cursor (blanked (empty_from header cursor.line) (lines_of (drop cursor.units source)))) (so_far.in_header inside)
        ∙ ap (λ (ls : List PhysicalLine). logical_from first [] cursor (blanked (empty_from header cursor.line) ls)) (lines_from source cursor size ending is_first not_last)
        ∙ ap (logical_from first [] cursor) (blanked-header header cursor.line this rest inside)
        ∙ (rw (continued_text-blank this))
        ∙ ap (λ (c : Cursor). record { first = first; text = (blank_line this).text } ∷ logical_from c [] c (blanked (empty_from header (cursor.line + 1)) rest))
        (ap (cursor_behind cursor) (length-blank this) ∙ behind_first source cursor size ending is_first.within)

-- the step of another line that ends its logical line
plain_ended : (number : ℕ) (source : List ℕ) (header : ℕ) (lines longer : List Line) (line : Line) (text : List ℕ) (first cursor : Cursor) (size : ℕ) (ending : Ending)
    → LinesGoOn number source header lines text first cursor → header < cursor.line → IsFirstLine (drop cursor.units source) size ending → is_last ending ≡ false
    → continued_text (first_at source cursor size ending) ≡ None
    → line_view line ≡ lexed_line number source (record { first = first; text = text ++ take size (drop cursor.units source) }) → longer ≡ lines ++ line ∷ []
    → LinesGoOn number source header longer [] (cursor_behind cursor (size + end_size ending)) (cursor_behind cursor (size + end_size ending))
plain_ended number source header lines longer line text first cursor size ending so_far behind is_first not_last not_continued is_line is_longer =
    ended number source header lines longer line text (text ++ this.text) first cursor size ending so_far is_first not_last steps is_line is_longer
  where
    this : PhysicalLine
    this = first_at source cursor size ending

    rest : List PhysicalLine
    rest = lines_of (drop (cursor.units + (size + end_size ending)) source)

    steps : logical_from first text cursor (blanked (empty_from header cursor.line) (lines_of (drop cursor.units source)))
        ≡ record { first = first; text = text ++ this.text }
        ∷ logical_from (cursor_behind cursor (size + end_size ending)) [] (cursor_behind cursor (size + end_size ending))
        (blanked (empty_from header (cursor.line + 1)) rest)
    steps =
        ap (logical_from first text cursor) (blanked-behind header cursor.line (lines_of (drop cursor.units source)) behind)
        ∙ ap (logical_from first text cursor) (lines_from source cursor size ending is_first not_last) ∙ (rw not_continued)
        ∙ ap (λ (c : Cursor). record { first = first; text = text ++ this.text } ∷ logical_from c [] c rest) (behind_first source cursor size ending is_first.within)
        ∙ ap (λ (ls : List PhysicalLine). record { first = first; text = text ++ this.text }
        ∷ logical_from (cursor_behind cursor (size + end_size ending)) [] (cursor_behind cursor (size + end_size ending)) ls)
        (sym (blanked-behind header (cursor.line + 1) rest (omega arith)))

-- what is read of the first line from a cursor on
abbrev pub read_at : List ℕ → ℕ → Cursor → ℕ → List ℕ
read_at source header cursor size = text_behind_header header cursor.line (take size (drop cursor.units source))

-- the text of a logical line that ends in a header line
read_whole-header : (source : List ℕ) (header : ℕ) (text : List ℕ) (cursor : Cursor) (size : ℕ) → text ≡ [] → cursor.line ≤ header
    → text ++ read_at source header cursor size ≡ []
read_whole-header source header text cursor size none inside =
    ap (λ (t : List ℕ). t ++ read_at source header cursor size) none ∙ read_nothing header cursor.line (take size (drop cursor.units source)) inside

-- the step of a line that ends its logical line
pub line_ended : (number : ℕ) (source : List ℕ) (header : ℕ) (lines longer : List Line) (line : Line) (text whole empty : List ℕ) (first cursor next : Cursor) (size : ℕ) (ending : Ending)
    → LinesGoOn number source header lines text first cursor → IsFirstLine (drop cursor.units source) size ending → is_last ending ≡ false
    → continued_at (read_at source header cursor size) ending ≡ None → next ≡ cursor_behind cursor (size + end_size ending)
    → whole ≡ text ++ read_at source header cursor size → line_view line ≡ lexed_line number source (record { first = first; text = whole })
    → longer ≡ lines ++ line ∷ [] → empty ≡ []
    → LinesGoOn number source header longer empty next next
line_ended number source header lines longer line text whole empty first cursor next size ending so_far is_first not_last no_mark is_next is_whole is_line is_longer is_empty =
    subst (λ (c : Cursor). LinesGoOn number source header longer empty c c) (sym is_next)
    (subst (λ (t : List ℕ). LinesGoOn number source header longer t (cursor_behind cursor (size + end_size ending)) (cursor_behind cursor (size + end_size ending))) (sym is_empty)
    (elim (cases_lt header cursor.line) [
      | inl behind ↦
          let is_read : read_at source header cursor size ≡ take size (drop cursor.units source) = read_text header cursor.line (take size (drop cursor.units source)) behind in
          plain_ended number source header lines longer line text first cursor size ending so_far behind is_first not_last
          (ap (option_map (λ mark. inner_text (take size (drop cursor.units source)) mark ending)) (ap (λ (t : List ℕ). continued_at t ending) (sym is_read) ∙ no_mark))
          (is_line ∙ ap (λ (t : List ℕ). lexed_line number source (record { first = first; text = t })) (is_whole ∙ ap (λ (t : List ℕ). text ++ t) is_read)) is_longer
      | inr inside ↦
          header_ended number source header lines longer line text first cursor size ending so_far inside is_first not_last
          (is_line ∙ ap (λ (t : List ℕ). lexed_line number source (record { first = first; text = t }))
          (is_whole ∙ read_whole-header source header text cursor size (so_far.in_header inside) inside)) is_longer
    ]))

-- the last line
pub line_last : (number : ℕ) (source : List ℕ) (header : ℕ) (lines longer : List Line) (line : Line) (text whole : List ℕ) (first cursor : Cursor) (size : ℕ) (ending : Ending)
    → LinesGoOn number source header lines text first cursor → IsFirstLine (drop cursor.units source) size ending → is_last ending ≡ true
    → continued_at (read_at source header cursor size) ending ≡ None
    → whole ≡ text ++ read_at source header cursor size → line_view line ≡ lexed_line number source (record { first = first; text = whole })
    → longer ≡ lines ++ line ∷ [] → lines_view longer ≡ lexed number source
line_last number source header lines longer line text whole first cursor size ending so_far is_first last no_mark is_whole is_line is_longer =
    elim (cases_lt header cursor.line) [
      | inl behind ↦
          let is_read : read_at source header cursor size ≡ this.text = read_text header cursor.line this.text behind in
          let not_continued : continued_text this ≡ None =
          ap (option_map (λ mark. inner_text this.text mark ending)) (ap (λ (t : List ℕ). continued_at t ending) (sym is_read) ∙ no_mark) in
          let steps : logical_from first text cursor (blanked (empty_from header cursor.line) (lines_of (drop cursor.units source)))
          ≡ record { first = first; text = text ++ this.text } ∷ [] =
          ap (logical_from first text cursor) (blanked-behind header cursor.line (lines_of (drop cursor.units source)) behind)
          ∙ ap (logical_from first text cursor) (last_line source cursor.units size ending is_first last) ∙ (rw not_continued) in
          all (text ++ this.text) steps
          (is_line ∙ ap (λ (t : List ℕ). lexed_line number source (record { first = first; text = t })) (is_whole ∙ ap (λ (t : List ℕ). text ++ t) is_read))
      | inr inside ↦
          let steps : logical_from first text cursor (blanked (empty_from header cursor.line) (lines_of (drop cursor.units source)))
          ≡ record { first = first; text = (blank_line this).text } ∷ [] =
          ap (λ (t : List ℕ). logical_from first t cursor (blanked (empty_from header cursor.line) (lines_of (drop cursor.units source)))) (so_far.in_header inside)
          ∙ ap (λ (ls : List PhysicalLine). logical_from first [] cursor (blanked (empty_from header cursor.line) ls)) (last_line source cursor.units size ending is_first last)
          ∙ ap (logical_from first [] cursor) (blanked-header header cursor.line this [] inside ∙ ap (λ (ls : List PhysicalLine). blank_line this ∷ ls) (blanked-none (empty_from header (cursor.line + 1))))
          ∙ (rw (continued_text-blank this)) in
          all (blank_line this).text steps
          (is_line ∙ ap (λ (t : List ℕ). lexed_line number source (record { first = first; text = t }))
          (is_whole ∙ read_whole-header source header text cursor size (so_far.in_header inside) inside)
          ∙ lexed_line-blank number source first this)
    ]
  where
    this : PhysicalLine
    this = first_at source cursor size ending

    all : (whole : List ℕ) → logical_from first text cursor (blanked (empty_from header cursor.line) (lines_of (drop cursor.units source)))
        ≡ record { first = first; text = whole } ∷ []
        → line_view line ≡ lexed_line number source (record { first = first; text = whole }) → lines_view longer ≡ lexed number source
    all whole steps is_line =
        sym (append-nil (lines_view longer))
        ∙ more_lines number source lines longer line (record { first = first; text = whole }) [] (lexed number source) is_longer is_line (rw steps at so_far.go_on)
