-- Logical lines: physical lines joined at continuations.
use Rattle.std.specs.Prelude.{ℕ, ◌+◌, Bool, false, ◌==◌, ◌&&◌, List, [], ◌∷◌, ◌++◌, length, take, drop, Option, Some, None, option_map, if◌then◌else◌}
use Rattle.std.specs.List.{list_all}
use Rattle.vba_lexer.specs.declared.cursor.Cursor.{Cursor}
use Rattle.vba_lexer.specs.declared.lines.Ending.{Ending}
use Rattle.vba_lexer.specs.declared.lines.Ending.TheVariants.{Feed, ReturnFeed, Return, LineSeparator, ParagraphSeparator, FileEnd}
use Rattle.vba_lexer.specs.Classes.{is_white}
use Rattle.vba_lexer.specs.Header.{without_header}
use Rattle.vba_lexer.specs.Lines.{PhysicalLine, line_units, is_last, lines_of}

-- the place of a `_` with white space before it and nothing but white space behind it
abbrev pub mark_behind : Bool → List ℕ → Option ℕ
mark_behind white_before [] = None
mark_behind white_before (unit ∷ text) =
    if white_before && (unit == 95) && list_all is_white text then Some 0
    else option_map (λ place. 1 + place) (mark_behind (is_white unit) text)

-- the place of the `_` of a continuation at the end of a line's text
abbrev pub continuation_mark : List ℕ → Option ℕ
continuation_mark text = mark_behind false text

-- a line end inside a logical line: it ends with LF there, and takes as many units as it did
abbrev pub inner_end : Ending → List ℕ
inner_end Feed = 10 ∷ []
inner_end ReturnFeed = 32 ∷ 10 ∷ []
inner_end Return = 10 ∷ []
inner_end LineSeparator = 10 ∷ []
inner_end ParagraphSeparator = 10 ∷ []
inner_end FileEnd = []

-- a continued line inside its logical line: a blank stands for the `_`
abbrev pub inner_text : List ℕ → ℕ → Ending → List ℕ
inner_text text mark ending = take mark text ++ 32 ∷ drop (mark + 1) text ++ inner_end ending

-- the place of the `_` at which a line goes on in the next one; none at the end of the source
abbrev pub continued_at : List ℕ → Ending → Option ℕ
continued_at text ending = if is_last ending then None else continuation_mark text

-- what a physical line is inside its logical line, where it is continued
abbrev pub continued_text : PhysicalLine → Option (List ℕ)
continued_text line = option_map (λ mark. inner_text line.text mark line.ending) (continued_at line.text line.ending)

-- a logical line: where it begins, and its text
pub record LogicalLine : Type 0 where
  pub first : Cursor
  pub text : List ℕ

-- the place behind a physical line
abbrev pub behind_line : Cursor → PhysicalLine → Cursor
behind_line cursor line = record { units = cursor.units + length (line_units line); line = cursor.line + 1; column = 1 }

abbrev pub if_continued : Option (List ℕ) → (List ℕ → List LogicalLine) → List LogicalLine → List LogicalLine
if_continued None more whole = whole
if_continued (Some text) more whole = more text

-- the logical lines of physical lines from a place on, where a logical line began at `first` and has the text `before` so far
abbrev pub logical_from : Cursor → List ℕ → Cursor → List PhysicalLine → List LogicalLine
logical_from first before cursor [] = []
logical_from first before cursor (line ∷ lines) =
    if_continued (continued_text line) (λ text. logical_from first (before ++ text) (behind_line cursor line) lines)
    (record { first = first; text = before ++ line.text } ∷ logical_from (behind_line cursor line) [] (behind_line cursor line) lines)

-- the front of a source
abbrev pub source_front : Cursor
source_front = record { units = 0; line = 1; column = 1 }

-- the logical lines of a source: header lines are found before lines are joined
abbrev pub logical_lines : List ℕ → List LogicalLine
logical_lines source = logical_from source_front [] source_front (without_header (lines_of source))
