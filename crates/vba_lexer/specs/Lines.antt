-- Physical lines: the only list of lines whose joining with their line ends gives the source.
use Rattle.std.specs.Prelude.{◌≡◌, ℕ, Bool, true, false, ◌==◌, ◌&&◌, ◌||◌, not, List, [], ◌∷◌, ◌++◌, if◌then◌else◌}
use Rattle.std.specs.List.{flat_map, list_any}
use Rattle.vba_lexer.specs.declared.lines.Ending.{Ending}
use Rattle.vba_lexer.specs.declared.lines.Ending.TheVariants.{Feed, ReturnFeed, Return, LineSeparator, ParagraphSeparator, FileEnd}

-- a line without its line end, and how it ends
pub record PhysicalLine : Type 0 where
  pub text : List ℕ
  pub ending : Ending

-- the units of a line end: LF, CR LF, CR, U+2028, U+2029, or none at the end of the source
abbrev pub end_units : Ending → List ℕ
end_units Feed = 10 ∷ []
end_units ReturnFeed = 13 ∷ 10 ∷ []
end_units Return = 13 ∷ []
end_units LineSeparator = 0x2028 ∷ []
end_units ParagraphSeparator = 0x2029 ∷ []
end_units FileEnd = []

-- the units that a line takes
abbrev pub line_units : PhysicalLine → List ℕ
line_units line = line.text ++ end_units line.ending

-- the source that the lines make
abbrev pub joined : List PhysicalLine → List ℕ
joined lines = flat_map line_units lines

-- a unit that ends a line
abbrev pub is_line_end : ℕ → Bool
is_line_end unit = (unit == 10) || (unit == 13) || (unit == 0x2028) || (unit == 0x2029)

-- a text without line ends
abbrev pub is_line_text : List ℕ → Bool
is_line_text text = not (list_any is_line_end text)

-- the end of the source
abbrev pub is_last : Ending → Bool
is_last Feed = false
is_last ReturnFeed = false
is_last Return = false
is_last LineSeparator = false
is_last ParagraphSeparator = false
is_last FileEnd = true

-- a CR by itself
abbrev pub is_return : Ending → Bool
is_return Feed = false
is_return ReturnFeed = false
is_return Return = true
is_return LineSeparator = false
is_return ParagraphSeparator = false
is_return FileEnd = false

-- an empty line that ends at LF
abbrev pub is_empty_feed : PhysicalLine → Bool
is_empty_feed line = at line.text line.ending
  where
    at : List ℕ → Ending → Bool
    at [] Feed = true
    at [] ReturnFeed = false
    at [] Return = false
    at [] LineSeparator = false
    at [] ParagraphSeparator = false
    at [] FileEnd = false
    at (unit ∷ text) ending = false

-- lines without line ends in their texts, of which the last one, and no other, ends with the source, and of which none that
-- ends at a CR by itself has an LF behind it
abbrev pub are_lines : List PhysicalLine → Bool
are_lines [] = false
are_lines (line ∷ []) = is_line_text line.text && is_last line.ending
are_lines (line ∷ next ∷ lines) =
    is_line_text line.text && not (is_last line.ending) && not (is_return line.ending && is_empty_feed next)
    && are_lines (next ∷ lines)

-- the lines of a source
pub record AreLinesOf (source : List ℕ) (lines : List PhysicalLine) : Type 0 where
  pub whole : joined lines ≡ source
  pub each : are_lines lines ≡ true

-- an empty line
abbrev pub empty_line : Ending → PhysicalLine
empty_line ending = record { text = []; ending = ending }

-- lines with a CR before them: before an LF it is of that line end
abbrev pub with_return : List PhysicalLine → List PhysicalLine
with_return [] = []
with_return (line ∷ lines) =
    if is_empty_feed line then empty_line ReturnFeed ∷ lines else empty_line Return ∷ line ∷ lines

-- lines with a unit before them that ends no line
abbrev pub with_unit : ℕ → List PhysicalLine → List PhysicalLine
with_unit unit [] = []
with_unit unit (line ∷ lines) = record { text = unit ∷ line.text; ending = line.ending } ∷ lines

-- lines with one more unit at the front of the source
abbrev pub with_front : ℕ → List PhysicalLine → List PhysicalLine
with_front unit lines =
    if unit == 10 then empty_line Feed ∷ lines
    else if unit == 13 then with_return lines
    else if unit == 0x2028 then empty_line LineSeparator ∷ lines
    else if unit == 0x2029 then empty_line ParagraphSeparator ∷ lines
    else with_unit unit lines

-- the lines of a source, from its end
abbrev pub lines_of : List ℕ → List PhysicalLine
lines_of [] = empty_line FileEnd ∷ []
lines_of (unit ∷ source) = with_front unit (lines_of source)

-- does a list begin with LF
abbrev pub begins_with_feed : List ℕ → Bool
begins_with_feed [] = false
begins_with_feed (unit ∷ source) = unit == 10

-- the line end at the front of what stands behind a line's text
abbrev pub ending_of : List ℕ → Ending
ending_of [] = FileEnd
ending_of (unit ∷ rest) =
    if unit == 13 then (if begins_with_feed rest then ReturnFeed else Return)
    else if unit == 0x2028 then LineSeparator
    else if unit == 0x2029 then ParagraphSeparator
    else Feed
