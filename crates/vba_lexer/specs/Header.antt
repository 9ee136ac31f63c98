-- The header lines of an exported class file: `VERSION 1.0 CLASS`, `BEGIN`, and what follows up to the first line `END`. They
-- count as empty lines.
use Rattle.std.specs.Prelude.{ℕ, zero, suc, ◌+◌, Bool, false, ◌==◌, ◌&&◌, List, [], ◌∷◌, length, drop, replicate, codes, nat_le, Option, Some, None, option_map, unwrap_or, if◌then◌else◌}
use Rattle.std.specs.List.{list_all, prefix_len}
use Rattle.vba_lexer.specs.Classes.{is_white}
use Rattle.vba_lexer.specs.Lines.{PhysicalLine}

-- a letter of ASCII in lower case; any other unit as it is
abbrev pub ascii_lower : ℕ → ℕ
ascii_lower unit = if nat_le 65 unit && nat_le unit 90 then unit + 32 else unit

-- a text without the white space at its front
abbrev pub trimmed : List ℕ → List ℕ
trimmed text = drop (prefix_len is_white text) text

-- a text is these words, given in lower case with a blank between two of them: ASCII case doesn't matter, a blank stands for
-- any white space, and white space may follow
abbrev pub spells : List ℕ → List ℕ → Bool
spells [] text = list_all is_white text
spells (letter ∷ words) [] = false
spells (letter ∷ words) (unit ∷ text) =
    if letter == 32 then is_white unit && spells words (trimmed text) else ((ascii_lower unit == letter) && spells words text)

-- a line is these words, with white space round them or none
abbrev pub is_line_of : List ℕ → PhysicalLine → Bool
is_line_of words line = spells words (trimmed line.text)

-- the first of the lines is these words
abbrev pub begins_with_line : List ℕ → List PhysicalLine → Bool
begins_with_line words [] = false
begins_with_line words (line ∷ lines) = is_line_of words line

-- an empty line: white space alone
abbrev pub is_empty : PhysicalLine → Bool
is_empty line = list_all is_white line.text

-- how many lines there are up to the first line END; none without one
abbrev pub lines_to_end : List PhysicalLine → Option ℕ
lines_to_end [] = None
lines_to_end (line ∷ lines) =
    if is_line_of (codes "end") line then Some 1 else option_map (λ count. count + 1) (lines_to_end lines)

-- how many lines a header has behind a line, where one begins with that line
abbrev pub header_behind : PhysicalLine → List PhysicalLine → Option ℕ
header_behind line lines =
    if is_line_of (codes "version 1.0 class") line && begins_with_line (codes "begin") lines then lines_to_end lines else None

-- how many lines there are up to the last header line, where the first line that isn't empty begins a header
abbrev pub header_end : List PhysicalLine → Option ℕ
header_end [] = None
header_end (line ∷ lines) =
    option_map (λ count. count + 1) (if is_empty line then header_end lines else header_behind line lines)

-- a line with blanks in place of its text: what stands behind it keeps its place
abbrev pub blank_line : PhysicalLine → PhysicalLine
blank_line line = record { text = replicate (length line.text) 32; ending = line.ending }

-- lines of which the first so many are blank
abbrev pub blanked : ℕ → List PhysicalLine → List PhysicalLine
blanked zero lines = lines
blanked (suc count) [] = []
blanked (suc count) (line ∷ lines) = blank_line line ∷ blanked count lines

-- how many lines count as empty: the header lines and the empty lines before them
abbrev pub header_size : List PhysicalLine → ℕ
header_size lines = unwrap_or (header_end lines) 0

-- the lines, the header lines among them blank
abbrev pub without_header : List PhysicalLine → List PhysicalLine
without_header lines = blanked (header_size lines) lines

-- what is read of the text of a line with this number, where so many lines count as empty
abbrev pub text_behind_header : ℕ → ℕ → List ℕ → List ℕ
text_behind_header header number text = if nat_le number header then [] else text
