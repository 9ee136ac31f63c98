-- Serves the code: the first line of a source, by the size of its text and how it ends.
use Rattle.std.specs.Prelude.{◌≡◌, ℕ, ◌+◌, ◌≤◌, List, [], ◌∷◌, length, take, drop, if◌then◌else◌}
use Rattle.vba_lexer.specs.declared.lines.Ending.{Ending}
use Rattle.vba_lexer.specs.Lines.{PhysicalLine, end_units, is_last, lines_of}

-- how many units a line end takes
abbrev pub end_size : Ending → ℕ
end_size ending = length (end_units ending)

-- the lines behind a line: none behind the last one
abbrev pub lines_behind : Ending → List ℕ → List PhysicalLine
lines_behind ending rest = if is_last ending then [] else lines_of rest

-- the first line has a text of this size, and ends so
pub record IsFirstLine (source : List ℕ) (size : ℕ) (ending : Ending) : Type 0 where
  pub within : size + end_size ending ≤ length source
  pub lines : lines_of source
      ≡ record { text = take size source; ending = ending } ∷ lines_behind ending (drop (size + end_size ending) source)
