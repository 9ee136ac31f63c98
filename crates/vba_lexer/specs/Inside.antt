-- Serves the code: where the tokens of a line and of a source lie.
use Rattle.std.specs.Prelude.{ℕ, ◌+◌, ◌<◌, ◌≤◌, List, [], ◌∷◌, length, All, sum_by}
use Rattle.vba_lexer.specs.declared.token.Token.{Token}
use Rattle.vba_lexer.specs.declared.line.Line.{Line}
use Rattle.vba_lexer.specs.Lexed.{LexedLine}
use Rattle.vba_lexer.specs.Tokens.{Slice}

-- tokens in order from a place to a place, each with a unit at least, and none over another
abbrev pub StandBetween : ℕ → ℕ → List Slice → Type 0
StandBetween from to [] = from ≤ to
StandBetween from to (slice ∷ slices) = (from ≤ slice.start) × (slice.start < slice.end) × StandBetween slice.end to slices

-- a token lies within the first so many units of a source
pub record IsWithin (size : ℕ) (token : Token) : Type 0 where
  pub order : token.start ≤ token.end
  pub inside : token.end ≤ size

-- each token of the line lies in the source
abbrev pub LiesIn : List ℕ → Line → Type 0
LiesIn source line = All (IsWithin (length source)) line.tokens.items

-- each token of each line lies in the source
abbrev pub AllLieIn : List ℕ → List Line → Type 0
AllLieIn source lines = All (LiesIn source) lines

-- how many tokens the lines have together
abbrev pub token_count : List Line → ℕ
token_count lines = sum_by (λ line. length line.tokens.items) lines

-- the same of lines that are seen without memory
abbrev pub view_count : List LexedLine → ℕ
view_count [] = 0
view_count (line ∷ lines) = length line.tokens + view_count lines
