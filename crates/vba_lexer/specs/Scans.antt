-- Serves the code: how the front of a line is told.
use Rattle.std.specs.Prelude.{◌≡◌, ℕ, ◌+◌, ◌<◌, ◌≤◌, Bool, true, false, List, [], ◌∷◌, length, drop, slice_index, ◌==◌, ◌&&◌, Option, Some, None, nat_lt, if◌then◌else◌}
use Rattle.std.specs.List.{prefix_len}
use Rattle.vba_lexer.specs.declared.token.TokenKind.{TokenKind}
use Rattle.vba_lexer.specs.declared.classes.Class.TheVariants.{BracketPart}
use Rattle.vba_lexer.specs.declared.forms.Piece.{Piece}
use Rattle.vba_lexer.specs.declared.forms.Piece.TheVariants.{Single, Run, Optional, Suffix}
use Rattle.vba_lexer.specs.declared.scan.Lexeme.{Lexeme}
use Rattle.vba_lexer.specs.Classes.{is_in, is_suffix}
use Rattle.vba_lexer.specs.declared.scan.Standing.{Standing}
use Rattle.vba_lexer.specs.Tokens.{Slice, IsToken, is_first, begins_comment}

-- how many characters at the front of a line a piece takes, where it stands there
abbrev pub piece_size : Piece → List ℕ → Option ℕ
piece_size (Single class) [] = None
piece_size (Single class) (character ∷ line) = if is_in class character then Some 1 else None
piece_size (Run class) line = Some (prefix_len (is_in class) line)
piece_size (Optional class) [] = Some 0
piece_size (Optional class) (character ∷ line) = if is_in class character then Some 1 else Some 0
piece_size Suffix [] = Some 0
piece_size Suffix (character ∷ line) = if is_suffix character line then Some 1 else Some 0

-- so many characters more, where there are some
abbrev pub longer_by : ℕ → Option ℕ → Option ℕ
longer_by size None = None
longer_by size (Some behind) = Some (size + behind)

-- what follows a piece of this size
abbrev pub behind_piece : Option ℕ → (ℕ → Option ℕ) → Option ℕ
behind_piece None behind = None
behind_piece (Some size) behind = longer_by size (behind size)

-- how many characters at the front of a line pieces take one behind the other, where they stand there
abbrev pub pieces_size : List Piece → List ℕ → Option ℕ
pieces_size [] line = Some 0
pieces_size (piece ∷ pieces) line = behind_piece (piece_size piece line) (λ size. pieces_size pieces (drop size line))

-- does a line begin with a character that passes
abbrev pub begins_with : (ℕ → Bool) → List ℕ → Bool
begins_with test [] = false
begins_with test (character ∷ line) = test character

-- the longer one of a token's form and the longest token of other kinds
abbrev pub longer : TokenKind → ℕ → Lexeme → Lexeme
longer kind size other = if nat_lt size other.size then other else record { kind = kind; size = size }

-- the slice that a token takes behind so many characters of its line
abbrev pub slice_at : Lexeme → ℕ → Slice
slice_at lexeme column = record { kind = lexeme.kind; start = column; end = column + lexeme.size }

-- the token at the front of a line that begins with no gap; none where a comment begins there
pub record IsNextToken (standing : Standing) (line : List ℕ) (lexeme : Lexeme) : Type 0 where
  pub token : IsToken (is_first standing) line lexeme.kind lexeme.size
  pub no_comment : begins_comment standing line ≡ false

abbrev pub IsLexemeAt : Standing → List ℕ → Option Lexeme → Type 0
IsLexemeAt standing line None = begins_comment standing line ≡ true
IsLexemeAt standing line (Some lexeme) = IsNextToken standing line lexeme

-- where what may stand in brackets ends behind a place: at `]`, at a line end, or with the line
abbrev pub stop_behind : List ℕ → ℕ → ℕ
stop_behind line place = place + 1 + prefix_len (is_in BracketPart) (drop (place + 1) line)

-- a place is that stop, or does not stand behind the place
pub record IsStop (line : List ℕ) (place stop : ℕ) : Type 0 where
  pub within : stop ≤ length line
  pub exact : place < stop → stop ≡ stop_behind line place

-- so many characters behind a `[` at the front of a line may stand in brackets
pub record IsBracketRun (line : List ℕ) (run : ℕ) : Type 0 where
  pub within : run ≤ length line
  pub exact : slice_index line 0 ≡ 91 → run ≡ prefix_len (is_in BracketPart) (drop 1 line)

-- a line begins with `[`, so many characters, one at least, and `]`
abbrev pub is_bracketed_by : List ℕ → ℕ → Bool
is_bracketed_by line run =
    nat_lt 0 run && nat_lt (run + 1) (length line) && (slice_index line 0 == 91) && (slice_index line (run + 1) == 93)
