-- What lexing gives: the lines of a source with their tokens and places.
use Rattle.std.specs.Prelude.{ℕ, List, map, take, Option}
pub use Rattle.vba_lexer.specs.Texts.{text_of}
use Rattle.vba_base.specs.declared.place.Place.{Place}
use Rattle.vba_base.specs.declared.place.Refusal.{Refusal}
use Rattle.vba_lexer.specs.declared.token.Token.{Token}
use Rattle.vba_lexer.specs.declared.line.Line.{Line}
use Rattle.vba_lexer.specs.declared.token.TokenKind.{TokenKind}
use Rattle.vba_lexer.specs.declared.cursor.Cursor.{Cursor}
use Rattle.vba_lexer.specs.Characters.{characters_of, past, place_of}
use Rattle.vba_lexer.specs.Faults.{first_fault}
use Rattle.vba_lexer.specs.Tokens.{Slice, slices_of}
use Rattle.vba_lexer.specs.Continuations.{LogicalLine, logical_lines}

-- a line without where its tokens lie in memory
pub record LexedLine : Type 0 where
  pub tokens : List Token
  pub place : Place
  pub fault : Option Refusal

-- a line seen so
abbrev pub line_view : Line → LexedLine
line_view line = record { tokens = line.tokens.items; place = line.place; fault = line.fault }

abbrev pub lines_view : List Line → List LexedLine
lines_view lines = map line_view lines

-- the token that begins at one place and ends before another
abbrev pub token_between : ℕ → TokenKind → Cursor → Cursor → Token
token_between module_number kind start end =
    record { kind = kind; start = start.units; end = end.units; place = place_of module_number start }

-- the token of a slice of the line that begins at a place and has these characters
abbrev pub token_of : ℕ → Cursor → List ℕ → Slice → Token
token_of module_number first line slice =
    token_between module_number slice.kind (past first (take slice.start line)) (past first (take slice.end line))

-- the tokens of the line that begins at a place and has these characters
abbrev pub tokens_of : ℕ → Cursor → List ℕ → List Token
tokens_of module_number first line = map (token_of module_number first line) (slices_of line)

-- a logical line of a source with its tokens
abbrev pub lexed_line : ℕ → List ℕ → LogicalLine → LexedLine
lexed_line module_number source line =
    record {
      tokens = tokens_of module_number line.first (characters_of line.text);
      place = place_of module_number line.first;
      fault = first_fault source (tokens_of module_number line.first (characters_of line.text));
    }

-- the lines of a module's source
abbrev pub lexed : ℕ → List ℕ → List LexedLine
lexed module_number source = map (lexed_line module_number source) (logical_lines source)
