-- The lists of slices that the tokens of a line may be. There is only one for each line.
use Rattle.std.specs.Prelude.{◌≡◌, ℕ, ◌+◌, true, false, List, [], ◌∷◌, take, drop, codes}
use Rattle.vba_lexer.specs.declared.scan.Standing.{Standing}
use Rattle.vba_lexer.specs.declared.scan.Standing.TheVariants.{First}
use Rattle.vba_lexer.specs.declared.token.TokenKind.{TokenKind}
use Rattle.vba_lexer.specs.Kinds.{is_gap}
use Rattle.vba_lexer.specs.Tokens.{IsToken, Slice, is_first, opens, is_the_word, standing_behind}

-- a comment begins at the front of a line: with `'`, or with the word Rem where it may begin one
pub data BeginsComment (standing : Standing) (line : List ℕ) : Type 0 where
  with_quote : (rest : List ℕ) → line ≡ 39 ∷ rest → BeginsComment standing line
  with_word : (kind : TokenKind) (size : ℕ) → opens standing ≡ true → IsToken (is_first standing) line kind size
      → is_the_word (codes "rem") (take size line) ≡ true → BeginsComment standing line

-- the slices are tokens of what a line has from a place on: gaps are passed over; a token stands where no comment begins, and
-- the next one is looked for behind it; the last one stands before the line's end or a comment
pub data AreTokensFrom : Standing → ℕ → List ℕ → List Slice → Type 0 where
  at_end : (standing : Standing) (place : ℕ) → AreTokensFrom standing place [] []
  at_comment : (standing : Standing) (place character : ℕ) (line : List ℕ) → is_gap character ≡ false
      → BeginsComment standing (character ∷ line) → AreTokensFrom standing place (character ∷ line) []
  behind_gap : (standing : Standing) (place character : ℕ) (line : List ℕ) (slices : List Slice) → is_gap character ≡ true
      → AreTokensFrom standing (place + 1) line slices → AreTokensFrom standing place (character ∷ line) slices
  with_token : (standing : Standing) (place character : ℕ) (line : List ℕ) (kind : TokenKind) (size : ℕ) (slices : List Slice)
      → is_gap character ≡ false → (BeginsComment standing (character ∷ line) → ⊥)
      → IsToken (is_first standing) (character ∷ line) kind size
      → AreTokensFrom (standing_behind (take size (character ∷ line))) (place + size) (drop size (character ∷ line)) slices
      → AreTokensFrom standing place (character ∷ line) (record { kind = kind; start = place; end = place + size } ∷ slices)

-- the slices are tokens of a line
abbrev pub AreTokensOf : List ℕ → List Slice → Type 0
AreTokensOf line slices = AreTokensFrom First 0 line slices
