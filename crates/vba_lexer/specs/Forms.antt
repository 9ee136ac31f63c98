-- The forms of tokens: pieces one behind the other.
use Rattle.std.specs.Prelude.{◌≡◌, ℕ, ◌<◌, ◌≤◌, Bool, true, false, ◌&&◌, List, [], ◌∷◌, ◌++◌, length, take, drop, if◌then◌else◌}
use Rattle.vba_lexer.specs.declared.forms.Piece.{Piece}
use Rattle.vba_lexer.specs.declared.forms.Piece.TheVariants.{Single, Run, Optional, Suffix}
use Rattle.vba_lexer.specs.Classes.{is_in, is_suffix}

-- what is left behind all characters of a class passes
abbrev pub behind_run : (ℕ → Bool) → (List ℕ → Bool) → List ℕ → Bool
behind_run class rest [] = rest []
behind_run class rest (character ∷ slice) =
    if class character then behind_run class rest slice else rest (character ∷ slice)

-- the piece stands at the front of a slice, and what it leaves of the slice passes; `after` follows the slice on its line
abbrev pub stands_before : Piece → (List ℕ → Bool) → List ℕ → List ℕ → Bool
stands_before (Single class) rest [] after = false
stands_before (Single class) rest (character ∷ slice) after = is_in class character && rest slice
stands_before (Run class) rest slice after = behind_run (is_in class) rest slice
stands_before (Optional class) rest [] after = rest []
stands_before (Optional class) rest (character ∷ slice) after =
    if is_in class character then rest slice else rest (character ∷ slice)
stands_before Suffix rest [] after = rest []
stands_before Suffix rest (character ∷ slice) after =
    if is_suffix character (slice ++ after) then rest slice else rest (character ∷ slice)

-- a slice is made of the pieces, one behind the other
abbrev pub fits : List Piece → List ℕ → List ℕ → Bool
fits [] [] after = true
fits [] (character ∷ slice) after = false
fits (piece ∷ pieces) slice after = stands_before piece (λ rest. fits pieces rest after) slice after

-- the size of the longest slice at the front of a line that passes a test; 0 where none with a character passes
pub record IsLongest (test : List ℕ → List ℕ → Bool) (line : List ℕ) (size : ℕ) : Type 0 where
  pub passes : 0 < size → test (take size line) (drop size line) ≡ true
  pub within : size ≤ length line
  pub longest : (longer : ℕ) → size < longer → longer ≤ length line → test (take longer line) (drop longer line) ≡ false
