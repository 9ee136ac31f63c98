-- The tokens of a line: each begins at the first place that is neither white space nor a comment, and is the longest slice
-- there that has a kind.
use Rattle.std.specs.Prelude.{◌≡◌, ℕ, zero, suc, ◌+◌, ◌-◌, ◌<◌, ◌≤◌, ◌==◌, ◌&&◌, ◌||◌, Bool, true, false, List, [], ◌∷◌, map, length, take, drop, codes, nat_le, Option, Some, None, if◌then◌else◌}
use Rattle.vba_lexer.specs.declared.token.TokenKind.{TokenKind}
use Rattle.vba_lexer.specs.declared.token.TokenKind.TheVariants.{BadMark}
use Rattle.vba_lexer.specs.declared.scan.Standing.{Standing}
use Rattle.vba_lexer.specs.declared.scan.Standing.TheVariants.{First, BehindOpener, Within}
use Rattle.vba_lexer.specs.Kinds.{kind_of, is_gap}

-- the first so many characters have a kind, and no longer slice there has one
pub record IsFront (kinds : List ℕ → List ℕ → Option TokenKind) (line : List ℕ) (kind : TokenKind) (size : ℕ) : Type 0 where
  pub fits : kinds (take size line) (drop size line) ≡ Some kind
  pub within : size ≤ length line
  pub longest : (longer : ℕ) → size < longer → longer ≤ length line → kinds (take longer line) (drop longer line) ≡ None

-- the first so many characters are the token at the front of a line
abbrev pub IsToken : Bool → List ℕ → TokenKind → ℕ → Type 0
IsToken is_first line kind size = IsFront (kind_of is_first) line kind size

-- the kind of the first so many characters of a line
abbrev pub kind_at : Bool → List ℕ → ℕ → Option TokenKind
kind_at is_first line size = kind_of is_first (take size line) (drop size line)

-- a token's kind and size
pub record Front : Type 0 where
  pub kind : TokenKind
  pub size : ℕ

-- a slice of this size where it has a kind, and else the token among the shorter ones
abbrev pub or_shorter : ℕ → Option TokenKind → Front → Front
or_shorter size (Some kind) shorter = record { kind = kind; size = size }
or_shorter size None shorter = shorter

-- the longest of the slices of at most so many characters that has a kind
abbrev pub longest_of : Bool → ℕ → List ℕ → Front
longest_of is_first zero line = record { kind = BadMark; size = 0 }
longest_of is_first (suc size) line =
    or_shorter (suc size) (kind_at is_first line (suc size)) (longest_of is_first size line)

-- the token at the front of a line that begins with no gap
abbrev pub front_of : Bool → List ℕ → Front
front_of is_first line = longest_of is_first (length line) line

-- a letter of ASCII in lower case, and `ſ`, which has the case fold of `s`; any other character as it is
abbrev pub lower : ℕ → ℕ
lower character =
    if nat_le 65 character && nat_le character 90 then character + 32
    else if character == 0x17F then 115
    else character

-- two texts are the same characters
abbrev pub same_text : List ℕ → List ℕ → Bool
same_text [] [] = true
same_text [] (character ∷ text) = false
same_text (character ∷ text) [] = false
same_text (left ∷ text) (right ∷ other) = (left == right) && same_text text other

-- a text is this word, given in lower case, without regard to case
abbrev pub is_the_word : List ℕ → List ℕ → Bool
is_the_word word text = same_text (map lower text) word

abbrev pub is_first : Standing → Bool
is_first First = true
is_first BehindOpener = false
is_first Within = false

-- where the word Rem begins a comment: first on its logical line, or behind an opener
abbrev pub opens : Standing → Bool
opens First = true
opens BehindOpener = true
opens Within = false

-- what stands behind a token with this text: `:`, Then and Else are openers
abbrev pub standing_behind : List ℕ → Standing
standing_behind text =
    if is_the_word (codes ":") text || is_the_word (codes "then") text || is_the_word (codes "else") text then BehindOpener
    else Within

-- the text of the token at the front of a line
abbrev pub front_text : Standing → List ℕ → List ℕ
front_text standing line = take (front_of (is_first standing) line).size line

-- does a comment begin here: `'`, or the word Rem where it opens one
abbrev pub begins_comment : Standing → List ℕ → Bool
begins_comment standing [] = false
begins_comment standing (character ∷ line) =
    (character == 39) || (opens standing && is_the_word (codes "rem") (front_text standing (character ∷ line)))

-- a token of a line: its kind, and from which character to before which it stands
pub record Slice : Type 0 where
  pub kind : TokenKind
  pub start : ℕ
  pub end : ℕ

-- the tokens from a place on, where so many characters yet belong to the token before
abbrev pub slices_from : Standing → ℕ → ℕ → List ℕ → List Slice
slices_from standing skipped place [] = []
slices_from standing (suc skipped) place (character ∷ line) = slices_from standing skipped (place + 1) line
slices_from standing zero place (character ∷ line) =
    if is_gap character then slices_from standing 0 (place + 1) line
    else if begins_comment standing (character ∷ line) then []
    else
    record {
      kind = (front_of (is_first standing) (character ∷ line)).kind;
      start = place;
      end = place + (front_of (is_first standing) (character ∷ line)).size;
    }
    ∷ slices_from
    (standing_behind (front_text standing (character ∷ line)))
    ((front_of (is_first standing) (character ∷ line)).size - 1)
    (place + 1)
    line

-- the tokens of a line
abbrev pub slices_of : List ℕ → List Slice
slices_of line = slices_from First 0 0 line
