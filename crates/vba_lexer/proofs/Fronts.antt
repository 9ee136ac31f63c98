-- The token at the front of a line: what `IsToken` says of a slice, and the slice that `front_of` finds, are one.
use Rattle.std.proofs.Common.{◌≡◌, ℕ, zero, suc, ◌<◌, ◌≤◌, Bool, true, false, List, [], ◌∷◌, length, take, drop, Option, Some, None, refl, sym, ap, subst, arith, inl, inr}
use Rattle.std.specs.Prelude.{not, is_some, IsTrue, if◌then◌else◌}
use Rattle.std.proofs.lemmas.Bool.{cases_eq, cases_lt, both_ways, lt-ltb, le-ltb}
use Rattle.vba_lexer.specs.declared.token.TokenKind.{TokenKind}
use Rattle.vba_lexer.specs.declared.token.TokenKind.TheVariants.{Word, Whole, Fixed, Text, DateMark, Mark, BadMark}
use Rattle.vba_lexer.specs.declared.scan.Lexeme.{Lexeme}
use Rattle.vba_lexer.specs.Forms.{IsLongest}
use Rattle.vba_lexer.specs.Kinds.{is_gap, is_word, is_whole, is_fixed, is_text, is_date, is_mark, is_single, kind_of}
use Rattle.vba_lexer.specs.Scans.{longer, begins_with}
use Rattle.vba_lexer.specs.Tokens.{kind_at, IsFront, IsToken, Front, or_shorter, longest_of, front_of}
use Rattle.vba_lexer.proofs.Pieces.{Test}

-- a single character that is no gap has a kind
kind_of_single : (is_first : Bool) (slice after : List ℕ) → is_single slice ≡ true → is_some (kind_of is_first slice after) ≡ true
kind_of_single is_first slice after single =
    some_of (is_word slice after) (is_whole slice after) (is_fixed slice after) (is_text slice) (is_date is_first slice after) (is_mark slice after)
    (is_single slice) single
  where
    some_of : (word whole fixed text date mark single : Bool) → single ≡ true
        → is_some (if word then Some Word else if whole then Some Whole else if fixed then Some Fixed else if text then Some Text
        else if date then Some DateMark else if mark then Some Mark else if single then Some BadMark else None) ≡ true
    some_of true whole fixed text date mark single e = refl
    some_of false true fixed text date mark single e = refl
    some_of false false true text date mark single e = refl
    some_of false false false true date mark single e = refl
    some_of false false false false true mark single e = refl
    some_of false false false false false true single e = refl
    some_of false false false false false false true e = refl
    some_of false false false false false false false e = e

-- no slice without characters has a kind
no_kind_of-nil : (is_first : Bool) (after : List ℕ) → kind_of is_first [] after ≡ None
no_kind_of-nil true after = refl
no_kind_of-nil false after = refl

-- the longest slice with a kind is what is found from any longer size down
longest_of-IsToken : (is_first : Bool) (size : ℕ) (line : List ℕ) (kind : TokenKind) (n : ℕ) → IsToken is_first line kind n → n ≤ size → size ≤ length line
    → longest_of is_first size line ≡ record { kind = kind; size = n }
longest_of-IsToken is_first zero line kind n token below within =
    let e : n ≡ 0 = omega arith in
    let fits : kind_at is_first line 0 ≡ Some kind = subst (λ (m : ℕ). kind_at is_first line m ≡ Some kind) e token.fits in
    let none : kind_at is_first line 0 ≡ None = no_kind_of-nil is_first line in
    cc
longest_of-IsToken is_first (suc size) line kind n token below within =
    elim (cases_eq n (suc size)) [
      | inl e ↦
          let fits : kind_at is_first line (suc size) ≡ Some kind = subst (λ (m : ℕ). kind_at is_first line m ≡ Some kind) e token.fits in
          rw (fits, e)
      | inr ne ↦
          let none : kind_at is_first line (suc size) ≡ None = token.longest (suc size) (omega arith) within in
          rw none (longest_of-IsToken is_first size line kind n token (omega arith) (omega arith))
    ]

-- what `IsToken` says of a slice fixes it
pub front_of-IsToken : (is_first : Bool) (line : List ℕ) (kind : TokenKind) (size : ℕ) → IsToken is_first line kind size
    → front_of is_first line ≡ record { kind = kind; size = size }
front_of-IsToken is_first line kind size token = longest_of-IsToken is_first (length line) line kind size token token.within (omega arith)

-- so a token has a character at least
pub IsToken-size : (is_first : Bool) (line : List ℕ) (kind : TokenKind) (size : ℕ) → IsToken is_first line kind size → 1 ≤ size
IsToken-size is_first line kind zero token =
    let fits : kind_at is_first line 0 ≡ Some kind = token.fits in let none : kind_at is_first line 0 ≡ None = no_kind_of-nil is_first line in cc
IsToken-size is_first line kind (suc size) token = omega arith

-- where a single character has a kind, what is found at a size is a token among the slices of at most that size
pub record IsTokenBelow (is_first : Bool) (line : List ℕ) (size : ℕ) (front : Front) : Type 0 where
  pub fits : kind_at is_first line front.size ≡ Some front.kind
  pub within : front.size ≤ size
  pub longest : (longer : ℕ) → front.size < longer → longer ≤ size → kind_at is_first line longer ≡ None

or_shorter-below : (is_first : Bool) (line : List ℕ) (size : ℕ) (o : Option TokenKind) (shorter : Front) → kind_at is_first line (suc size) ≡ o
    → (o ≡ None → IsTokenBelow is_first line size shorter) → IsTokenBelow is_first line (suc size) (or_shorter (suc size) o shorter)
or_shorter-below is_first line size (Some kind) shorter e below =
    record { fits = e; within = omega arith; longest = λ longer above within. absurd (omega arith) }
or_shorter-below is_first line size None shorter e below =
    record {
      fits = (below refl).fits;
      within = let w : shorter.size ≤ size = (below refl).within in omega arith;
      longest = λ longer above within. elim (cases_eq longer (suc size)) [ inl same ↦ rw same e | inr ne ↦ (below refl).longest longer above (omega arith) ];
    }

longest_of-below : (is_first : Bool) (line : List ℕ) (size : ℕ) → is_some (kind_at is_first line 1) ≡ true
    → IsTokenBelow is_first line (suc size) (longest_of is_first (suc size) line)
longest_of-below is_first line zero single =
    or_shorter-below is_first line zero (kind_at is_first line 1) (longest_of is_first zero line) refl
    (λ none. let e : is_some (kind_at is_first line 1) ≡ false = ap is_some none in absurd (both_ways _ e single))
longest_of-below is_first line (suc size) single =
    or_shorter-below is_first line (suc size) (kind_at is_first line (suc (suc size))) (longest_of is_first (suc size) line) refl
    (λ none. longest_of-below is_first line size single)

-- what `front_of` finds in a line that begins with no gap is the token there
pub IsToken-front_of : (is_first : Bool) (character : ℕ) (line : List ℕ) → is_gap character ≡ false
    → IsToken is_first (character ∷ line) (front_of is_first (character ∷ line)).kind (front_of is_first (character ∷ line)).size
IsToken-front_of is_first character line dark =
    let single : is_some (kind_at is_first (character ∷ line) 1) ≡ true = kind_of_single is_first (character ∷ []) line (rw dark) in
    let below : IsTokenBelow is_first (character ∷ line) (suc (length line)) (longest_of is_first (suc (length line)) (character ∷ line)) =
    longest_of-below is_first (character ∷ line) (length line) single in
    record { fits = below.fits; within = below.within; longest = below.longest }

-- kinds among which a slice with a test comes first
abbrev pub or_kind : Test → TokenKind → (List ℕ → List ℕ → Option TokenKind) → List ℕ → List ℕ → Option TokenKind
or_kind test kind kinds slice after = if test slice after then Some kind else kinds slice after

-- the longest slice with a kind, which has a character at least
pub record IsFound (kinds : List ℕ → List ℕ → Option TokenKind) (line : List ℕ) (found : Lexeme) : Type 0 where
  pub front : IsFront kinds line found.kind found.size
  pub some : 1 ≤ found.size

-- the longest slice that passes the test, and the longest one of the other kinds: the longer one is the longest of all
pub longer-found : (test : Test) (kinds : List ℕ → List ℕ → Option TokenKind) (line : List ℕ) (kind : TokenKind) (size : ℕ) (other found : Lexeme)
    → IsLongest test line size → IsFound kinds line other → found ≡ longer kind size other → IsFound (or_kind test kind kinds) line found
longer-found test kinds line kind size other found one two same =
    subst (λ (l : Lexeme). IsFound (or_kind test kind kinds) line l) (sym same)
    (elim (cases_lt size other.size) [ inl less ↦ rw (lt-ltb size other.size less) (of_other less) | inr above ↦ rw (le-ltb size other.size above) (of_test above) ])
  where
    front : IsFront kinds line other.kind other.size
    front = two.front

    some : 1 ≤ other.size
    some = two.some

    of_other : size < other.size → IsFound (or_kind test kind kinds) line other
    of_other less =
        record {
          front = record {
            fits =
                let e : test (take other.size line) (drop other.size line) ≡ false = one.longest other.size less front.within in
                rw e front.fits;
            within = front.within;
            longest = λ more above within.
                let e : test (take more line) (drop more line) ≡ false = one.longest more (omega arith) within in
                rw e (front.longest more above within);
          };
          some = some;
        }

    of_test : other.size ≤ size → IsFound (or_kind test kind kinds) line (record { kind = kind; size = size })
    of_test above =
        record {
          front = record {
            fits = let e : test (take size line) (drop size line) ≡ true = one.passes (omega arith) in rw e;
            within = one.within;
            longest = λ more above' within.
                let e : test (take more line) (drop more line) ≡ false = one.longest more above' within in
                rw e (front.longest more (omega arith) within);
          };
          some = omega arith;
        }

-- a single character that is no gap
pub single-found : (line : List ℕ) → IsTrue (begins_with (λ character. not (is_gap character)) line)
    → IsFound (λ slice after. if is_single slice then Some BadMark else None) line (record { kind = BadMark; size = 1 })
single-found [] begins = absurd (both_ways _ refl begins)
single-found (character ∷ line) begins =
    record {
      front = record {
        fits = let e : not (is_gap character) ≡ true = begins in rw e;
        within = omega arith;
        longest = λ more above within. none more line above within;
      };
      some = omega arith;
    }
  where
    none : (more : ℕ) (line : List ℕ) → 1 < more → more ≤ suc (length line)
        → (if is_single (take more (character ∷ line)) then Some BadMark else None) ≡ None
    none zero line above within = absurd (omega arith)
    none (suc zero) line above within = absurd (omega arith)
    none (suc (suc more)) [] above within = absurd (omega arith)
    none (suc (suc more)) (next ∷ line) above within = refl
