-- Forms: the size that their pieces take is that of the longest slice that they fit.
use Rattle.std.proofs.Common.{◌≡◌, ℕ, zero, suc, ◌+◌, ◌<◌, ◌≤◌, Bool, true, false, List, [], ◌∷◌, length, take, drop, Option, Some, None, refl, sym, ◌∙◌, subst, arith, inl, inr, max}
use Rattle.std.specs.Prelude.{if◌then◌else◌, ◌||◌, unwrap_or}
use Rattle.std.specs.List.{prefix_len}
use Rattle.std.proofs.lemmas.List.{take-append-drop}
use Rattle.std.proofs.lemmas.Bool.{cases_lt}
use Rattle.vba_lexer.specs.declared.classes.Class.{Class}
use Rattle.vba_lexer.specs.declared.forms.Piece.{Piece}
use Rattle.vba_lexer.specs.declared.forms.Piece.TheVariants.{Single, Run, Optional, Suffix}
use Rattle.vba_lexer.specs.Classes.{is_in, is_suffix}
use Rattle.vba_lexer.specs.Forms.{stands_before, fits, IsLongest}
use Rattle.vba_lexer.specs.Scans.{piece_size, longer_by, behind_piece, pieces_size}

-- a test of slices, each with what follows it
abbrev pub Test : Type 0
Test = List ℕ → List ℕ → Bool

-- the first so many characters pass, and no more do
pub record IsGreatest (test : Test) (line : List ℕ) (size : ℕ) : Type 0 where
  pub passes : test (take size line) (drop size line) ≡ true
  pub within : size ≤ length line
  pub greatest : (longer : ℕ) → size < longer → longer ≤ length line → test (take longer line) (drop longer line) ≡ false

-- the greatest size that passes; none where no size does
abbrev pub IsBest : Test → List ℕ → Option ℕ → Type 0
IsBest test line None = (size : ℕ) → size ≤ length line → test (take size line) (drop size line) ≡ false
IsBest test line (Some size) = IsGreatest test line size

-- a test that agrees at each size has the same best size
same_best : (test other : Test) (line : List ℕ) (best : Option ℕ)
    → ((size : ℕ) → size ≤ length line → other (take size line) (drop size line) ≡ test (take size line) (drop size line))
    → IsBest test line best → IsBest other line best
same_best test other line None agree is = λ size within. agree size within ∙ is size within
same_best test other line (Some size) agree is =
    record {
      passes = agree size is.within ∙ is.passes;
      within = is.within;
      greatest = λ longer above within. agree longer within ∙ is.greatest longer above within;
    }

-- one character more at the front
one_more : (test other : Test) (character : ℕ) (line : List ℕ) (best : Option ℕ)
    → ((size : ℕ) → size ≤ length line → other (character ∷ take size line) (drop size line) ≡ test (take size line) (drop size line))
    → (test [] line ≡ false → other [] (character ∷ line) ≡ false)
    → IsBest test line best → IsBest other (character ∷ line) (longer_by 1 best)
one_more test other character line None agree empty is = at
  where
    at : (size : ℕ) → size ≤ length (character ∷ line) → other (take size (character ∷ line)) (drop size (character ∷ line)) ≡ false
    at zero within = empty (is 0 (omega arith))
    at (suc size) within = agree size (omega arith) ∙ is size (omega arith)
one_more test other character line (Some size) agree empty is =
    let more : IsGreatest other (character ∷ line) (suc size) =
    record {
      passes = agree size is.within ∙ is.passes;
      within = let w : size ≤ length line = is.within in omega arith;
      greatest = greatest;
    } in
    subst (λ (n : ℕ). IsGreatest other (character ∷ line) n) (let e : suc size ≡ 1 + size = omega arith in e) more
  where
    greatest : (longer : ℕ) → suc size < longer → longer ≤ length (character ∷ line)
        → other (take longer (character ∷ line)) (drop longer (character ∷ line)) ≡ false
    greatest zero above within = absurd (omega arith)
    greatest (suc longer) above within = agree longer (omega arith) ∙ is.greatest longer (omega arith) (omega arith)

-- what passes behind a piece does not depend on what follows a slice without characters
abbrev pub IsSteady : Test → Type 0
IsSteady test = (after other : List ℕ) → test [] after ≡ test [] other

-- the slices before which a piece stands, and behind which a test passes
abbrev pub behind : Piece → Test → Test
behind piece test slice after = stands_before piece (λ rest. test rest after) slice after

longer_by_0 : (test : Test) (line : List ℕ) (best : Option ℕ) → IsBest test line best → IsBest test line (longer_by 0 best)
longer_by_0 test line None is = is
longer_by_0 test line (Some size) is = subst (λ (n : ℕ). IsGreatest test line n) (let e : size ≡ 0 + size = omega arith in e) is

longer_by_sum : (test : Test) (line : List ℕ) (more : ℕ) (best : Option ℕ) → IsBest test line (longer_by 1 (longer_by more best))
    → IsBest test line (longer_by (1 + more) best)
longer_by_sum test line more None is = is
longer_by_sum test line more (Some size) is =
    subst (λ (n : ℕ). IsGreatest test line n) (let e : 1 + (more + size) ≡ 1 + more + size = omega arith in e) is

-- a run
best_run : (class : Class) (test : Test) (line : List ℕ) (best : Option ℕ) → IsSteady test
    → IsBest test (drop (prefix_len (is_in class) line) line) best
    → IsBest (behind (Run class) test) line (longer_by (prefix_len (is_in class) line) best)
best_run class test [] best steady is =
    longer_by_0 (behind (Run class) test) [] best (same_best test (behind (Run class) test) [] best (λ size within. empty size) is)
  where
    empty : (size : ℕ) → behind (Run class) test (take size []) (drop size []) ≡ test (take size []) (drop size [])
    empty zero = refl
    empty (suc size) = refl
best_run class test (character ∷ line) best steady is =
    at (is_in class character) refl is (λ all. best_run class test line best steady all)
  where
    at : (has : Bool) → is_in class character ≡ has
        → IsBest test (drop (if has then 1 + prefix_len (is_in class) line else 0) (character ∷ line)) best
        → (IsBest test (drop (prefix_len (is_in class) line) line) best
        → IsBest (behind (Run class) test) line (longer_by (prefix_len (is_in class) line) best))
        → IsBest (behind (Run class) test) (character ∷ line) (longer_by (if has then 1 + prefix_len (is_in class) line else 0) best)
    at true has is more =
        let one : 1 + prefix_len (is_in class) line ≡ suc (prefix_len (is_in class) line) = omega arith in
        let is' : IsBest test (drop (prefix_len (is_in class) line) line) best = rw one at is in
        longer_by_sum (behind (Run class) test) (character ∷ line) (prefix_len (is_in class) line) best
        (one_more (behind (Run class) test) (behind (Run class) test) character line (longer_by (prefix_len (is_in class) line) best)
        (λ size within. rw has) (λ none. steady (character ∷ line) line ∙ none) (more is'))
    at false has is more =
        longer_by_0 (behind (Run class) test) (character ∷ line) best
        (same_best test (behind (Run class) test) (character ∷ line) best agree is)
      where
        agree : (size : ℕ) → size ≤ length (character ∷ line)
            → behind (Run class) test (take size (character ∷ line)) (drop size (character ∷ line))
            ≡ test (take size (character ∷ line)) (drop size (character ∷ line))
        agree zero within = refl
        agree (suc size) within = rw has

-- a single character
best_single : (class : Class) (test : Test) (character : ℕ) (line : List ℕ) (best : Option ℕ) → is_in class character ≡ true
    → IsBest test line best → IsBest (behind (Single class) test) (character ∷ line) (longer_by 1 best)
best_single class test character line best has is =
    one_more test (behind (Single class) test) character line best (λ size within. rw has) (λ none. refl) is

no_single : (class : Class) (test : Test) (character : ℕ) (line : List ℕ) → is_in class character ≡ false
    → IsBest (behind (Single class) test) (character ∷ line) None
no_single class test character line has = at
  where
    at : (size : ℕ) → size ≤ length (character ∷ line)
        → behind (Single class) test (take size (character ∷ line)) (drop size (character ∷ line)) ≡ false
    at zero within = refl
    at (suc size) within = rw has

-- what may be missing: a character that is taken, or none
best_optional : (class : Class) (test : Test) (character : ℕ) (line : List ℕ) (best : Option ℕ) → IsSteady test → is_in class character ≡ true
    → IsBest test line best → IsBest (behind (Optional class) test) (character ∷ line) (longer_by 1 best)
best_optional class test character line best steady has is =
    one_more test (behind (Optional class) test) character line best (λ size within. rw has) (λ none. steady (character ∷ line) line ∙ none) is

best_no_optional : (class : Class) (test : Test) (character : ℕ) (line : List ℕ) (best : Option ℕ) → is_in class character ≡ false
    → IsBest test (character ∷ line) best → IsBest (behind (Optional class) test) (character ∷ line) best
best_no_optional class test character line best has is = same_best test (behind (Optional class) test) (character ∷ line) best agree is
  where
    agree : (size : ℕ) → size ≤ length (character ∷ line)
        → behind (Optional class) test (take size (character ∷ line)) (drop size (character ∷ line))
        ≡ test (take size (character ∷ line)) (drop size (character ∷ line))
    agree zero within = refl
    agree (suc size) within = rw has

best_suffix : (test : Test) (character : ℕ) (line : List ℕ) (best : Option ℕ) → IsSteady test → is_suffix character line ≡ true
    → IsBest test line best → IsBest (behind Suffix test) (character ∷ line) (longer_by 1 best)
best_suffix test character line best steady has is =
    one_more test (behind Suffix test) character line best (λ size within. rw (take-append-drop size line) (rw has))
    (λ none. steady (character ∷ line) line ∙ none) is

best_no_suffix : (test : Test) (character : ℕ) (line : List ℕ) (best : Option ℕ) → is_suffix character line ≡ false
    → IsBest test (character ∷ line) best → IsBest (behind Suffix test) (character ∷ line) best
best_no_suffix test character line best has is = same_best test (behind Suffix test) (character ∷ line) best agree is
  where
    agree : (size : ℕ) → size ≤ length (character ∷ line)
        → behind Suffix test (take size (character ∷ line)) (drop size (character ∷ line))
        ≡ test (take size (character ∷ line)) (drop size (character ∷ line))
    agree zero within = refl
    agree (suc size) within = rw (take-append-drop size line) (rw has)

-- the best size behind a piece
best_behind : (piece : Piece) (test : Test) (line : List ℕ) (sizes : ℕ → Option ℕ) → IsSteady test
    → ((size : ℕ) → IsBest test (drop size line) (sizes size))
    → IsBest (behind piece test) line (behind_piece (piece_size piece line) sizes)
best_behind (Single class) test [] sizes steady are = λ size within. none size
  where
    none : (size : ℕ) → behind (Single class) test (take size []) (drop size []) ≡ false
    none zero = refl
    none (suc size) = refl
best_behind (Single class) test (character ∷ line) sizes steady are = at (is_in class character) refl
  where
    at : (has : Bool) → is_in class character ≡ has
        → IsBest (behind (Single class) test) (character ∷ line) (behind_piece (if has then Some 1 else None) sizes)
    at true has = best_single class test character line (sizes 1) has (are 1)
    at false has = no_single class test character line has
best_behind (Run class) test line sizes steady are =
    best_run class test line (sizes (prefix_len (is_in class) line)) steady (are (prefix_len (is_in class) line))
best_behind (Optional class) test [] sizes steady are =
    longer_by_0 (behind (Optional class) test) [] (sizes 0)
    (same_best test (behind (Optional class) test) [] (sizes 0) (λ size within. empty size) (are 0))
  where
    empty : (size : ℕ) → behind (Optional class) test (take size []) (drop size []) ≡ test (take size []) (drop size [])
    empty zero = refl
    empty (suc size) = refl
best_behind (Optional class) test (character ∷ line) sizes steady are = at (is_in class character) refl
  where
    at : (has : Bool) → is_in class character ≡ has
        → IsBest (behind (Optional class) test) (character ∷ line) (behind_piece (if has then Some 1 else Some 0) sizes)
    at true has = best_optional class test character line (sizes 1) steady has (are 1)
    at false has =
        longer_by_0 (behind (Optional class) test) (character ∷ line) (sizes 0)
        (best_no_optional class test character line (sizes 0) has (are 0))
best_behind Suffix test [] sizes steady are =
    longer_by_0 (behind Suffix test) [] (sizes 0) (same_best test (behind Suffix test) [] (sizes 0) (λ size within. empty size) (are 0))
  where
    empty : (size : ℕ) → behind Suffix test (take size []) (drop size []) ≡ test (take size []) (drop size [])
    empty zero = refl
    empty (suc size) = refl
best_behind Suffix test (character ∷ line) sizes steady are = at (is_suffix character line) refl
  where
    at : (has : Bool) → is_suffix character line ≡ has
        → IsBest (behind Suffix test) (character ∷ line) (behind_piece (if has then Some 1 else Some 0) sizes)
    at true has = best_suffix test character line (sizes 1) steady has (are 1)
    at false has =
        longer_by_0 (behind Suffix test) (character ∷ line) (sizes 0) (best_no_suffix test character line (sizes 0) has (are 0))

steady : (pieces : List Piece) → IsSteady (fits pieces)
steady [] = λ after other. refl
steady (Single class ∷ pieces) = λ after other. refl
steady (Run class ∷ pieces) = steady pieces
steady (Optional class ∷ pieces) = steady pieces
steady (Suffix ∷ pieces) = steady pieces

-- the pieces take as many characters as the longest slice has that they fit
pub best_pieces : (pieces : List Piece) (line : List ℕ) → IsBest (fits pieces) line (pieces_size pieces line)
best_pieces [] line =
    record {
      passes = refl;
      within = omega arith;
      greatest = λ longer above within. some longer line above within;
    }
  where
    some : (longer : ℕ) (line : List ℕ) → 0 < longer → longer ≤ length line → fits [] (take longer line) (drop longer line) ≡ false
    some zero line above within = absurd (omega arith)
    some (suc longer) [] above within = absurd (omega arith)
    some (suc longer) (character ∷ line) above within = refl
best_pieces (piece ∷ pieces) line =
    best_behind piece (fits pieces) line (λ size. pieces_size pieces (drop size line)) (steady pieces)
    (λ size. best_pieces pieces (drop size line))

-- the same, with 0 for none
pub longest_pieces : (pieces : List Piece) (line : List ℕ) (best : Option ℕ) (size : ℕ) → best ≡ pieces_size pieces line
    → size ≡ unwrap_or best 0 → IsLongest (fits pieces) line size
longest_pieces pieces line best size same is_size =
    subst (λ (n : ℕ). IsLongest (fits pieces) line n) (sym is_size)
    (at best (subst (λ (b : Option ℕ). IsBest (fits pieces) line b) (sym same) (best_pieces pieces line)))
  where
    at : (b : Option ℕ) → IsBest (fits pieces) line b → IsLongest (fits pieces) line (unwrap_or b 0)
    at None is = record { passes = λ some. absurd (omega arith); within = omega arith; longest = λ longer above within. is longer within }
    at (Some n) is = record { passes = λ some. is.passes; within = is.within; longest = is.greatest }

-- the longest slice that passes one of two tests
pub longest_either : (test other : Test) (line : List ℕ) (m n size : ℕ) → IsLongest test line m → IsLongest other line n → size ≡ max m n
    → IsLongest (λ slice after. test slice after || other slice after) line size
longest_either test other line m n size one two greater =
    record {
      passes = λ some. elim (cases_lt m n) [
        | inl less ↦
            let e : size ≡ n = omega arith in
            let p : other (take size line) (drop size line) ≡ true =
            subst (λ (k : ℕ). other (take k line) (drop k line) ≡ true) (sym e) (two.passes (omega arith)) in
            rw p (or_true (test (take size line) (drop size line)))
        | inr more ↦
            let e : size ≡ m = omega arith in
            let p : test (take size line) (drop size line) ≡ true =
            subst (λ (k : ℕ). test (take k line) (drop k line) ≡ true) (sym e) (one.passes (omega arith)) in
            rw p
      ];
      within = let v : m ≤ length line = one.within in let w : n ≤ length line = two.within in omega arith;
      longest = λ longer above within.
          let p : test (take longer line) (drop longer line) ≡ false = one.longest longer (omega arith) within in
          let q : other (take longer line) (drop longer line) ≡ false = two.longest longer (omega arith) within in
          rw (p, q);
    }
  where
    or_true : (b : Bool) → (b || true) ≡ true
    or_true true = refl
    or_true false = refl

-- no slice passes
pub longest_none : (line : List ℕ) → IsLongest (λ slice after. false) line 0
longest_none line = record { passes = λ some. absurd (omega arith); within = omega arith; longest = λ longer above within. refl }
