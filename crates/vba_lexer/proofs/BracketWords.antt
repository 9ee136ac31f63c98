-- Words in brackets: where what may stand in them ends.
use Rattle.std.proofs.Common.{◌≡◌, ℕ, zero, suc, ◌+◌, ◌-◌, ◌<◌, ◌≤◌, Bool, true, false, List, [], ◌∷◌, length, get_or, drop, Option, Some, None, refl, sym, ◌∙◌, ap, subst, arith, length-drop, inl, inr}
use Rattle.std.specs.Prelude.{if◌then◌else◌, ◌==◌, ◌&&◌, nat_lt}
use Rattle.std.specs.List.{prefix_len}
use Rattle.std.proofs.lemmas.Bool.{and_parts, both_ways, cases_lt, ltb-true, lt-ltb, eqb-true, eq-eqb, ne_eqb}
use Rattle.std.proofs.lemmas.List.{drop-drop, drop_more, drop_all}
use Rattle.std.proofs.lemmas.List.Sums.{prefix_len_passes}
use Rattle.vba_lexer.specs.declared.classes.Class.TheVariants.{BracketPart, Exactly}
use Rattle.vba_lexer.specs.declared.forms.Piece.{Piece}
use Rattle.vba_lexer.specs.declared.forms.Piece.TheVariants.{Single, Run}
use Rattle.vba_lexer.specs.Classes.{is_in}
use Rattle.vba_lexer.specs.Forms.{IsLongest}
use Rattle.vba_lexer.specs.Kinds.{is_bracketed}
use Rattle.vba_lexer.specs.Scans.{longer_by, behind_piece, pieces_size, stop_behind, IsStop, IsBracketRun, is_bracketed_by}
use Rattle.vba_lexer.proofs.Pieces.{longest_pieces}

-- the pieces of a word in brackets
abbrev bracket_pieces : List Piece
bracket_pieces = Single (Exactly 91) ∷ Single BracketPart ∷ Run BracketPart ∷ Single (Exactly 93) ∷ []

-- how many characters stand in the brackets and behind, up to `]`
abbrev run_of : List ℕ → ℕ
run_of line = prefix_len (is_in BracketPart) line

-- `]` stands at a place
closes : (line : List ℕ) (place : ℕ) → place < length line → get_or line place 0 ≡ 93
    → pieces_size (Single (Exactly 93) ∷ []) (drop place line) ≡ Some 1
closes line place inside is =
    let e : (get_or line place 0 == 93) ≡ true = eq-eqb (get_or line place 0) 93 is in
    ap (pieces_size (Single (Exactly 93) ∷ [])) (drop_more line place 0 inside) ∙ (rw e)

-- it does not
closes_not : (line : List ℕ) (place : ℕ) → (place < length line → get_or line place 0 ≡ 93 → ⊥)
    → pieces_size (Single (Exactly 93) ∷ []) (drop place line) ≡ None
closes_not line place other =
    elim (cases_lt place (length line)) [
      | inl inside ↦
          let e : (get_or line place 0 == 93) ≡ false = ne_eqb (get_or line place 0) 93 (other inside) in
          ap (pieces_size (Single (Exactly 93) ∷ [])) (drop_more line place 0 inside) ∙ (rw e)
      | inr past ↦ ap (pieces_size (Single (Exactly 93) ∷ [])) (drop_all place line past)
    ]

-- what is known of a line that begins with a word in brackets
record IsBracketedBy (line : List ℕ) (run : ℕ) : Type 0 where
  pub some : 0 < run
  pub inside : run + 1 < length line
  pub bracket : get_or line 0 0 ≡ 91
  pub close : get_or line (run + 1) 0 ≡ 93

bracketed_by : (line : List ℕ) (run : ℕ) → is_bracketed_by line run ≡ true → IsBracketedBy line run
bracketed_by line run is =
    let a = and_parts (nat_lt 0 run && nat_lt (run + 1) (length line) && (get_or line 0 0 == 91)) (get_or line (run + 1) 0 == 93) is in
    let b = and_parts (nat_lt 0 run && nat_lt (run + 1) (length line)) (get_or line 0 0 == 91) a.0 in
    let d = and_parts (nat_lt 0 run) (nat_lt (run + 1) (length line)) b.0 in
    record {
      some = ltb-true 0 run d.0;
      inside = ltb-true (run + 1) (length line) d.1;
      bracket = eqb-true (get_or line 0 0) 91 b.1;
      close = eqb-true (get_or line (run + 1) 0) 93 a.1;
    }

by_brackets : (line : List ℕ) (run : ℕ) → IsBracketedBy line run → is_bracketed_by line run ≡ true
by_brackets line run is =
    let a : nat_lt 0 run ≡ true = lt-ltb 0 run is.some in
    let b : nat_lt (run + 1) (length line) ≡ true = lt-ltb (run + 1) (length line) is.inside in
    let c : (get_or line 0 0 == 91) ≡ true = eq-eqb (get_or line 0 0) 91 is.bracket in
    let d : (get_or line (run + 1) 0 == 93) ≡ true = eq-eqb (get_or line (run + 1) 0) 93 is.close in
    rw (a, b, c, d)

-- the pieces, where the line begins with a word in brackets
size_of_bracketed : (line : List ℕ) (run : ℕ) → IsBracketRun line run → IsBracketedBy line run → Some (run + 2) ≡ pieces_size bracket_pieces line
size_of_bracketed [] run known is = let e : run + 1 < 0 = is.inside in absurd (omega arith)
size_of_bracketed (first ∷ []) run known is = let e : run + 1 < 1 = is.inside in absurd (omega arith)
size_of_bracketed (first ∷ character ∷ line) run known is = at (is_in BracketPart character) refl (known.exact is.bracket)
  where
    opens : (first == 91) ≡ true
    opens = eq-eqb first 91 is.bracket

    at : (part : Bool) → is_in BracketPart character ≡ part → run ≡ (if part then 1 + run_of line else 0) → Some (run + 2) ≡ pieces_size bracket_pieces (first ∷ character ∷ line)
    at true part same =
        let inside : run + 1 < suc (suc (length line)) = is.inside in
        let e : run + 1 ≡ suc (suc (run_of line)) = omega arith in
        let close : get_or line (run_of line) 0 ≡ 93 = ap (λ (n : ℕ). get_or (first ∷ character ∷ line) n 0) (sym e) ∙ is.close in
        let closed : pieces_size (Single (Exactly 93) ∷ []) (drop (run_of line) line) ≡ Some 1 = closes line (run_of line) (omega arith) close in
        let f : run + 2 ≡ 1 + (1 + (run_of line + 1)) = omega arith in
        ap Some f ∙ sym (rw (opens, part) (ap (λ (o : Option ℕ). longer_by 1 (longer_by 1 (longer_by (run_of line) o))) closed))
    at false part same = let some : 0 < run = is.some in absurd (omega arith)

-- and where it does not
no_size_of_bracketed : (line : List ℕ) (run : ℕ) → IsBracketRun line run → (IsBracketedBy line run → ⊥) → None ≡ pieces_size bracket_pieces line
no_size_of_bracketed [] run known other = refl
no_size_of_bracketed (first ∷ []) run known other = at (first == 91)
  where
    at : (opens : Bool) → None ≡ behind_piece (if opens then Some 1 else None) (λ size. pieces_size (Single BracketPart ∷ Run BracketPart ∷ Single (Exactly 93) ∷ []) (drop size (first ∷ [])))
    at true = refl
    at false = refl
no_size_of_bracketed (first ∷ character ∷ line) run known other = at (first == 91) (is_in BracketPart character) refl refl
  where
    at : (opens part : Bool) → (first == 91) ≡ opens → is_in BracketPart character ≡ part → None ≡ pieces_size bracket_pieces (first ∷ character ∷ line)
    at false part opens is_part = sym (rw opens refl)
    at true false opens is_part = sym (rw (opens, is_part) refl)
    at true true opens is_part =
        let first_is : first ≡ 91 = eqb-true first 91 opens in
        let same : run ≡ 1 + run_of line = known.exact first_is ∙ (rw is_part refl) in
        let e : run + 1 ≡ suc (suc (run_of line)) = omega arith in
        let open_line : pieces_size (Single (Exactly 93) ∷ []) (drop (run_of line) line) ≡ None =
        closes_not line (run_of line) (λ inside close. other (record {
          some = omega arith;
          inside = omega arith;
          bracket = first_is;
          close = ap (λ (n : ℕ). get_or (first ∷ character ∷ line) n 0) e ∙ close;
        })) in
        sym (rw (opens, is_part) (ap (λ (o : Option ℕ). longer_by 1 (longer_by 1 (longer_by (run_of line) o))) open_line))

pub longest_bracketed : (line : List ℕ) (run : ℕ) → IsBracketRun line run → is_bracketed_by line run ≡ true → IsLongest is_bracketed line (run + 2)
longest_bracketed line run known is =
    longest_pieces bracket_pieces line (Some (run + 2)) (run + 2) (size_of_bracketed line run known (bracketed_by line run is)) refl

pub longest_unbracketed : (line : List ℕ) (run : ℕ) → IsBracketRun line run → is_bracketed_by line run ≡ false → IsLongest is_bracketed line 0
longest_unbracketed line run known is =
    longest_pieces bracket_pieces line None 0 (no_size_of_bracketed line run known (λ by. both_ways _ is (by_brackets line run by))) refl

-- the place moves on
stop_past_one : (line : List ℕ) (place stop : ℕ) → IsStop line place stop → IsStop line (place + 1) stop
stop_past_one line place stop is = record { within = is.within; exact = exact }
  where
    exact : place + 1 < stop → stop ≡ stop_behind line (place + 1)
    exact before =
        let e : stop ≡ place + 1 + run_of (drop (place + 1) line) = is.exact (omega arith) in
        let short : place + 1 < length line = let w : stop ≤ length line = is.within in omega arith in
        let more : drop (place + 1) line ≡ get_or line (place + 1) 0 ∷ drop (place + 1 + 1) line = drop_more line (place + 1) 0 short in
        let part : is_in BracketPart (get_or line (place + 1) 0) ≡ true =
        ap (λ (l : List ℕ). is_in BracketPart (get_or l 0 0)) (sym more) ∙ prefix_len_passes (is_in BracketPart) (drop (place + 1) line) 0 0 (omega arith) in
        let f : run_of (drop (place + 1) line) ≡ 1 + run_of (drop (place + 1 + 1) line) = ap run_of more ∙ (rw part refl) in
        omega arith

pub stop_past : (line : List ℕ) (place stop size : ℕ) → IsStop line place stop → IsStop line (place + size) stop
stop_past line place stop zero is = let e : place ≡ place + 0 = omega arith in subst (λ (n : ℕ). IsStop line n stop) e is
stop_past line place stop (suc size) is =
    let e : place + 1 + size ≡ place + suc size = omega arith in
    subst (λ (n : ℕ). IsStop line n stop) e (stop_past line (place + 1) stop size (stop_past_one line place stop is))

pub stop_at_front : (line : List ℕ) → IsStop line 0 0
stop_at_front line = record { within = omega arith; exact = λ before. absurd (omega arith) }

-- what follows a `[` in brackets
pub run_at : (line : List ℕ) (place stop : ℕ) → place < length line → IsStop line place stop → (get_or line place 0 ≡ 91 → stop ≡ stop_behind line place)
    → IsBracketRun (drop place line) (stop - (place + 1))
run_at line place stop inside is exact =
    record {
      within = let w : stop ≤ length line = is.within in omega (arith, length-drop place line);
      exact = λ begins.
          let front : get_or line place 0 ≡ 91 = ap (λ (l : List ℕ). get_or l 0 0) (sym (drop_more line place 0 inside)) ∙ begins in
          let e : stop ≡ place + 1 + run_of (drop (place + 1) line) = exact front in
          let f : drop 1 (drop place line) ≡ drop (place + 1) line = drop-drop 1 place line in
          let g : stop - (place + 1) ≡ run_of (drop (place + 1) line) = omega arith in
          g ∙ ap run_of (sym f);
    }
