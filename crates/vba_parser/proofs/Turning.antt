-- The statements of a line, turn by turn.
use Rattle.std.proofs.Common.{◌≡◌, ℕ, suc, ◌+◌, ◌-◌, ◌<◌, ◌==◌, false, List, [], ◌∷◌, length, Option, Some, None, ◌∙◌, ap, sym, arith}
use Rattle.vba_words.specs.declared.reading.ReadToken.{ReadToken}
use Rattle.vba_tree.specs.Tree.{Stmts}
use Rattle.vba_grammar.specs.Front.{◌>>=◌}
use Rattle.vba_grammar.specs.Lists.{at_line, Frame, State, need, run, statements_of}
use Rattle.vba_parser.specs.Begun.{IsBegun}
use Rattle.vba_parser.specs.Turns.{cut_at, turn_by}
use Rattle.vba_parser.specs.Seen.{stack}
use Rattle.vba_parser.specs.declared.frame.Frame as declared
use Rattle.vba_parser.proofs.Begun.{turn_begun}
use Rattle.vba_parser.proofs.Closing.{stack_nothing}
use Rattle.vba_parser.proofs.Cuts.{turn_cut}

-- so many turns more lead to the wanted statements, and each list of an If that is open is begun
pub record Turns (wanted : Option Stmts) (turns : ℕ) (state : State) (left : List ReadToken) : Type 0 where
  pub same : run turns state left ≡ wanted
  pub begun : IsBegun state

opening : (ts : List ReadToken) (frames : List Frame) → frames ≡ [] → Turns (statements_of ts) (length ts - 0) (need at_line frames) ts
opening ts [] h =
    let e : length ts - 0 ≡ length ts = omega arith in
    record { same = ap (λ n. run n (need at_line []) ts) e; begun = tt }
opening ts (frame ∷ frames) h = absurd cc

pub first_turn : (ts : List ReadToken) (waiting : List declared.Frame) → waiting ≡ []
    → Turns (statements_of ts) (length ts - 0) (need at_line (stack waiting)) ts
first_turn ts waiting h = opening ts (stack waiting) (ap stack h ∙ stack_nothing)

-- before a turn, so many are left
one_less : (wanted : Option Stmts) (n k : ℕ) (s : State) (t : ReadToken) (ts : List ReadToken)
    → k < n → Turns wanted (n - k) s (t ∷ ts) → (turn_by (cut_at (t ∷ ts)) s (t ∷ ts) >>= run (n - (k + 1))) ≡ wanted
one_less wanted n k s t ts below h =
    let m = n - (k + 1) in
    let e : suc m ≡ n - k = omega arith in
    sym (ap (λ o. o >>= run m) (turn_cut s t ts)) ∙ ap (λ j. run j s (t ∷ ts)) e ∙ h.same

-- a turn is done
pub next_turn : (wanted : Option Stmts) (n k : ℕ) (s s1 : State) (left rest : List ReadToken)
    → (length left == 0) ≡ false → k < n → Turns wanted (n - k) s left → turn_by (cut_at left) s left ≡ Some (s1, rest) → Turns wanted (n - (k + 1)) s1 rest
next_turn wanted n k s s1 [] rest some below h found = absurd cc
next_turn wanted n k s s1 (t ∷ ts) rest some below h found =
    record {
      same = sym (ap (λ o. o >>= run (n - (k + 1))) found) ∙ one_less wanted n k s t ts below h;
      begun = turn_begun (cut_at (t ∷ ts)) s s1 (t ∷ ts) rest found h.begun;
    }

-- no turn goes on there
pub no_turn : (wanted : Option Stmts) (n k : ℕ) (s : State) (left : List ReadToken)
    → (length left == 0) ≡ false → k < n → Turns wanted (n - k) s left → turn_by (cut_at left) s left ≡ None → None ≡ wanted
no_turn wanted n k s [] some below h none = absurd cc
no_turn wanted n k s (t ∷ ts) some below h none = sym (ap (λ o. o >>= run (n - (k + 1))) none) ∙ one_less wanted n k s t ts below h
