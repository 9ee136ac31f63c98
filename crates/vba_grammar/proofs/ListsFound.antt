-- Where any list of statements of the form spells the tokens, whatever its choices, one is read.
use Rattle.std.proofs.lemmas.List.{append-nil}
use Rattle.std.proofs.Common.{◌≡◌, ℕ, suc, ◌+◌, ◌-◌, ◌≤◌, length, Bool, true, false, List, [], ◌∷◌, ◌++◌, Some, None, refl, sym, ap, ◌∙◌, arith, append_assoc}
use Rattle.std.specs.Prelude.{not}
use Rattle.vba_lexer.specs.declared.token.Token.{Token}
use Rattle.vba_words.specs.declared.keyword.Keyword.TheVariants as keyword
use Rattle.vba_words.specs.declared.mark.Mark.TheVariants as mark
use Rattle.vba_words.specs.declared.reading.ReadToken.{ReadToken}
use Rattle.vba_words.specs.Spelling.{word, marked}
use Rattle.vba_expression.specs.Spelling.{spell as spell_expression}
use Rattle.vba_tree.specs.Tree.{Simple, block_line, if_line, else_line, Stmt, simple, if_then, if_else, Stmts, nothing, one, gap, more}
use Rattle.vba_tree.specs.Spelling.{spell_simple, spell_statement, spell_statements}
use Rattle.vba_tree.specs.Forms.{Formed, begins as has_first, FormedStatement, FormedStatements}
use Rattle.vba_grammar.specs.Front.{Found}
use Rattle.vba_grammar.specs.Statements.{simple_at}
use Rattle.vba_grammar.specs.Lists.{Where, at_line, in_list, behind, put, Frame, then_frame, else_frame, State, need, got, with_else, is_else_line, Turn, with_tokens, put_block, turn, finish, run, statements_of}
use Rattle.vba_grammar.specs.Laws.{is_if_line, IsFoundBefore, SimpleLaws, StatementsLaws}
use Rattle.vba_grammar.proofs.ListsComplete.{is_word_line, simple_front, ends_of, list_front, start, count_statement, count, at_fuel, stepped, run_plain, run_else, then_tokens, line_turn, opened_turn, no_if_of, found_turn, gap_else, long, statements_again}
use Rattle.vba_grammar.proofs.ListsSound.{statements_take}

-- a statement is found that leaves this
record FoundIn (ts rest : List ReadToken) : Type 0 where
  tree : Simple
  is : simple_at ts ≡ Some (tree, rest)

found_in : (ts rest : List ReadToken) (o : Found Simple) → simple_at ts ≡ o → IsFoundBefore rest o → FoundIn ts rest
found_in ts rest None h f = absurd f
found_in ts rest (Some p) h f = record { tree = p.0; is = h ∙ ap (λ z. Some (p.0, z)) f }

found : SimpleLaws → (s : Simple) (rest : List ReadToken) → Formed s → is_if_line s ≡ false → is_else_line rest ≡ true → FoundIn (spell_simple s ++ rest) rest
found laws s rest f h v = found_in (spell_simple s ++ rest) rest (simple_at (spell_simple s ++ rest)) refl (laws.found s rest f h (ends_of rest v))

-- how many open Ifs may take an Else
abbrev thens : List Frame → ℕ
thens [] = 0
thens (then_frame place w e v ∷ fs) = suc (thens fs)
thens (else_frame place w e v ss l ∷ fs) = thens fs

-- so many can, behind what was read
abbrev Alive : ℕ → State → Type 0
Alive k (got ss fs) = k ≤ thens fs
Alive k (need (behind ss c) fs) = k ≤ thens fs
Alive k (need at_line fs) = k ≤ 0
Alive k (need in_list fs) = ⊥

-- so many turns lead from there to a state that is alive
record Goes (k m n : ℕ) (s : State) (ts rest : List ReadToken) : Type 0 where
  to : State
  same : run m s ts ≡ run n to rest
  alive : Alive k to

record Took (k : ℕ) (ts : List ReadToken) (o : Turn) : Type 0 where
  under : List Frame
  is : o ≡ Some (need in_list under, ts)
  enough : k ≤ thens under

took : (ss : Stmts) (fs : List Frame) (k : ℕ) (l : Token) (ts : List ReadToken) → suc k ≤ thens fs → Took k ts (with_tokens ts (with_else ss fs l))
took ss [] k l ts h = absurd (omega arith)
took ss (then_frame place w e v ∷ fs) k l ts h = record { under = else_frame place w e v ss l ∷ fs; is = refl; enough = omega arith }
took ss (else_frame place w e v us m ∷ fs) k l ts h = took (put place (if_else w e v us m ss)) fs k l ts h

took_along : (k : ℕ) (ts : List ReadToken) (o p : Turn) → p ≡ o → Took k ts o → Took k ts p
took_along k ts o p e t = record { under = t.under; is = e ∙ t.is; enough = t.enough }

took_turn : (s : State) (k : ℕ) (l : Token) (ts : List ReadToken) → is_else_line ts ≡ false → Alive (suc k) s → Took k ts (turn s (word l keyword.Else) ts)
took_turn (got ss fs) k l ts v h = took ss fs k l ts h
took_turn (need (behind ss c) fs) k l ts v h =
    took_along k ts (with_tokens ts (with_else (gap ss c) fs l)) (turn (need (behind ss c) fs) (word l keyword.Else) ts) (gap_else ss c fs l ts v) (took (gap ss c) fs k l ts h)
took_turn (need at_line fs) k l ts v h = absurd (omega arith)
took_turn (need in_list fs) k l ts v h = absurd h

record AtColon (k : ℕ) (s : State) (c : Token) (ts : List ReadToken) : Type 0 where
  before : Stmts
  under : List Frame
  is : turn s (marked c mark.Colon) ts ≡ Some (need (behind before c) under, ts)
  enough : k ≤ thens under

colon_turn : (s : State) (k : ℕ) (c : Token) (ts : List ReadToken) → Alive k s → AtColon k s c ts
colon_turn (got ss fs) k c ts h = record { before = ss; under = fs; is = refl; enough = h }
colon_turn (need (behind ss d) fs) k c ts h = record { before = gap ss d; under = fs; is = refl; enough = h }
colon_turn (need at_line fs) k c ts h = record { before = nothing; under = fs; is = refl; enough = omega arith }
colon_turn (need in_list fs) k c ts h = absurd h

simple_goes : SimpleLaws → (s : Simple) (place : Where) (fs : List Frame) (k n : ℕ) (rest : List ReadToken) → is_else_line rest ≡ true → Formed s → k ≤ thens fs
    → Goes k (suc n) n (need place fs) (spell_simple s ++ rest) rest
simple_goes laws (block_line (if_line w e v)) place fs k n rest h f a = record {
  to = got (put_block place (if_line w e v)) fs;
  same = ap (λ z. run (suc n) (need place fs) (word w keyword.If ∷ z)) (append_assoc (spell_expression e) (word v keyword.Then ∷ []) rest) ∙ line_turn n place fs w e v rest f h;
  alive = a;
}
simple_goes laws (block_line (else_line w)) place fs k n rest h f a =
    let g = found laws (block_line (else_line w)) rest tt refl h in
    record {
      to = got (put place (simple g.tree)) fs;
      same = run_else n place fs w rest h ∙ found_turn n g.tree place fs (word w keyword.Else ∷ rest) rest g.is;
      alive = a;
    }
simple_goes laws other place fs k n rest h f a = plain_goes other refl f
  where
    plain_goes : (s : Simple) → is_word_line s ≡ false → Formed s → Goes k (suc n) n (need place fs) (spell_simple s ++ rest) rest
    plain_goes s u f =
        let g = found laws s rest f (no_if_of s u) h in
        record {
          to = got (put place (simple g.tree)) fs;
          same = run_plain n place fs (spell_simple s ++ rest) (simple_front s rest u) ∙ found_turn n g.tree place fs (spell_simple s ++ rest) rest g.is;
          alive = a;
        }

-- where a list may begin with so many open Ifs
abbrev pub Opens : Bool → Stmts → ℕ → Type 0
Opens true ss k = k ≤ 0
Opens false ss k = has_first ss ≡ true

opens_gap : (b : Bool) (ss : Stmts) (c : Token) (k : ℕ) → Opens b (gap ss c) k → Opens b ss k
opens_gap true ss c k h = h
opens_gap false ss c k h = h

opens_more : (b : Bool) (ss : Stmts) (c : Token) (s : Stmt) (k : ℕ) → Opens b (more ss c s) k → Opens b ss k
opens_more true ss c s k h = h
opens_more false ss c s k h = h

nothing_goes : (b : Bool) (fs : List Frame) (k n : ℕ) (rest : List ReadToken) → Opens b nothing k → Goes k (0 + n) n (need (start b) fs) rest rest
nothing_goes true fs k n rest h = record { to = need at_line fs; same = at_fuel (0 + n) n (need at_line fs) rest (omega arith); alive = h }
nothing_goes false fs k n rest h = absurd cc

mutual
  lives_statement : SimpleLaws → (s : Stmt) (place : Where) (fs : List Frame) (k n : ℕ) (rest : List ReadToken) → is_else_line rest ≡ true → FormedStatement s → k ≤ thens fs
      → Goes k (count_statement s + n) n (need place fs) (spell_statement s ++ rest) rest
  lives_statement laws (simple s) place fs k n rest v f h =
      let g = simple_goes laws s place fs k n rest v f h in
      record { to = g.to; same = at_fuel (1 + n) (suc n) (need place fs) (spell_simple s ++ rest) (omega arith) ∙ g.same; alive = g.alive }
  lives_statement laws (if_then w e t ss) place fs k n rest v f h =
      let g = lives laws ss false (then_frame place w e t ∷ fs) k n rest f.1 v f.2 (omega arith) in
      record {
        to = g.to;
        same = at_fuel (suc (count ss) + n) (suc (count ss + n)) (need place fs) (spell_statement (if_then w e t ss) ++ rest) (omega arith)
            ∙ (ap (λ z. run (suc (count ss + n)) (need place fs) (word w keyword.If ∷ z)) (append_assoc (spell_expression e) (word t keyword.Then ∷ spell_statements ss) rest)
            ∙ (opened_turn (count ss + n) place fs w e t (spell_statements ss ++ rest) f.0 (list_front ss rest f.1 v) ∙ g.same));
        alive = g.alive;
      }
  lives_statement laws (if_else w e t ss l us) place fs k n rest v f h =
      let ts : List ReadToken = spell_statements us ++ rest in
      let front = list_front us rest f.2 v in
      let g = lives laws ss false (then_frame place w e t ∷ fs) (suc k) (suc (count us + n)) (word l keyword.Else ∷ ts) f.1 (ap not front) f.3 (omega arith) in
      let o = took_turn g.to k l ts front g.alive in
      let m = lives laws us false o.under k n rest f.2 v f.4 o.enough in
      record {
        to = m.to;
        same = at_fuel (suc (count ss + suc (count us)) + n) (suc (count ss + suc (count us + n))) (need place fs) (spell_statement (if_else w e t ss l us) ++ rest) (omega arith)
            ∙ (ap (λ z. run (suc (count ss + suc (count us + n))) (need place fs) (word w keyword.If ∷ z))
            (append_assoc (spell_expression e) (word t keyword.Then ∷ (spell_statements ss ++ word l keyword.Else ∷ spell_statements us)) rest)
            ∙ (ap (λ z. run (suc (count ss + suc (count us + n))) (need place fs) (then_tokens w e t z)) (append_assoc (spell_statements ss) (word l keyword.Else ∷ spell_statements us) rest)
            ∙ (opened_turn (count ss + suc (count us + n)) place fs w e t (spell_statements ss ++ word l keyword.Else ∷ ts) f.0
            (list_front ss (word l keyword.Else ∷ ts) f.1 (ap not front))
            ∙ (g.same ∙ (stepped (count us + n) g.to (need in_list o.under) (word l keyword.Else) ts ts o.is ∙ m.same)))));
        alive = m.alive;
      }

  lives : SimpleLaws → (ss : Stmts) (b : Bool) (fs : List Frame) (k n : ℕ) (rest : List ReadToken) → Opens b ss k → is_else_line rest ≡ true → FormedStatements ss → k ≤ thens fs
      → Goes k (count ss + n) n (need (start b) fs) (spell_statements ss ++ rest) rest
  lives laws nothing b fs k n rest o v f h = nothing_goes b fs k n rest o
  lives laws (one s) b fs k n rest o v f h = lives_statement laws s (start b) fs k n rest v f h
  lives laws (gap ss c) b fs k n rest o v f h =
      let g = lives laws ss b fs k (suc n) (marked c mark.Colon ∷ rest) (opens_gap b ss c k o) refl f h in
      let d = colon_turn g.to k c rest g.alive in
      record {
        to = need (behind d.before c) d.under;
        same = at_fuel ((count ss + 1) + n) (count ss + suc n) (need (start b) fs) (spell_statements (gap ss c) ++ rest) (omega arith)
            ∙ (ap (run (count ss + suc n) (need (start b) fs)) (append_assoc (spell_statements ss) (marked c mark.Colon ∷ []) rest)
            ∙ (g.same ∙ stepped n g.to (need (behind d.before c) d.under) (marked c mark.Colon) rest rest d.is));
        alive = d.enough;
      }
  lives laws (more ss c s) b fs k n rest o v f h =
      let ts : List ReadToken = spell_statement s ++ rest in
      let g = lives laws ss b fs k (suc (count_statement s + n)) (marked c mark.Colon ∷ ts) (opens_more b ss c s k o) refl f.0 h in
      let d = colon_turn g.to k c ts g.alive in
      let m = lives_statement laws s (behind d.before c) d.under k n rest v f.1 d.enough in
      record {
        to = m.to;
        same = at_fuel ((count ss + suc (count_statement s)) + n) (count ss + suc (count_statement s + n)) (need (start b) fs) (spell_statements (more ss c s) ++ rest) (omega arith)
            ∙ (ap (run (count ss + suc (count_statement s + n)) (need (start b) fs)) (append_assoc (spell_statements ss) (marked c mark.Colon ∷ spell_statement s) rest)
            ∙ (g.same ∙ (stepped (count_statement s + n) g.to (need (behind d.before c) d.under) (marked c mark.Colon) ts ts d.is ∙ m.same)));
        alive = m.alive;
      }

no_end : (s : State) (k : ℕ) → Alive k s → finish s ≡ None → ⊥
no_end (got ss fs) k h e = absurd cc
no_end (need (behind ss c) fs) k h e = absurd cc
no_end (need at_line fs) k h e = absurd cc
no_end (need in_list fs) k h e = h

-- a list is refused only where none of the form has these tokens
pub statements_none : SimpleLaws → (ss : Stmts) → FormedStatements ss → statements_of (spell_statements ss) ≡ None → ⊥
statements_none laws ss f h =
    let m : ℕ = length (spell_statements ss) - count ss in
    let g = lives laws ss true [] 0 m [] (omega arith) refl f (omega arith) in
    let same : run (count ss + m) (need at_line []) (spell_statements ss) ≡ statements_of (spell_statements ss) =
    at_fuel (count ss + m) (length (spell_statements ss)) (need at_line []) (spell_statements ss) (omega (arith, long ss)) in
    no_end g.to 0 g.alive (sym g.same ∙ (ap (run (count ss + m) (need at_line [])) (append-nil (spell_statements ss)) ∙ (same ∙ h)))

-- the laws of the statements of a line, by those of one statement
pub statements_laws : SimpleLaws → StatementsLaws
statements_laws laws = record {
  sound = statements_take laws;
  complete = statements_again laws;
  found = statements_none laws;
}
