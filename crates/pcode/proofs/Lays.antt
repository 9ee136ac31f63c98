-- The code of a project is laid out as its tables say.
use Rattle.std.proofs.Common.{◌≡◌, ℕ, zero, suc, ◌+◌, ◌<◌, List, [], ◌∷◌, ◌++◌, length, map, Option, Some, None, refl, sym, ap, ◌∙◌, subst, arith, append_assoc, length-append}
use Rattle.std.specs.Prelude.{slice_get, slice_index}
use Rattle.std.proofs.Math.Seq.{get_or-append_seam}
use Rattle.std.proofs.lemmas.Option.{slice_get-get_or}
use Rattle.vba_values.specs.declared.types.Compare.{Compare}
use Rattle.vba_values.specs.Types.{Declared}
use Rattle.bound_project.specs.Statements.{Tests, no_tests, test_is, test_range, Action, assign, assign_item, set, assign_default, assign_member, set_member, assign_through, assign_element, set_element, assign_late, set_late, evaluate, let_property, set_property, let_method, set_method, raise_event, print, raise, test, go_to, for_to, next, for_each, next_each, exit_each, select, case_of, redim, erase, with_place, with_value, end_with, go_sub, return_sub, exit_to, on_error, end_handler, clear_err, resume_again, resume_next, resume_at, stop, end_run, Statement}
use Rattle.bound_project.specs.Project.{Project, Body, statements_or, next_or}
use Rattle.vba_meaning.specs.LateBound.{assigning, setting, which_given}
use Rattle.pcode.specs.Instructions.{Instr, Leave, list_or, number_or}
use Rattle.pcode.specs.Code.{Entry, expr_code, place_code, args_code, list_code, prints_code, resizes_code, erases_code, given_code, tests_code, action_code, statement_code}
use Rattle.pcode.specs.Layout.{statement_length, body_length, addresses, entries_of, entry_in, body_code, bodies_code, starts_of, nexts_of, code_of, HasAt, HasStatement, Laid}
use Rattle.pcode.proofs.Stands.{has_front, has_back}

-- the statements of a procedure of a list
abbrev body_in : List Body → ℕ → List Statement
body_in bs p = statements_or (slice_get bs p)

behind : (c a b : List Instr) → length a ≡ length b → length (c ++ a) ≡ length (c ++ b)
behind c a b h = length-append c a ∙ ap (λ k. length c + k) h ∙ sym (length-append c b)

len_tests : (entry : Entry) (ts : Tests) (header : ℕ) (of : Declared) (compare : Compare) (first other : ℕ)
    → length (tests_code entry ts header of compare first other) ≡ length (tests_code (λ i. 0) ts header of compare first other)
len_tests entry no_tests header of compare first other = refl
len_tests entry (test_is o at e ts) header of compare first other = ap suc (ap suc (behind (expr_code e) _ _ (ap suc (len_tests entry ts header of compare first other))))
len_tests entry (test_range a b a_at b_at ts) header of compare first other =
    ap suc (ap suc (behind (expr_code a) _ _ (behind (expr_code b) _ _ (ap suc (len_tests entry ts header of compare first other)))))

len_action : (entry : Entry) (p i k : ℕ) (a : Action) → length (action_code entry p i k a) ≡ length (action_code (λ i. 0) 0 0 k a)
len_action entry p i k (assign x e) = behind (expr_code e) _ _ (behind (place_code x) _ _ refl)
len_action entry p i k (assign_item base es e) = behind (expr_code e) _ _ (behind (expr_code base) _ _ (behind (list_code es) _ _ refl))
len_action entry p i k (set x e) = behind (expr_code e) _ _ (behind (place_code x) _ _ refl)
len_action entry p i k (assign_default x e) = behind (expr_code e) _ _ (behind (expr_code x) _ _ refl)
len_action entry p i k (assign_member base name es e) = behind (expr_code e) _ _ (behind (expr_code base) _ _ (ap suc (behind (list_code es) _ _ refl)))
len_action entry p i k (set_member base e) = behind (expr_code e) _ _ (behind (expr_code base) _ _ refl)
len_action entry p i k (assign_through x e) = behind (expr_code e) _ _ (behind (expr_code x) _ _ refl)
len_action entry p i k (assign_element x es e) = behind (expr_code e) _ _ (behind (place_code x) _ _ (behind (list_code es) _ _ refl))
len_action entry p i k (set_element x es e) = behind (expr_code e) _ _ (behind (place_code x) _ _ (behind (list_code es) _ _ refl))
len_action entry p i k (assign_late base name by given e) =
    behind (expr_code e) _ _ (behind (expr_code base) _ _ (ap suc (behind (given_code given assigning name by (which_given given) 0) _ _ refl)))
len_action entry p i k (set_late base name by given e) =
    behind (expr_code e) _ _ (behind (expr_code base) _ _ (ap suc (behind (given_code given setting name by (which_given given) 0) _ _ refl)))
len_action entry p i k (evaluate e) = behind (expr_code e) _ _ refl
len_action entry p i k (let_property q args e of) = behind (expr_code e) _ _ (behind (args_code args) _ _ refl)
len_action entry p i k (set_property q args e of) = behind (expr_code e) _ _ (behind (args_code args) _ _ refl)
len_action entry p i k (let_method base q args e of) = behind (expr_code e) _ _ (behind (expr_code base) _ _ (ap suc (behind (args_code args) _ _ refl)))
len_action entry p i k (set_method base q args e of) = behind (expr_code e) _ _ (behind (expr_code base) _ _ (ap suc (behind (args_code args) _ _ refl)))
len_action entry p i k (raise_event e args) = behind (args_code args) _ _ refl
len_action entry p i k (print ps ends) = behind (prints_code ps) _ _ refl
len_action entry p i k (raise args) = refl
len_action entry p i k (test sense e to other) = behind (expr_code e) _ _ refl
len_action entry p i k (go_to to) = refl
len_action entry p i k (for_to x compare a b c last_at step_at first other) = ap suc (behind (expr_code a) _ _ (behind (expr_code b) _ _ (behind (expr_code c) _ _ refl)))
len_action entry p i k (next x header first) = refl
len_action entry p i k (for_each x e first other) = ap suc (behind (expr_code e) _ _ refl)
len_action entry p i k (next_each x header first) = refl
len_action entry p i k (exit_each header to) = refl
len_action entry p i k (select e first) = behind (expr_code e) _ _ refl
len_action entry p i k (case_of ts header of compare first other) = len_tests entry ts header of compare first other
len_action entry p i k (redim preserve rs) = behind (resizes_code preserve rs) _ _ refl
len_action entry p i k (erase xs) = behind (erases_code xs) _ _ refl
len_action entry p i k (with_place x) = behind (place_code x) _ _ refl
len_action entry p i k (with_value e) = behind (expr_code e) _ _ refl
len_action entry p i k (end_with header) = refl
len_action entry p i k (go_sub to) = refl
len_action entry p i k return_sub = refl
len_action entry p i k (exit_to end) = refl
len_action entry p i k (on_error h) = refl
len_action entry p i k end_handler = refl
len_action entry p i k clear_err = refl
len_action entry p i k resume_again = refl
len_action entry p i k resume_next = refl
len_action entry p i k (resume_at to) = refl
len_action entry p i k stop = refl
len_action entry p i k end_run = refl

-- the length of a statement's code doesn't depend on the addresses
len_same : (entry : Entry) (p i : ℕ) (l : Statement) → length (statement_code entry p i l) ≡ statement_length l
len_same entry p i l = ap suc (len_action entry p i l.next l.action)

pub len_body : (entry : Entry) (p i : ℕ) (ls : List Statement) → length (body_code entry p i ls) ≡ body_length ls
len_body entry p i [] = refl
len_body entry p i (l ∷ ls) = length-append (statement_code entry p i l) (body_code entry p (suc i) ls) ∙ omega (arith, len_same entry p i l, len_body entry p (suc i) ls)

-- a statement's code stands at its address; past the last one the address is 0
abbrev Stands : List Instr → Entry → (p i address : ℕ) → Option Statement → Type 0
Stands code entry p i address None = address ≡ 0
Stands code entry p i address (Some l) = HasAt code address (statement_code entry p i l)

body_stands : (code : List Instr) (entry : Entry) (p : ℕ) (ls : List Statement) (i base j : ℕ) → HasAt code base (body_code entry p i ls)
    → Stands code entry p (i + j) (slice_index (addresses base ls) j) (slice_get ls j)
body_stands code entry p [] i base j has = refl
body_stands code entry p (l ∷ ls) i base zero has =
    let e : i ≡ i + 0 = omega arith in
    subst (λ n. HasAt code base (statement_code entry p n l)) e (has_front code base (statement_code entry p i l) _ has)
body_stands code entry p (l ∷ ls) i base (suc j) has =
    let rest = has_back code base (statement_code entry p i l) _ has in
    let here : base + length (statement_code entry p i l) ≡ base + statement_length l = omega (arith, len_same entry p i l) in
    let e : suc i + j ≡ i + suc j = omega arith in
    subst (λ n. Stands code entry p n (slice_index (addresses (base + statement_length l) ls) j) (slice_get ls j)) e
    (body_stands code entry p ls (suc i) (base + statement_length l) j (subst (λ b. HasAt code b (body_code entry p (suc i) ls)) here rest))

bodies_stand : (code : List Instr) (t : List (List ℕ)) (bs : List Body) (p base q i : ℕ) → HasAt code base (bodies_code t p bs)
    → Stands code (entry_in t (p + q)) (p + q) i (slice_index (list_or (slice_get (entries_of base bs) q)) i) (slice_get (body_in bs q) i)
bodies_stand code t [] p base q i has = refl
bodies_stand code t (x ∷ bs) p base zero i has =
    let e : p ≡ p + 0 = omega arith in
    let z : 0 + i ≡ i = omega arith in
    subst (λ n. Stands code (entry_in t n) n i (slice_index (addresses base x.statements) i) (slice_get x.statements i)) e
    (subst (λ n. Stands code (entry_in t p) p n (slice_index (addresses base x.statements) i) (slice_get x.statements i)) z
    (body_stands code (entry_in t p) p x.statements 0 base i (has_front code base (body_code (entry_in t p) p 0 x.statements) _ has)))
bodies_stand code t (x ∷ bs) p base (suc q) i has =
    let rest = has_back code base (body_code (entry_in t p) p 0 x.statements) _ has in
    let here : base + length (body_code (entry_in t p) p 0 x.statements) ≡ base + body_length x.statements = omega (arith, len_body (entry_in t p) p 0 x.statements) in
    let e : suc p + q ≡ p + suc q = omega arith in
    subst (λ n. Stands code (entry_in t n) n i (slice_index (list_or (slice_get (entries_of (base + body_length x.statements) bs) q)) i) (slice_get (body_in bs q) i)) e
    (bodies_stand code t bs (suc p) (base + body_length x.statements) q i (subst (λ b. HasAt code b (bodies_code t (suc p) bs)) here rest))

-- a list stands at its own beginning
has_all : (is pre : List Instr) → HasAt (pre ++ is) (length pre) is
has_all [] pre = tt
has_all (i ∷ is) pre =
    let within : length pre < length (pre ++ i ∷ is) = omega (arith, length-append pre (i ∷ is)) in
    let here = slice_get-get_or (pre ++ i ∷ is) (length pre) i within ∙ ap Some (get_or-append_seam pre i is i) in
    let n : length (pre ++ i ∷ []) ≡ length pre + 1 = omega (arith, length-append pre (i ∷ [])) in
    let rest = has_all is (pre ++ i ∷ []) in
    let rest' = subst (λ l. HasAt l (length (pre ++ i ∷ [])) is) (append_assoc pre (i ∷ []) is) rest in
    (here, subst (λ m. HasAt (pre ++ i ∷ is) m is) n rest')

leave_or_statement : (code : List Instr) (entry : Entry) (p i : ℕ) (o : Option Statement) → slice_get code 0 ≡ Some Leave → Stands code entry p i (entry i) o → HasStatement code entry p i o
leave_or_statement code entry p i None h e = ap (slice_get code) e ∙ h
leave_or_statement code entry p i (Some l) h has = has

starts_at : (t : List (List ℕ)) (p : ℕ) → slice_index (starts_of t) p ≡ entry_in t p 0
starts_at [] p = refl
starts_at (es ∷ t) zero = refl
starts_at (es ∷ t) (suc p) = starts_at t p

next_in : (ls : List Statement) (i d : ℕ) → number_or (slice_get (map (λ (l : Statement). l.next) ls) i) d ≡ next_or (slice_get ls i) d
next_in [] i d = refl
next_in (l ∷ ls) zero d = refl
next_in (l ∷ ls) (suc i) d = next_in ls i d

nexts_at : (bs : List Body) (p i : ℕ) → number_or (slice_get (list_or (slice_get (nexts_of bs) p)) i) i ≡ next_or (slice_get (body_in bs p) i) i
nexts_at [] p i = refl
nexts_at (b ∷ bs) zero i = next_in b.statements i i
nexts_at (b ∷ bs) (suc p) i = nexts_at bs p i

pub laid : (pr : Project) → Laid pr (entry_in (entries_of 1 pr.bodies)) (code_of pr)
laid pr =
    let bs = pr.bodies in
    let t = entries_of 1 bs in
    let code = code_of pr in
    let all : HasAt code.instrs 1 (bodies_code t 0 bs) = has_all (bodies_code t 0 bs) (Leave ∷ []) in
    let stands = λ (p i : ℕ). (
    let e : 0 + p ≡ p = omega arith in
    subst (λ n. Stands code.instrs (entry_in t n) n i (entry_in t p i) (slice_get (body_in bs p) i)) e (bodies_stand code.instrs t bs 0 1 p i all)) in
    record {
      statement = λ p i. leave_or_statement code.instrs (entry_in t p) p i (slice_get (body_in bs p) i) refl (stands p i);
      start = λ p. starts_at t p;
      next = λ p i. nexts_at bs p i;
      address = λ p i. refl;
      declared = refl;
      startup = refl;
    }
