-- What the rounds of a project and of a procedure come to.
use Rattle.std.proofs.Common.{◌≡◌, ℕ, zero, suc, ◌+◌, ◌-◌, ◌≤◌, ◌<◌, Bool, true, false, ◌&&◌, List, [], ◌∷◌, ◌++◌, map, length, Option, Some, None, refl, sym, ap, ◌∙◌, subst, arith}
use Rattle.std.specs.Prelude.{bytes_eq, ℤ}
use Rattle.std.specs.Ordering.{int_eq}
use Rattle.std.specs.Bool.{beq}
use Rattle.declared_names.specs.binder.specs.Scopes.{Outside, Space, Scope}
use Rattle.declared_names.specs.binder.specs.Constants.{Known, all_entries}
use Rattle.declared_names.specs.Outside.{the_outside}
use Rattle.constant_values.specs.Names.{nothing, values, entries_by, locals_by}
use Rattle.constant_values.specs.Rounds.{AreNumbered, IsPlaced, entries_round, locals_round, longest, rounds_from}
use Rattle.constant_values.specs.Tables.{passed, repeated_locals}
use Rattle.constant_values.proofs.Rounded.{through, entries_first, entries_next, entries_rest, locals_first, locals_next}

-- one round more
pub rounds_more : (n k : ℕ) (o : Outside) (spaces : List Space) → rounds_from (suc n) k o spaces ≡ rounds_from n k o spaces ++ entries_round (n + k) o spaces ∷ []
rounds_more zero k o spaces = let e : zero + k ≡ k = omega arith in rw e refl
rounds_more (suc n) k o spaces =
    let e : n + suc k ≡ suc n + k = omega arith in
    ap (λ (t : List (List (List (Option Known)))). entries_round k o spaces ∷ t) (rounds_more n (suc k) o spaces ∙ rw e refl)

-- the values behind rounds that were kept
pub passed_rounds : (s : Scope) → IsPlaced s → (n k : ℕ) → passed s (locals_round k s) (rounds_from n k s.outside s.spaces) ≡ locals_round (n + k) s
passed_rounds s placed zero k = let e : zero + k ≡ k = omega arith in rw e refl
passed_rounds s placed (suc n) k =
    let e : n + suc k ≡ suc n + k = omega arith in
    ap (λ (slots : List (Option Known)). passed s slots (rounds_from n (suc k) s.outside s.spaces)) (locals_next k s placed)
    ∙ (passed_rounds s placed n (suc k) ∙ ap (λ (j : ℕ). locals_round j s) e)

-- the values after rounds that all go by one table
pub repeated_rounds : (s : Scope) → IsPlaced s → (count : ℕ) (last : List (List (Option Known))) → ((k : ℕ) → count ≤ k → last ≡ entries_round k s.outside s.spaces)
    → (n k : ℕ) → count ≤ k → repeated_locals n s last (locals_round k s) ≡ locals_round (n + k) s
repeated_rounds s placed count last later zero k le = let e : zero + k ≡ k = omega arith in rw e refl
repeated_rounds s placed count last later (suc n) k le =
    let e : n + suc k ≡ suc n + k = omega arith in
    let up : count ≤ suc k = omega arith in
    ap (λ (t : List (List (Option Known))). repeated_locals n s last (locals_by (values t (locals_round k s)) s)) (later k le)
    ∙ (ap (λ (slots : List (Option Known)). repeated_locals n s last slots) (locals_next k s placed)
    ∙ (repeated_rounds s placed count last later n (suc k) up ∙ ap (λ (j : ℕ). locals_round j s) e))

-- where a round changes nothing, more change nothing
pub repeated_rest : (n : ℕ) (s : Scope) (entries : List (List (Option Known))) (slots : List (Option Known)) → locals_by (values entries slots) s ≡ slots
    → repeated_locals n s entries slots ≡ slots
repeated_rest zero s entries slots h = refl
repeated_rest (suc n) s entries slots h = ap (repeated_locals n s entries) h ∙ repeated_rest n s entries slots h

-- where a round of the project changes nothing, its table stands for all behind it
pub later_rounds : (o : Outside) (spaces : List Space) → AreNumbered spaces → (count : ℕ) (last : List (List (Option Known)))
    → last ≡ entries_round count o spaces → entries_by (values last []) o spaces ≡ last
    → (k : ℕ) → count ≤ k → last ≡ entries_round k o spaces
later_rounds o spaces numbered count last e h k le =
    let rest : entries_round (suc count) o spaces ≡ entries_round count o spaces =
    sym (entries_next count o spaces numbered) ∙ (ap (λ (t : List (List (Option Known))). entries_by (values t []) o spaces) (sym e) ∙ (h ∙ e)) in
    e ∙ sym (entries_rest o spaces numbered count k rest le)
