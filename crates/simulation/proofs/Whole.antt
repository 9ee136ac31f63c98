-- A whole run of the code of a project is the project's meaning, and fewer turns tell the beginning of what more
-- turns tell.
use Rattle.std.proofs.Common.{◌≡◌, ℕ, zero, suc, ◌+◌, ◌≤◌, Bool, true, false, List, [], ◌++◌, refl, sym, ap, ◌∙◌, subst, arith, append_assoc}
use Rattle.std.specs.Prelude.{nat_lt, if◌then◌else◌}
use Rattle.std.proofs.lemmas.Bool.{ltb-true}
use Rattle.sheet_host.specs.Books.{Sheets}
use Rattle.bound_project.specs.Project.{Project}
use Rattle.vba_meaning.specs.Memory.{Ending, Going}
use Rattle.vba_meaning.specs.Effects.{Event}
use Rattle.vba_meaning.specs.Meaning.{State, meaning}
use Rattle.pcode.specs.Instructions.{Code}
use Rattle.pcode.specs.Machine.{Config, Fin, Done, Unfinished, Stuck, tells, Move, Goes, Ends, Sticks, Tells, Turns, step, follow, machine, first_move, run_code}
use Rattle.pcode.proofs.OneEnd.{Final, more_steps, one_end, is_final}
use Rattle.pcode.specs.Layout.{entries_of, entry_in, code_of}
use Rattle.pcode.proofs.Lays.{laid}
use Rattle.simulation.specs.Meant.{fin_of, Means, Begins}
use Rattle.simulation.proofs.Levels.{simulates}

pub ends : (pr : Project) (book : Sheets) (bound : ℕ) → (j : ℕ) × (run_code (code_of pr) book bound j ≡ fin_of (meaning pr book bound))
ends pr book bound = simulates pr (code_of pr) (entry_in (entries_of 1 pr.bodies)) (laid pr) bound book

-- whenever the code's run has ended, it has ended so
ended_so : (pr : Project) (book : Sheets) (bound k : ℕ) → Final (run_code (code_of pr) book bound k) → run_code (code_of pr) book bound k ≡ fin_of (meaning pr book bound)
ended_so pr book bound k final =
    let e = ends pr book bound in
    one_end (code_of pr) book bound k e.0 final (is_final (run_code (code_of pr) book bound e.0) (fin_of (meaning pr book bound)) tt e.1) ∙ e.1

pub means : (pr : Project) (book : Sheets) (bound : ℕ) → Means pr book bound (code_of pr)
means pr book bound = record {
  ends = ends pr book bound;
  only = λ k e s es h. sym h ∙ ended_so pr book bound k (is_final (run_code (code_of pr) book bound k) (Done e s es) tt h);
  never_stuck = λ k h. (let e = sym h ∙ ended_so pr book bound k (is_final (run_code (code_of pr) book bound k) Stuck tt h) in absurd cc);
}

-- ---- fewer turns

-- where both have ended, what the first told begins what the other told
abbrev Front : Fin → Fin → Type 0
Front (Done e s es) (Done e' s' es') = Begins es es'
Front (Done e s es) Unfinished = Unit {0}
Front (Done e s es) Stuck = Unit {0}
Front Unfinished y = Unit {0}
Front Stuck y = Unit {0}

nothing_told : (e : Ending) (s : State) (y : Fin) → Front (Done e s []) y
nothing_told e s (Done e' s' es') = record { rest = es'; whole = refl }
nothing_told e s Unfinished = tt
nothing_told e s Stuck = tt

told_front : (es : List Event) (x y : Fin) → Front x y → Front (tells es x) (tells es y)
told_front es (Done e s a) (Done e' s' b) h = record { rest = h.rest; whole = ap (λ l. es ++ l) h.whole ∙ sym (append_assoc es a h.rest) }
told_front es (Done e s a) Unfinished h = tt
told_front es (Done e s a) Stuck h = tt
told_front es Unfinished y h = tt
told_front es Stuck y h = tt

turn_front : (x y : Fin) (s : State) (b b' : Bool) → (b ≡ true → b' ≡ true) → Front x y → Front (if b then x else Done Going s []) (if b' then y else Done Going s [])
turn_front x y s true true k h = h
turn_front x y s true false k h = absurd (let e : false ≡ true = k refl in cc)
turn_front x y s false b' k h = nothing_told Going s (if b' then y else Done Going s [])

still_less : (k n m : ℕ) → n ≤ m → nat_lt k n ≡ true → nat_lt k m ≡ true
still_less k n m le e = let lt = ltb-true k n e in grind (arith)

front : (n m : ℕ) → n ≤ m → (v : Move) (f g : Config → Fin) → ((c : Config) → Front (f c) (g c)) → Front (follow n v f) (follow m v g)
front n m le (Goes c) f g h = h c
front n m le (Ends e s) f g h = nothing_told e s (Done e s [])
front n m le Sticks f g h = tt
front n m le (Tells es v) f g h = told_front es (follow n v f) (follow m v g) (front n m le v f g h)
front n m le (Turns s v) f g h = turn_front (follow n v f) (follow m v g) s (nat_lt s.begun n) (nat_lt s.begun m) (still_less s.begun n m le) (front n m le v f g h)

fronts : (code : Code) (n m : ℕ) → n ≤ m → (k : ℕ) (c : Config) → Front (machine code n k c) (machine code m k c)
fronts code n m le zero c = tt
fronts code n m le (suc k) c = front n m le (step code c) (machine code n k) (machine code m k) (λ d. fronts code n m le k d)

pub prefix : (pr : Project) (book : Sheets) (turns more-turns : ℕ) → turns ≤ more-turns → Begins (meaning pr book turns).events (meaning pr book more-turns).events
prefix pr book n m le =
    let code = code_of pr in
    let a = ends pr book n in
    let b = ends pr book m in
    let k : ℕ = a.0 + b.0 in
    let final-a = is_final (run_code code book n a.0) (fin_of (meaning pr book n)) tt a.1 in
    let final-b = is_final (run_code code book m b.0) (fin_of (meaning pr book m)) tt b.1 in
    let x : run_code code book n k ≡ fin_of (meaning pr book n) = more_steps code book n a.0 k (omega arith) final-a ∙ a.1 in
    let y : run_code code book m k ≡ fin_of (meaning pr book m) = more_steps code book m b.0 k (omega arith) final-b ∙ b.1 in
    subst (λ u. Front u (fin_of (meaning pr book m))) x (subst (λ u. Front (run_code code book n k) u) y (front n m le (first_move code book) (machine code n k) (machine code m k) (λ c. fronts code n m le k c)))
