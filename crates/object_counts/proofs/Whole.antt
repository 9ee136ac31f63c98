-- Each step keeps the counts right, and so a whole run that counts is the run that looks.
use Rattle.std.proofs.Common.{◌≡◌, ℕ, zero, suc, Bool, true, false, List, [], ◌∷◌, ◌++◌, refl, sym, ap, ◌∙◌, subst, arith}
use Rattle.std.specs.Prelude.{nat_lt, if◌then◌else◌}
use Rattle.sheet_host.specs.Books.{Sheets}
use Rattle.vba_values.specs.Val.{empty}
use Rattle.bound_project.specs.Project.{first_values}
use Rattle.vba_meaning.specs.Memory.{Going, Memory, opening}
use Rattle.vba_meaning.specs.References.{objects_in_values}
use Rattle.vba_meaning.specs.Effects.{Event, startup_slots}
use Rattle.vba_meaning.specs.Meaning.{State}
use Rattle.pcode.specs.Instructions.{Code}
use Rattle.pcode.specs.Machine.{Config, Fin, Done, tells, Move, Goes, Ends, Sticks, Tells, Turns, step_by, step, follow, machine, first_move}
use Rattle.object_counts.specs.Counts.{raise, raise_all}
use Rattle.object_counts.specs.Gains.{entered_gains}
use Rattle.object_counts.specs.Counting.{by_counts, lost, gained, lowered, counted_after, Outcome, Running, Finished, Jammed, telling, follow_counted, counting_machine, first_counts}
use Rattle.object_counts.specs.Balance.{Balanced, Leads, StepCounts, BalancedAt, fin_of, RunCounts}
use Rattle.object_counts.proofs.Indexed.{none_stored, raise_all_index, lower_all_index}
use Rattle.object_counts.proofs.Looks.{Grows}
use Rattle.object_counts.proofs.Moves.{Comes, enters_adds}
use Rattle.object_counts.proofs.Steps.{rest_of, rest_looks, rest_in_order, step_adds, step_same}

raised_balance : (counts : List ℕ) {gs : List ℕ} {m m1 : Memory} → Balanced counts m → Grows m gs m1 → Balanced (raise_all counts gs) m1
raised_balance counts {gs = gs} b a = record {
  in_order = a.ordered b.in_order;
  right = λ o. omega (arith, raise_all_index counts gs o, b.right o, a.more b.in_order o);
}

raised_on : (counts xs ys : List ℕ) → raise_all counts (xs ++ ys) ≡ raise_all (raise_all counts xs) ys
raised_on counts [] ys = refl
raised_on counts (x ∷ xs) ys = raised_on (raise counts x) xs ys

module _ (code : Code) (bound : ℕ) where
  leads : (counts gs : List ℕ) (m : Memory) (v : Move) → Balanced counts m → Comes bound m gs v → Leads bound (Balanced (raise_all counts gs)) v
  leads counts gs m (Goes c) b a = raised_balance counts b a
  leads counts gs m (Ends e s) b a = raised_balance counts b a
  leads counts gs m Sticks b a = tt
  leads counts gs m (Tells es v) b a = leads counts gs m v b a
  leads counts gs m (Turns s v) b a = (λ e. raised_balance counts b (a.0 e), λ e. leads counts gs m v b (a.1 e))

  -- ---- a step

  pub step_counts : (counts : List ℕ) (c : Config) → Balanced counts c.state.memory → StepCounts code bound counts c
  step_counts counts c b =
      let lows : List ℕ = lowered counts c in
      let gs : List ℕ = gained (by_counts lows) code bound c.mode c.stack c.backs c.state in
      let m : Memory = rest_of c.mode c.state.memory in
      let low : Balanced lows m = record {
        in_order = rest_in_order c.mode c.state.memory b.in_order;
        right = λ o. omega (arith, lower_all_index counts (lost c.mode c.state.memory) o, b.right o, rest_looks c.mode c.state.memory o);
      } in
      let is : step_by (by_counts lows) code c ≡ step code c = step_same code lows c.mode c.stack c.backs c.state b.in_order low.right in
      record {
        same = is;
        balanced = subst (λ v. Leads bound (Balanced (raise_all lows gs)) v) is
            (leads lows gs m (step_by (by_counts lows) code c) low (step_adds bound code (by_counts lows) c.mode c.stack c.backs c.state).law);
      }

  -- ---- a run

  -- an outcome beside an end of the machine that looks
  record Agrees (r : Outcome) (fin : Fin) : Type 0 where
    same : fin_of r ≡ fin
    balanced : BalancedAt r

  told_same : (es : List Event) (r : Outcome) → fin_of (telling es r) ≡ tells es (fin_of r)
  told_same es (Running counts c) = refl
  told_same es (Finished counts e s more) = refl
  told_same es Jammed = refl

  told_balanced : (es : List Event) (r : Outcome) → BalancedAt r → BalancedAt (telling es r)
  told_balanced es (Running counts c) h = h
  told_balanced es (Finished counts e s more) h = h
  told_balanced es Jammed h = h

  abbrev Follows : ℕ → Type 0
  Follows k = (counts : List ℕ) (c : Config) → Balanced counts c.state.memory → Agrees (counting_machine code bound k counts c) (machine code bound k c)

  follow_agrees : (k : ℕ) → Follows k → (counts : List ℕ) (v : Move) → Leads bound (Balanced counts) v
      → Agrees (follow_counted bound counts v (counting_machine code bound k)) (follow bound v (machine code bound k))
  follow_agrees k more counts (Goes c) b = more counts c b
  follow_agrees k more counts (Ends e s) b = record { same = refl; balanced = b }
  follow_agrees k more counts Sticks b = record { same = refl; balanced = tt }
  follow_agrees k more counts (Tells es v) b =
      let r = follow_counted bound counts v (counting_machine code bound k) in
      let inner = follow_agrees k more counts v b in
      record { same = told_same es r ∙ ap (tells es) inner.same; balanced = told_balanced es r inner.balanced }
  follow_agrees k more counts (Turns s v) b = by_turn (nat_lt s.begun bound) refl (λ e. follow_agrees k more counts v (b.1 e)) where
    by_turn : (t : Bool) → nat_lt s.begun bound ≡ t
        → (nat_lt s.begun bound ≡ true → Agrees (follow_counted bound counts v (counting_machine code bound k)) (follow bound v (machine code bound k)))
        → Agrees (if t then follow_counted bound counts v (counting_machine code bound k) else Finished counts Going s [])
        (if t then follow bound v (machine code bound k) else Done Going s [])
    by_turn true e inner = inner e
    by_turn false e inner = record { same = refl; balanced = b.0 e }

  follows : (k : ℕ) → Follows k
  follows zero counts c b = record { same = refl; balanced = b }
  follows (suc k) counts c b =
      let h = step_counts counts c b in
      let after : List ℕ = counted_after code bound counts c in
      subst (λ v. Agrees (follow_counted bound after v (counting_machine code bound k)) (follow bound (step code c) (machine code bound k))) (sym h.same)
      (follow_agrees k (follows k) after (step code c) h.balanced)

  -- the first move calls the macro
  first_leads : (book : Sheets) → Leads bound (Balanced (first_counts code)) (first_move code book)
  first_leads book =
      let s : State = record { memory = opening code.declared book; begun = 0 } in
      let first : List ℕ = objects_in_values (first_values code.declared code.declared.shared) in
      let gs : List ℕ = entered_gains code.declared code.startup empty (startup_slots code.declared code.startup) in
      let opened : Balanced (raise_all [] first) s.memory = record { in_order = tt; right = λ o. omega (arith, raise_all_index [] first o, none_stored o) } in
      subst (λ counts. Leads bound (Balanced counts) (first_move code book)) (sym (raised_on [] first gs))
      (leads (raise_all [] first) gs s.memory (first_move code book) opened (enters_adds bound code false code.startup empty (startup_slots code.declared code.startup) [] s).law)

  pub run_counts : (book : Sheets) (k : ℕ) → RunCounts code book bound k
  run_counts book k =
      let r = follow_agrees k (follows k) (first_counts code) (first_move code book) (first_leads book) in
      record { same = r.same; balanced = r.balanced }
