-- What it is that the machine follows a result.
use Rattle.std.proofs.Common.{◌≡◌, ℕ, zero, suc, ◌+◌, ◌<◌, ◌≤◌, Bool, true, false, List, [], ◌∷◌, Some, refl, ap, ◌∙◌, arith}
use Rattle.std.specs.Prelude.{slice_get, nat_lt, if◌then◌else◌}
use Rattle.std.proofs.lemmas.Bool.{ltb-true}
use Rattle.vba_meaning.specs.Memory.{Error, Ending, Stopped, Going, Slot, Memory, top, error_here}
use Rattle.vba_meaning.specs.Effects.{Event, Raised, Effect, Fine, Bad-at, Out, Tell}
use Rattle.vba_meaning.specs.Meaning.{State, Res, Got, Failed, Over, Told, Turn, catch, ◌>>=◌, turn, turned, with_memory, raise_error, done_by, perform}
use Rattle.pcode.specs.Instructions.{Instr, Code}
use Rattle.pcode.specs.Machine.{Back, Config, Fin, Done, tells, Move, Goes, Ends, Tells, Turns, at, failing, raised, done_then, looking, act, step, follow, machine}

-- so many turns more are enough
abbrev pub Enough : (bound n : ℕ) → State → Type 0
Enough bound n s = bound ≤ s.begun + n

abbrev pub Good : {A : Type 0} → (bound n : ℕ) → Res A → Type 0
Good bound n (Got v s) = Enough bound n s
Good bound n (Failed e s) = Enough bound n s
Good bound n (Over x s) = Unit {0}
Good bound n (Told es r) = Good bound n r
Good bound n (Turn s r) = nat_lt s.begun bound ≡ true → Good bound n r

-- each value that a result may give is so
abbrev pub Each : {A : Type 0} → (A → Type 0) → Res A → Type 0
Each P (Got v s) = P v
Each P (Failed e s) = Unit {0}
Each P (Over x s) = Unit {0}
Each P (Told es r) = Each P r
Each P (Turn s r) = Each P r

pub anything : {A : Type 0} (r : Res A) → Each (λ v. Unit {0}) r
anything (Got v s) = tt
anything (Failed e s) = tt
anything (Over x s) = tt
anything (Told es r) = anything r
anything (Turn s r) = anything r

pub each_then : {A B : Type 0} {P : A → Type 0} (Q : B → Type 0) (r : Res A) (f : A → State → Res B) → Each P r → ((v : A) (s : State) → P v → Each Q (f v s)) → Each Q (r >>= f)
each_then Q (Got v s) f each h = h v s each
each_then Q (Failed e s) f each h = tt
each_then Q (Over x s) f each h = tt
each_then Q (Told es r) f each h = each_then Q r f each h
each_then Q (Turn s r) f each h = each_then Q r f each h

-- where the machine is after a result
abbrev pub outs : {A : Type 0} → Code → (bound : ℕ) → (A → State → Move) → (Error → State → Move) → ℕ → Res A → Fin
outs code bound got bad k (Got v s) = follow bound (got v s) (machine code bound k)
outs code bound got bad k (Failed e s) = follow bound (bad e s) (machine code bound k)
outs code bound got bad k (Over x s) = Done x s []
outs code bound got bad k (Told es r) = tells es (outs code bound got bad k r)
outs code bound got bad k (Turn s r) = if nat_lt s.begun bound then outs code bound got bad k r else Done Going s []

-- after this move the machine comes to what follows the result
pub record Runs {A : Type 0} (code : Code) (bound n : ℕ) (m : Move) (got : A → State → Move) (bad : Error → State → Move) (r : Res A) : Type 0 where
  pub by : (k : ℕ) → (j : ℕ) × (follow bound m (machine code bound j) ≡ outs code bound got bad k r)
  pub enough : Good bound n r

abbrev pub failed : List Back → Error → State → Move
failed bs e s = Goes (failing e bs s)

-- where the turn is refused both are going
chosen : (x : ℕ → Fin) (y z : Fin) (b : Bool) → (b ≡ true → (j : ℕ) × (x j ≡ y)) → (j : ℕ) × ((if b then x j else z) ≡ (if b then y else z))
chosen x y z true h = h refl
chosen x y z false h = (0, refl)

module _ {code : Code} {bound n : ℕ} where
  joined : {A B : Type 0} {P : A → Type 0} {mid : A → State → Move} {got : B → State → Move} {bad bad' : Error → State → Move} {f : A → State → Res B} {g : Error → State → Res B} (r : Res A)
      → Good bound n r → Each P r
      → ((v : A) (s : State) → P v → Enough bound n s → Runs code bound n (mid v s) got bad (f v s))
      → ((e : Error) (s : State) → Enough bound n s → Runs code bound n (bad' e s) got bad (g e s))
      → (k : ℕ) → (q : ℕ) × (outs code bound mid bad' q r ≡ outs code bound got bad k (catch r f g))
  joined (Got v s) good each h h' k = (h v s each good).by k
  joined (Failed e s) good each h h' k = (h' e s good).by k
  joined (Over x s) good each h h' k = (0, refl)
  joined (Told es r) good each h h' k = let q = joined r good each h h' k in (q.0, ap (tells es) q.1)
  joined {mid = mid} {got = got} {bad = bad} {bad' = bad'} {f = f} {g = g} (Turn s r) good each h h' k =
      chosen (λ q. outs code bound mid bad' q r) (outs code bound got bad k (catch r f g)) _ (nat_lt s.begun bound) (λ e. joined r (good e) each h h' k)

  good_joined : {A B : Type 0} {P : A → Type 0} {mid : A → State → Move} {got : B → State → Move} {bad bad' : Error → State → Move} {f : A → State → Res B} {g : Error → State → Res B} (r : Res A)
      → Good bound n r → Each P r
      → ((v : A) (s : State) → P v → Enough bound n s → Runs code bound n (mid v s) got bad (f v s))
      → ((e : Error) (s : State) → Enough bound n s → Runs code bound n (bad' e s) got bad (g e s))
      → Good bound n (catch r f g)
  good_joined (Got v s) good each h h' = (h v s each good).enough
  good_joined (Failed e s) good each h h' = (h' e s good).enough
  good_joined (Over x s) good each h h' = tt
  good_joined (Told es r) good each h h' = good_joined r good each h h'
  good_joined (Turn s r) good each h h' = λ e. good_joined r (good e) each h h'

  pub catches_each : {A B : Type 0} {P : A → Type 0} {m : Move} {mid : A → State → Move} {got : B → State → Move} {bad bad' : Error → State → Move} {f : A → State → Res B} {g : Error → State → Res B} (r : Res A)
      → Each P r → Runs code bound n m mid bad' r
      → ((v : A) (s : State) → P v → Enough bound n s → Runs code bound n (mid v s) got bad (f v s))
      → ((e : Error) (s : State) → Enough bound n s → Runs code bound n (bad' e s) got bad (g e s))
      → Runs code bound n m got bad (catch r f g)
  catches_each r each a h h' = record {
    by = λ k. let q = joined r a.enough each h h' k in let p = a.by q.0 in (p.0, p.1 ∙ q.1);
    enough = good_joined r a.enough each h h';
  }

  pub catches : {A B : Type 0} {m : Move} {mid : A → State → Move} {got : B → State → Move} {bad bad' : Error → State → Move} {f : A → State → Res B} {g : Error → State → Res B} (r : Res A)
      → Runs code bound n m mid bad' r
      → ((v : A) (s : State) → Enough bound n s → Runs code bound n (mid v s) got bad (f v s))
      → ((e : Error) (s : State) → Enough bound n s → Runs code bound n (bad' e s) got bad (g e s))
      → Runs code bound n m got bad (catch r f g)
  catches r a h h' = catches_each r (anything r) a (λ v s u good. h v s good) h'

  pub fails : {A : Type 0} {got : A → State → Move} {bad : Error → State → Move} (e : Error) (s : State) → Enough bound n s → Runs code bound n (bad e s) got bad (Failed e s)
  fails e s good = record { by = λ k. (k, refl); enough = good }

  pub bind_each : {A B : Type 0} {P : A → Type 0} {m : Move} {mid : A → State → Move} {got : B → State → Move} {bad : Error → State → Move} {f : A → State → Res B} (r : Res A)
      → Each P r → Runs code bound n m mid bad r
      → ((v : A) (s : State) → P v → Enough bound n s → Runs code bound n (mid v s) got bad (f v s))
      → Runs code bound n m got bad (r >>= f)
  bind_each r each a h = catches_each r each a h (λ e s good. fails e s good)

  pub bind : {A B : Type 0} {m : Move} {mid : A → State → Move} {got : B → State → Move} {bad : Error → State → Move} {f : A → State → Res B} (r : Res A)
      → Runs code bound n m mid bad r
      → ((v : A) (s : State) → Enough bound n s → Runs code bound n (mid v s) got bad (f v s))
      → Runs code bound n m got bad (r >>= f)
  bind r a h = catches r a h (λ e s good. fails e s good)

  pub here : {A : Type 0} {got : A → State → Move} {bad : Error → State → Move} (v : A) (s : State) → Enough bound n s → Runs code bound n (got v s) got bad (Got v s)
  here v s good = record { by = λ k. (k, refl); enough = good }

  pub over : {A : Type 0} {got : A → State → Move} {bad : Error → State → Move} (e : Ending) (s : State) → Runs code bound n (Ends e s) got bad (Over e s)
  over e s = record { by = λ k. (k, refl); enough = tt }

  -- events
  pub telling : {A : Type 0} {m : Move} {got : A → State → Move} {bad : Error → State → Move} {r : Res A} (es : List Event) → Runs code bound n m got bad r → Runs code bound n (Tells es m) got bad (Told es r)
  telling es a = record { by = λ k. let p = a.by k in (p.0, ap (tells es) p.1); enough = a.enough }

  -- one step
  pub before : {A : Type 0} {got : A → State → Move} {bad : Error → State → Move} {r : Res A} (c : Config) → Runs code bound n (step code c) got bad r → Runs code bound n (Goes c) got bad r
  before c a = record { by = λ k. let p = a.by k in (suc p.0, p.1); enough = a.enough }

  -- one instruction
  pub instr : {A : Type 0} {got : A → State → Move} {bad : Error → State → Move} {r : Res A} (i : Instr) (pc : ℕ) (st : List Slot) (bs : List Back) (s : State)
      → slice_get code.instrs pc ≡ Some i → Runs code bound n (act looking code (Some i) pc st bs s) got bad r → Runs code bound n (Goes (at pc st bs s)) got bad r
  instr {r = r} i pc st bs s h a = record {
    by = λ k. let p = a.by k in (suc p.0, ap (λ o. follow bound (act looking code o pc st bs s) (machine code bound p.0)) h ∙ p.1);
    enough = a.enough;
  }

  pub either : {A : Type 0} {m m' : Move} {got : A → State → Move} {bad : Error → State → Move} {r r' : Res A} (b : Bool)
      → Runs code bound n m got bad r → Runs code bound n m' got bad r' → Runs code bound n (if b then m else m') got bad (if b then r else r')
  either true a a' = a
  either false a a' = a'

  -- a turn, where one is left
  pub in_turn : {A : Type 0} {m : Move} {got : A → State → Move} {bad : Error → State → Move} (go : State → Res A) (s : State)
      → (s.begun < bound → Runs code bound n m got bad (go (turned s)))
      → Runs code bound n (Turns s m) got bad (turn s go)
  in_turn {m = m} {got = got} {bad = bad} go s h = record {
    by = λ k. chosen (λ j. follow bound m (machine code bound j)) (outs code bound got bad k (go (turned s))) _ (nat_lt s.begun bound) (λ e. (h (ltb-true s.begun bound e)).by k);
    enough = λ e. (h (ltb-true s.begun bound e)).enough;
  }

  pub raises : {A : Type 0} {got : A → State → Move} (e : Error) (bs : List Back) (s : State) → Enough bound n s → Runs code bound n (raised e bs s) got (failed bs) (raise_error e s)
  raises e bs s good = in_turn (λ s1. Told (Raised e.number ∷ []) (Failed e s1)) s (λ lt. telling (Raised e.number ∷ []) (fails e (turned s) (let k : bound ≤ s.begun + n = good in omega arith)))

  done_runs : {A : Type 0} {got : A → State → Move} (e : Effect A) (bs : List Back) (s : State) → Enough bound n s → Runs code bound n (done_then e bs s got) got (failed bs) (done_by e s)
  done_runs (Fine v m) bs s good = here v (with_memory s m) good
  done_runs (Bad-at k m) bs s good = raises (error_here k m) bs (with_memory s m) good
  done_runs (Out w m) bs s good = over (Stopped w (top m).procedure (top m).statement) (with_memory s m)
  done_runs (Tell es e) bs s good = telling es (done_runs e bs s good)

  -- what is done in one go, the machine does by the same word
  pub performs : {A : Type 0} {got : A → State → Move} (f : Memory → Effect A) (bs : List Back) (s : State) → Enough bound n s → Runs code bound n (done_then (f s.memory) bs s got) got (failed bs) (perform f s)
  performs f bs s good = done_runs (f s.memory) bs s good

  same_outs : {A : Type 0} {mid got : A → State → Move} {bad : Error → State → Move} (r : Res A) → Good bound n r
      → ((v : A) (s : State) → Enough bound n s → Runs code bound n (mid v s) got bad (Got v s)) → (k : ℕ) → (q : ℕ) × (outs code bound mid bad q r ≡ outs code bound got bad k r)
  same_outs (Got v s) good h k = (h v s good).by k
  same_outs (Failed e s) good h k = (k, refl)
  same_outs (Over x s) good h k = (0, refl)
  same_outs (Told es r) good h k = let q = same_outs r good h k in (q.0, ap (tells es) q.1)
  same_outs {mid = mid} {got = got} {bad = bad} (Turn s r) good h k =
      chosen (λ q. outs code bound mid bad q r) (outs code bound got bad k r) _ (nat_lt s.begun bound) (λ e. same_outs r (good e) h k)

  -- more steps before what follows
  pub further : {A : Type 0} {m : Move} {mid got : A → State → Move} {bad : Error → State → Move} (r : Res A)
      → Runs code bound n m mid bad r → ((v : A) (s : State) → Enough bound n s → Runs code bound n (mid v s) got bad (Got v s)) → Runs code bound n m got bad r
  further r a h = record { by = λ k. let q = same_outs r a.enough h k in let p = a.by q.0 in (p.0, p.1 ∙ q.1); enough = a.enough }

longer_good : {A : Type 0} (bound n : ℕ) (r : Res A) → Good bound n r → Good bound (suc n) r
longer_good bound n (Got v s) g = omega (arith, g)
longer_good bound n (Failed e s) g = omega (arith, g)
longer_good bound n (Over x s) g = tt
longer_good bound n (Told es r) g = longer_good bound n r g
longer_good bound n (Turn s r) g = λ e. longer_good bound n r (g e)

-- the same, deeper
pub longer : {A : Type 0} {code : Code} {bound n : ℕ} {m : Move} {got : A → State → Move} {bad : Error → State → Move} (r : Res A) → Runs code bound n m got bad r → Runs code bound (suc n) m got bad r
longer {bound = bound} {n = n} r a = record { by = a.by; enough = longer_good bound n r a.enough }

-- a turn that leads one deeper
pub by_turn : {A : Type 0} {code : Code} {bound : ℕ} {m : Move} {got : A → State → Move} {bad : Error → State → Move} (n : ℕ) (go : State → Res A) (s : State) → Enough bound n s
    → ((d : ℕ) → n ≡ suc d → Enough bound d (turned s) → Runs code bound d m got bad (go (turned s)))
    → Runs code bound n (Turns s m) got bad (turn s go)
by_turn {bound = bound} zero go s good h = in_turn go s (λ lt. absurd (let k : bound ≤ s.begun + 0 = good in omega arith))
by_turn {bound = bound} (suc d) go s good h = in_turn go s (λ lt. longer _ (h d refl (let k : bound ≤ s.begun + suc d = good in omega arith)))
