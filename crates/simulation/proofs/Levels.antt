-- The machine follows the project: procedures, the ends of objects, runs.
use Rattle.std.proofs.Common.{◌≡◌, ℕ, zero, suc, ◌+◌, ◌≤◌, Bool, true, false, List, [], ◌∷◌, length, Option, Some, None, refl, sym, ap, ◌∙◌, subst, arith}
use Rattle.std.specs.Prelude.{slice_index, slice_index_or, nat_lt, if◌then◌else◌}
use Rattle.vba_values.specs.declared.object.ObjRef.TheVariants.{Heap}
use Rattle.vba_values.specs.Val.{Val, empty, object}
use Rattle.error_frames.specs.declared.frame.Taken.{Taken}
use Rattle.error_frames.specs.declared.frame.Taken.TheVariants as taken
use Rattle.bound_project.specs.Statements.{Statement}
use Rattle.vba_events.specs.declared.linked.Linked.{Linked}
use Rattle.sheet_host.specs.Books.{Sheets}
use Rattle.bound_project.specs.Project.{Project, class_at, statement_at, first_values}
use Rattle.vba_meaning.specs.Memory.{Error, Ended, Faulted, Going, opening, Slot, Object, top, at_statement, frame_left, result, entered, error_here, number_or, object_at}
use Rattle.vba_meaning.specs.References.{objects_in, objects_in_values, is_last, hold, next_waiting, taken_off, let_held, held_by, let_frame, as_told, gone, closed}
use Rattle.vba_meaning.specs.Effects.{Raised, Term, unlent, startup_slots, taken_by, with_taken}
use Rattle.vba_meaning.specs.Defaults.{Task}
use Rattle.vba_meaning.specs.Meaning.{State, Res, Got, Failed, Over, Told, Turn, ◌>>=◌, turn, turned, with_memory, raise_error, exec, Doing, nowhere, enter, called_by, callees, terminate_by, tell, finish, end_of, one, let_go, lets_held, lets_frame, leave, left, pass_on, next_here, decide_by, decide, settle, at_statement_or, level, doing, close, Run, run_of, first_state, meaning}
use Rattle.pcode.specs.Instructions.{Begin, Leave, Code}
use Rattle.pcode.specs.Machine.{After, Goes-on, Decide, Return, Pass, Close, Back, Caller, EndOf, Within, Delivering, Move, Goes, Ends, Turns, at, failing, letting, lets_all, raises_then, raised, enters, enter_by, calls, looking, finished_by, terminates_by, ends_by, lets_one_by, closing, returned_by, passed_on, takes, decides, Fin, Done, tells, follow, machine, first_move, run_code, resumes, delivers}
use Rattle.pcode.specs.Code.{Entry, action_code}
use Rattle.pcode.specs.Layout.{HasStatement, Laid}
use Rattle.pcode.proofs.Stands.{up_to}
use Rattle.simulation.specs.Meant.{fin_of}
use Rattle.simulation.proofs.Moves.{Enough, outs, Runs, catches, fails, bind, here, over, telling, before, instr, either, in_turn, failed, raises, by_turn}
use Rattle.simulation.proofs.Runs.{Lets, all_go, Calls, on_value, with_end, action_runs}

-- ---- what is known of a smaller depth

pub record Works (code : Code) (entry : ℕ → Entry) (bound n : ℕ) (d : Doing) : Type 0 where
  pub run : (p i : ℕ) (bs : List Back) (s : State) → Enough bound n s → Runs code bound n (Goes (at (entry p i) [] bs s)) (returned_by looking code bs) (passed_on bs) (d.run p i s)
  pub go : Lets code bound n d.go

module _ (pr : Project) (code : Code) (entry : ℕ → Entry) (laid : Laid pr entry code) (bound n : ℕ) (d : Doing) (works : Works code entry bound n d) where
  -- a procedure is entered
  stands_runs : (c : Bool) (p : ℕ) (self : Val) (xs : List Slot) (bs : List Back) (s : State) → Enough bound n s
      → Runs code bound n (enters code c p self xs bs s) (returned_by looking code bs) (passed_on bs) (turn (with_memory s (entered pr.declared c p self xs s.memory)) (λ s1. d.run p 0 s1))
  stands_runs c p self xs bs s good =
      let s1 : State = with_memory s (entered pr.declared c p self xs s.memory) in
      subst (λ t. Runs code bound n (let s2 : State = with_memory s (entered t c p self xs s.memory) in Turns s2 (Goes (at (slice_index code.starts p) [] bs (turned s2)))) (returned_by looking code bs) (passed_on bs) (turn s1 (λ s2. d.run p 0 s2))) (sym laid.declared)
      (rw (laid.start p) (in_turn (λ s2. d.run p 0 s2) s1 (λ lt. works.run p 0 bs (turned s1) (let k : bound ≤ s.begun + n = good in omega arith))))

  enter_runs : (c : Bool) (p : ℕ) (self : Val) (xs : List Slot) (bs : List Back) (s : State) (full : Move) → Enough bound n s
      → Runs code bound n full (returned_by looking code bs) (passed_on bs) (raise_error (error_here 28 s.memory) s)
      → Runs code bound n (enter_by code c p self xs bs s full) (returned_by looking code bs) (passed_on bs) (enter pr d c p self xs s)
  enter_runs c p self xs bs s full good h = either (nat_lt (length s.memory.frames) 2000) (stands_runs c p self xs bs s good) h

  called_runs : (p : ℕ) (self : Val) (xs st : List Slot) (pc : ℕ) (bs : List Back) (s : State) → Enough bound n s
      → Runs code bound n (calls code p self xs pc st bs s) (on_value st bs pc) (failed bs) (called_by pr d p self xs s)
  called_runs p self xs st pc bs s good =
      bind (enter pr d true p self xs s) (enter_runs true p self xs (Caller pc st ∷ bs) s (raised (error_here 28 s.memory) bs s) good (raises {got = returned_by looking code (Caller pc st ∷ bs)} (error_here 28 s.memory) bs s good))
      (λ v s1 g1. here {got = on_value st bs pc} v (with_memory s1 (hold v s1.memory)) g1)

  within_runs : (p : ℕ) (self : Val) (xs : List Slot) (b : Bool) (k : ℕ) (ts : List Task) (st : List Slot) (pc : ℕ) (bs : List Back) (s : State) → Enough bound n s
      → Runs code bound n (enter_by code true p self xs (Within b k ts pc st ∷ bs) s (raised (error_here 28 s.memory) bs s)) (λ v s1. resumes code b k ts pc st bs v s1) (failed bs) (called_by pr d p self xs s)
  within_runs p self xs b k ts st pc bs s good =
      bind (enter pr d true p self xs s)
      (enter_runs true p self xs (Within b k ts pc st ∷ bs) s (raised (error_here 28 s.memory) bs s) good (raises {got = returned_by looking code (Within b k ts pc st ∷ bs)} (error_here 28 s.memory) bs s good))
      (λ v s1 g1. here {got = λ w s2. resumes code b k ts pc st bs w s2} v (with_memory s1 (hold v s1.memory)) g1)

  handle_runs : (e p : ℕ) (self : Val) (xs : List Slot) (ls : List Linked) (pc : ℕ) (st : List Slot) (bs : List Back) (s : State) → Enough bound n s
      → Runs code bound n (enter_by code true p self xs (Delivering e xs ls pc st ∷ bs) s (raised (error_here 28 s.memory) bs s)) (λ v s1. delivers code e xs ls pc st bs s1) (failed bs) (called_by pr d p self xs s)
  handle_runs e p self xs ls pc st bs s good =
      let back : Back = Delivering e xs ls pc st in
      bind (enter pr d true p self xs s) (enter_runs true p self xs (back ∷ bs) s (raised (error_here 28 s.memory) bs s) good (raises {got = returned_by looking code (back ∷ bs)} (error_here 28 s.memory) bs s good))
      (λ v s1 g1. here {got = λ w s2. delivers code e xs ls pc st bs s2} v (with_memory s1 (hold v s1.memory)) g1)

  calls_of : Calls code bound n (callees pr d)
  calls_of = record { call = called_runs; within = within_runs; handle = handle_runs; go = works.go }

  passes : (e : Error) (bs : List Back) (s : State) → Enough bound n s → Runs code bound n (lets_all (Pass e) bs s) (returned_by looking code bs) (passed_on bs) (pass_on d e s)
  passes e bs s good =
      bind (lets_frame d.go s) (all_go code bound n d.go works.go (length (held_by (top s.memory))) (Pass e) bs (with_memory s (let_frame s.memory)) (passed_on bs) good)
      (λ u s1 g1. fails {bad = passed_on bs} e (with_memory s1 (left s1.memory)) g1)

  taken_runs : (e : Error) (t : Taken) (bs : List Back) (s : State) → Enough bound n s → Runs code bound n (takes code e t bs s) (returned_by looking code bs) (passed_on bs) (decide_by d e t s)
  taken_runs e (taken.Next to) bs s good =
      rw (laid.address (top s.memory).procedure to.0) (works.run (top s.memory).procedure to.0 bs (with_memory s (with_taken e (taken.Next to) s.memory)) good)
  taken_runs e (taken.Handler to) bs s good =
      rw (laid.address (top s.memory).procedure to.0) (works.run (top s.memory).procedure to.0 bs (with_memory s (with_taken e (taken.Handler to) s.memory)) good)
  taken_runs e taken.PassOn bs s good = passes e bs s good

  decided_runs : (e : Error) (bs : List Back) (s : State) → Enough bound n s → Runs code bound n (decides code e bs s) (returned_by looking code bs) (passed_on bs) (decide pr d e s)
  decided_runs e bs s good =
      rw (laid.next (top s.memory).procedure (number_or (top s.memory).statement)) (taken_runs e (taken_by (next_here pr s.memory) s.memory) bs s good)

  settle_runs : (p : ℕ) (bs : List Back) (m : Move) (r : Res ℕ) → Runs code bound n m (with_end (entry p) bs) (failed bs) r → Runs code bound n m (returned_by looking code bs) (passed_on bs) (settle pr d p r)
  settle_runs p bs m r a =
      catches r a
      (λ to s good.
      let t : State = with_memory s (unlent s.memory) in
      bind (lets_held d.go t) (all_go code bound n d.go works.go (length (top t.memory).held) (Goes-on (entry p to)) bs (with_memory t (let_held t.memory)) (passed_on bs) good)
      (λ u s1 g1. works.run p to bs s1 g1))
      (λ e s good.
      let t : State = with_memory s (unlent s.memory) in
      before (failing e bs s)
      (bind (lets_held d.go t) (all_go code bound n d.go works.go (length (top t.memory).held) (Decide e) bs (with_memory t (let_held t.memory)) (passed_on bs) good)
      (λ u s1 g1. decided_runs e bs s1 g1)))

  -- ---- the end of an object

  full_runs : (o k : ℕ) (after : After) (bs : List Back) (s : State) → Enough bound n s
      → Runs code bound n (raises_then (error_here 28 s.memory) s (λ s1. Ends (Faulted (error_here 28 s.memory)) s1)) (returned_by looking code (EndOf o k after ∷ bs)) (passed_on (EndOf o k after ∷ bs)) (raise_error (error_here 28 s.memory) s)
  full_runs o k after bs s good =
      let e : Error = error_here 28 s.memory in
      in_turn (λ s1. Told (Raised e.number ∷ []) (Failed e s1)) s
      (λ lt. telling (Raised e.number ∷ []) (fails {bad = passed_on (EndOf o k after ∷ bs)} e (turned s) (let h : bound ≤ s.begun + n = good in omega arith)))

  terminate_runs : (t : Option ℕ) (o k : ℕ) (after : After) (bs : List Back) (s : State) (bad : Error → State → Move) → Enough bound n s
      → Runs code bound n (terminates_by looking code t o k after bs s) (λ u s1. finished_by looking o k after bs s1) bad (terminate_by pr d t o s)
  terminate_runs None o k after bs s bad good = here {got = λ u s1. finished_by looking o k after bs s1} tt s good
  terminate_runs (Some p) o k after bs s bad good =
      let self : Val = object (Heap (record { 0 = o })) in
      catches (enter pr d false p self [] s)
      (enter_runs false p self [] (EndOf o k after ∷ bs) s _ good (full_runs o k after bs s good))
      (λ v s1 g1. here {got = λ u s1. finished_by looking o k after bs s1} tt s1 g1)
      (λ e s1 g1. over (Faulted e) s1)

  finish_runs : (o k : ℕ) (after : After) (bs : List Back) (s : State) (bad : Error → State → Move) → Enough bound n s
      → Runs code bound n (finished_by looking o k after bs s) (λ u s1. Goes (letting k after bs s1)) bad (finish d o s)
  finish_runs o k after bs s bad good =
      either (is_last s.memory o) (works.go (length (objects_in_values (object_at s.memory o).fields)) k after bs (with_memory s (gone o s.memory)) bad good)
      (here {got = λ u s1. Goes (letting k after bs s1)} tt s good)

  told_runs : (b : Object) (o k : ℕ) (after : After) (bs : List Back) (s : State) (bad : Error → State → Move) → Enough bound n s
      → Runs code bound n (ends_by looking code b o k after bs s) (λ u s1. finished_by looking o k after bs s1) bad (tell pr d b o s)
  told_runs b o k after bs s bad good =
      either b.told (here {got = λ u s1. finished_by looking o k after bs s1} tt s good)
      (telling (Term b.class o ∷ [])
      (subst (λ t. Runs code bound n (terminates_by looking code (class_at t b.class).terminate o k after bs s) (λ u s1. finished_by looking o k after bs s1) bad (terminate_by pr d (class_at pr.declared b.class).terminate o s)) (sym laid.declared)
      (terminate_runs (class_at pr.declared b.class).terminate o k after bs s bad good)))

  end_runs : (o k : ℕ) (after : After) (bs : List Back) (s : State) (bad : Error → State → Move) → Enough bound n s
      → Runs code bound n (ends_by looking code (object_at s.memory o) o k after bs (with_memory s (as_told o s.memory))) (λ u s1. Goes (letting k after bs s1)) bad (end_of pr d o s)
  end_runs o k after bs s bad good =
      let t : State = with_memory s (as_told o s.memory) in
      bind (tell pr d (object_at s.memory o) o t) (told_runs (object_at s.memory o) o k after bs t bad good)
      (λ u s1 g1. finish_runs o k after bs s1 bad g1)

-- ---- one level

module _ (pr : Project) (code : Code) (entry : ℕ → Entry) (laid : Laid pr entry code) (bound n : ℕ) (d : Doing) (deep : (m : ℕ) → n ≡ suc m → Works code entry bound m d) where
  one_runs : (o k : ℕ) (after : After) (bs : List Back) (s : State) (bad : Error → State → Move) → Enough bound n s
      → Runs code bound n (lets_one_by looking code o k after bs s) (λ u s1. Goes (letting k after bs s1)) bad (one pr d o s)
  one_runs o k after bs s bad good =
      either (is_last s.memory o)
      (by_turn n (λ t. end_of pr d o t) s good (λ m e g. end_runs pr code entry laid bound m d (deep m e) o k after bs (turned s) bad g))
      (here {got = λ u s1. Goes (letting k after bs s1)} tt s good)

  lets_runs : Lets code bound n (let_go pr d)
  lets_runs zero j after bs s bad good =
      let e : j ≡ 0 + j = omega arith in
      subst (λ i. Runs code bound n (Goes (letting i after bs s)) (λ u s1. Goes (letting j after bs s1)) bad (Got tt s)) e
      (here {got = λ u s1. Goes (letting j after bs s1)} tt s good)
  lets_runs (suc k) j after bs s bad good =
      let e : suc (k + j) ≡ suc k + j = omega arith in
      let t : State = with_memory s (taken_off s.memory) in
      subst (λ i. Runs code bound n (Goes (letting i after bs s)) (λ u s1. Goes (letting j after bs s1)) bad (let_go pr d (suc k) s)) e
      (before (letting (suc (k + j)) after bs s)
      (bind (one pr d (next_waiting s.memory.waiting) t) (one_runs (next_waiting s.memory.waiting) (k + j) after bs t bad good)
      (λ u s1 g1. lets_runs k j after bs s1 bad g1)))

  statement_runs : (p i : ℕ) (o : Option Statement) (bs : List Back) (s : State) → HasStatement code.instrs (entry p) p i o → Enough bound n s
      → Runs code bound n (Goes (at (entry p i) [] bs s)) (returned_by looking code bs) (passed_on bs)
      (at_statement_or o (leave (let_go pr d) s) (λ l. turn s (λ s1. settle pr d p (exec l.action (callees pr d) pr p i l.next (with_memory s1 (at_statement s1.memory i))))))
  statement_runs p i None bs s has good =
      instr Leave (entry p i) [] bs s has
      (bind (lets_frame (let_go pr d) s) (all_go code bound n (let_go pr d) lets_runs (length (held_by (top s.memory))) Return bs (with_memory s (let_frame s.memory)) (passed_on bs) good)
      (λ u s1 g1. here {got = returned_by looking code bs} (result s1.memory) (with_memory s1 (frame_left s1.memory)) g1))
  statement_runs p i (Some l) bs s has good =
      instr (Begin i) (entry p i) [] bs s has.0
      (by_turn n (λ s1. settle pr d p (exec l.action (callees pr d) pr p i l.next (with_memory s1 (at_statement s1.memory i)))) s good (λ m e g.
      let s1 : State = with_memory (turned s) (at_statement s.memory i) in
      let body = up_to code.instrs (entry p i + 1) (action_code (entry p) p i l.next l.action) has.1 in
      settle_runs pr code entry laid bound m d (deep m e) p bs _ (exec l.action (callees pr d) pr p i l.next s1)
      (action_runs pr code entry laid bound m (callees pr d) (calls_of pr code entry laid bound m d (deep m e)) p l.action i l.next (entry p i + 1) body.0 bs s1 body.1 g)))

  pub level_works : Works code entry bound n (level pr d)
  level_works = record {
    run = λ p i bs s good. statement_runs p i (statement_at pr p i) bs s (laid.statement p i) good;
    go = lets_runs;
  }

-- ---- runs

ended : {A : Type 0} (code : Code) (bound k : ℕ) (r : Res A) → outs code bound (λ v s. Ends Ended s) (λ e s. Ends (Faulted e) s) k r ≡ fin_of (run_of bound r)
ended code bound k (Got v s) = refl
ended code bound k (Failed e s) = refl
ended code bound k (Over x s) = refl
ended code bound k (Told es r) = ap (tells es) (ended code bound k r)
ended code bound k (Turn s r) = by_turns (nat_lt s.begun bound) (ended code bound k r) where
  by_turns : {x : Fin} {y : Run} (b : Bool) → x ≡ fin_of y → (if b then x else Done Going s []) ≡ fin_of (if b then y else record { ending = Going; state = s; events = [] })
  by_turns true h = h
  by_turns false h = refl

module _ (pr : Project) (code : Code) (entry : ℕ → Entry) (laid : Laid pr entry code) (bound : ℕ) where
  pub works : (n : ℕ) → Works code entry bound n (doing pr n)
  works zero = level_works pr code entry laid bound 0 nowhere (λ m e. absurd cc)
  works (suc n) = level_works pr code entry laid bound (suc n) (doing pr n) (λ m e. let k : n ≡ m = omega arith in subst (λ i. Works code entry bound i (doing pr n)) k (works n))

  close_runs : (n : ℕ) (vs : List Val) (g : ℕ) (s : State) (bad : Error → State → Move) → Enough bound n s → Runs code bound n (closing vs g s) (λ u s1. Ends Ended s1) bad (close (doing pr n) vs g s)
  close_runs n [] g s bad good = here {got = λ u s1. Ends Ended s1} tt s good
  close_runs n (v ∷ vs) g s bad good =
      let t : State = with_memory s (closed g v s.memory) in
      let os : List ℕ = objects_in (slice_index_or s.memory.shared g empty) in
      bind ((doing pr n).go (length os) t)
      (all_go code bound n (doing pr n).go (works n).go (length os) (Close vs (g + 1)) [] t bad good)
      (λ u s1 g1. close_runs n vs (g + 1) s1 bad g1)

  last : {A : Type 0} (n : ℕ) (m : Move) (r : Res A) → Runs code bound n m (λ u s1. Ends Ended s1) (λ e s1. Ends (Faulted e) s1) r → (j : ℕ) × (follow bound m (machine code bound j) ≡ fin_of (run_of bound r))
  last n m r a = let p = a.by 0 in (p.0, p.1 ∙ ended code bound 0 r)

  -- the machine's run is the meaning, for every bound on turns
  pub simulates : (book : Sheets) → (j : ℕ) × (run_code code book bound j ≡ fin_of (meaning pr book bound))
  simulates book =
      let s : State = first_state pr book in
      let xs : List Slot = startup_slots pr.declared pr.startup in
      let m : Move = enters code false pr.startup empty xs [] s in
      let r : Res (Unit {0}) = enter pr (doing pr bound) false pr.startup empty xs s >>= λ v s1. close (doing pr bound) (first_values pr.declared pr.declared.shared) 0 s1 in
      let runs : Runs code bound bound m (λ u s1. Ends Ended s1) (λ e s1. Ends (Faulted e) s1) r =
      bind {mid = returned_by looking code []} (enter pr (doing pr bound) false pr.startup empty xs s)
      (stands_runs pr code entry laid bound bound (doing pr bound) (works bound) false pr.startup empty xs [] s (omega arith))
      (λ v s1 g1. subst (λ t. Runs code bound bound (closing (first_values t t.shared) 0 s1) (λ u s2. Ends Ended s2) (λ e s2. Ends (Faulted e) s2) (close (doing pr bound) (first_values pr.declared pr.declared.shared) 0 s1)) (sym laid.declared)
      (close_runs bound (first_values pr.declared pr.declared.shared) 0 s1 (λ e s2. Ends (Faulted e) s2) g1)) in
      let first : first_move code book ≡ m = first_is in
      let p = last bound m r runs in
      (p.0, ap (λ x. follow bound x (machine code bound p.0)) first ∙ p.1) where
        first_is : first_move code book ≡ enters code false pr.startup empty (startup_slots pr.declared pr.startup) [] (first_state pr book)
        first_is = ap (λ i. enters code false i empty (startup_slots code.declared i) [] (record { memory = opening code.declared book; begun = 0 })) laid.startup ∙ ap (λ d. enters code false pr.startup empty (startup_slots d pr.startup) [] (record { memory = opening d book; begun = 0 })) laid.declared
