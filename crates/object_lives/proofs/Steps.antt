-- Each step marks objects by what it tells, and keeps what is known of references.
use Rattle.std.proofs.Common.{◌≡◌, ℕ, zero, suc, ◌+◌, ◌<◌, Bool, true, false, List, [], ◌∷◌, ◌++◌, length, Option, Some, None, refl, sym, ap, ◌∙◌, subst, arith}
use Rattle.std.specs.Prelude.{◌==◌, nat_lt, slice_get, slice_index_or, slice_set, if◌then◌else◌}
use Rattle.std.proofs.lemmas.Bool.{eqb-true, eq-eqb}
use Rattle.std.proofs.lemmas.List.{get_or-set_other}
use Rattle.vba_values.specs.declared.object.ObjRef.TheVariants.{Heap}
use Rattle.vba_values.specs.Val.{Val, empty, object}
use Rattle.error_frames.specs.declared.frame.Taken.{Taken}
use Rattle.error_frames.specs.declared.frame.Taken.TheVariants as taken
use Rattle.error_frames.specs.Decision.{after_take}
use Rattle.bound_project.specs.Project.{class_at, first_values}
use Rattle.vba_meaning.specs.Paths.{Path}
use Rattle.vba_meaning.specs.Memory.{Error, Ended, Faulted, Slot, value, path, value_in, value_or_empty, Memory, Frame, Object, rest, top, frame_left, result, error_here, object_at, number_or}
use Rattle.vba_meaning.specs.References.{objects_in, objects_in_values, objects_in_slots, objects_kept, times, looks, is_last, hold, next_waiting, taken_off, as_told, gone, closed}
use Rattle.vba_meaning.specs.Effects.{Raised, Term, unlent, taken_by, with_taken, at_number}
use Rattle.bound_project.specs.Parameters.{parameters_of}
use Rattle.vba_meaning.specs.Meaning.{State, with_memory, turned, left}
use Rattle.pcode.specs.Instructions.{Instr, Push, Leave, KeepPath, Code, entry_of}
use Rattle.pcode.specs.Machine.{After, Goes-on, Decide, Return, Back-to, Pass, Close, Mode, At, Failing, Letting, Back, Caller, EndOf, Delivering, Within, Goes, Ends, Tells, Turns, failing, letting, looking, finished_by, terminates_by, ends_by, lets_one_by, step, Config, closing, returned_by, passed_on, takes, next_by, go_on_by}
use Rattle.object_counts.proofs.Indexed.{times-append}
use Rattle.object_counts.specs.Counting.{all_in, front}
use Rattle.object_counts.proofs.Stored.{object_in}
use Rattle.object_counts.proofs.Looks.{in_one, hold_grows}
use Rattle.object_counts.proofs.Blocks.{rest_ordered}
use Rattle.object_counts.proofs.Leaving.{left_looks, taken_looks, closed_grows, told_grows, gone_grows}
use Rattle.object_lives.proofs.Values.{none_in, in_back, Refers}
use Rattle.object_lives.proofs.Firmness.{flag, passed}
use Rattle.object_lives.proofs.Held.{World, FirmBy, Firm, under, Slots, slots_more}
use Rattle.object_lives.proofs.Marks.{unmarked, told_marked, ending_marked, gone_marked}
use Rattle.object_lives.proofs.Near.{Has, Present, AllThere, none_there, present_set, present_gone, calleds, roots_of, reach, block_reach, near_block, Stays, bare_rest, lent_rest, top_live, wider, near_ready, Ready, Later}
use Rattle.object_lives.proofs.Chains.{still_slots, still_tasks}
use Rattle.object_lives.proofs.Variables.{hold_later, unlent_later, errors_later, first_free}
use Rattle.object_lives.proofs.Items.{alone_there}
use Rattle.object_lives.proofs.Uses.{Bare, tasks_safe}
use Rattle.object_lives.proofs.Places.{result_in, kept_back, Spent, CallBy, Calls, Rest, alone, over_others, calls_top, Tight, Nearly, Over, over_ready, Here, Standing, Kept, near_here, pushed_firm}
use Rattle.object_lives.proofs.Moves.{Good, from, goes, ends, turning, tells_silent, tells_marked, either, lets_good, lets_all_good, on, lands, calling_none, enters_good, delivers_good, use_good, firm_value, inside, inside_below, act_good}

-- ---- memories that a step leads to

told_there : (bs : List (Option Object)) (o : ℕ) → (object_in bs o).told ≡ false → Present bs o
told_there [] zero e = absurd cc
told_there [] (suc o) e = absurd cc
told_there (None ∷ bs) zero e = absurd cc
told_there (Some b ∷ bs) zero e = tt
told_there (b ∷ bs) (suc o) e = told_there bs o e

told_ready : {asks : Bool} (o : ℕ) (m : Memory) → Ready asks m → Ready asks (as_told o m)
told_ready o m r = record {
  live = λ q lt. present_set m.objects o _ q (r.live q (omega (arith, (told_grows o m).more r.ordered q, lt)));
  ordered = r.ordered;
  bare = r.bare;
  lent = r.lent;
}

-- an object leaves to which no reference is left
gone_ready : {asks : Bool} (o : ℕ) (m : Memory) → looks m o ≡ 0 → Ready asks m → Ready asks (gone o m)
gone_ready o m z r = record {
  live = λ q lt. (let h : 0 < looks m q = omega (arith, (gone_grows o m).more r.ordered q, lt) in
      present_gone m.objects o q (λ e. absurd (let same : looks m q ≡ looks m o = ap (looks m) e in omega (arith, same, z, h))) (r.live q h));
  ordered = r.ordered;
  bare = r.bare;
  lent = r.lent;
}

taken_ready : {asks : Bool} (m : Memory) → Ready asks m → Ready asks (taken_off m)
taken_ready m r = record { live = λ q lt. r.live q (omega (arith, taken_looks q m, lt)); ordered = r.ordered; bare = r.bare; lent = r.lent }

left_ready : {asks : Bool} (m : Memory) → Ready asks m → Ready asks (frame_left m)
left_ready {asks = asks} m r = record { live = λ q lt. r.live q (omega (arith, left_looks q m, lt)); ordered = rest_ordered m.frames r.ordered; bare = bare_rest asks m.frames r.bare; lent = lent_rest asks m.frames r.lent }

-- a variable of a module takes a value that refers to nothing
closed_ready : {asks : Bool} (g : ℕ) (v : Val) (m : Memory) → objects_in v ≡ [] → Ready asks m → Ready asks (closed g v m)
closed_ready g v m e r = record {
  live = λ q lt. r.live q (omega (arith, (closed_grows g v m).more r.ordered q, nothing q (nat_lt g (length m.shared)), lt));
  ordered = r.ordered;
  bare = r.bare;
  lent = r.lent;
} where
  nothing : (q : ℕ) (b : Bool) → times q (if b then objects_in v else []) ≡ 0
  nothing q true = ap (times q) e
  nothing q false = refl

closed_tight : {asks : Bool} (g : ℕ) (v : Val) (m : Memory) → Ready asks m → Tight m → Tight (closed g v m)
closed_tight g v m r t = record { referred = λ q h. omega (arith, (closed_grows g v m).more r.ordered q, t.referred q h) }

result_there : {asks : Bool} (m : Memory) → Ready asks m → AllThere m.objects (objects_in (result m))
result_there m r o lt = r.live o (omega (arith, top_live o m, first_slot (top m).slots lt)) where
  first_slot : (xs : List Slot) → 0 < times o (objects_in (value_or_empty (value_in (slice_get xs 0)))) → 0 < times o (objects_in_slots xs)
  first_slot [] h = absurd (omega (arith, h))
  first_slot (value v ∷ xs) h = omega (arith, times-append o (objects_in v) (objects_in_slots xs), h)
  first_slot (path q ∷ xs) h = absurd (omega (arith, h))

first_nil : (xs ys : List ℕ) → xs ++ ys ≡ [] → (xs ≡ []) × (ys ≡ [])
first_nil [] ys e = (refl, e)
first_nil (x ∷ xs) ys e = absurd cc

-- ---- objects that have a reference

gone_present : (bs : List (Option Object)) (p q : ℕ) → Present (slice_set bs p None) q → Present bs q
gone_present [] zero q h = h
gone_present [] (suc p) q h = h
gone_present (c ∷ bs) zero zero h = absurd h
gone_present (c ∷ bs) zero (suc q) h = h
gone_present (c ∷ bs) (suc p) zero h = h
gone_present (c ∷ bs) (suc p) (suc q) h = gone_present bs p q h

gone_apart : (bs : List (Option Object)) (p q : ℕ) → Present (slice_set bs p None) q → q ≡ p → ⊥
gone_apart [] zero zero h e = h
gone_apart [] zero (suc q) h e = h
gone_apart [] (suc p) zero h e = h
gone_apart [] (suc p) (suc q) h e = h
gone_apart (c ∷ bs) zero zero h e = h
gone_apart (c ∷ bs) zero (suc q) h e = absurd cc
gone_apart (c ∷ bs) (suc p) zero h e = absurd cc
gone_apart (c ∷ bs) (suc p) (suc q) h e = gone_apart bs p q h (omega (arith, e))

other_present : (bs : List (Option Object)) (p q : ℕ) (x : Option Object) → (q ≡ p → ⊥) → Present (slice_set bs p x) q → Present bs q
other_present bs p q x apart h = subst (λ y. Has y) (get_or-set_other bs p q x None apart) h

apart_time : (o q : ℕ) → (q ≡ o → ⊥) → times q (o ∷ []) ≡ 0
apart_time o q apart = by_test (q == o) refl where
  by_test : (b : Bool) → (q == o) ≡ b → (if b then 1 else 0) + 0 ≡ 0
  by_test true e = absurd (apart (eqb-true q o e))
  by_test false e = refl

-- the waiting reference that is let go may have been the last one
taken_nearly : (m : Memory) → Tight m → Nearly (next_waiting m.waiting) (taken_off m)
taken_nearly m t = record { others = λ q h apart. omega (arith, taken_looks q m, by_list m.waiting q apart, t.referred q h) } where
  by_list : (os : List ℕ) (q : ℕ) → (q ≡ next_waiting os → ⊥) → times q (front os) ≡ 0
  by_list [] q apart = refl
  by_list (o ∷ os) q apart = apart_time o q apart

told_nearly : {asks : Bool} (o : ℕ) (m : Memory) → Ready asks m → Nearly o m → Nearly o (as_told o m)
told_nearly o m r n = record { others = λ q h apart. omega (arith, (told_grows o m).more r.ordered q, n.others q (other_present m.objects o q _ apart h) apart) }

gone_tight : {asks : Bool} (o : ℕ) (m : Memory) → Ready asks m → Nearly o m → Tight (gone o m)
gone_tight o m r n = record {
  referred = λ q h. omega (arith, (gone_grows o m).more r.ordered q, n.others q (gone_present m.objects o q h) (gone_apart m.objects o q h));
}

still_tight : (o : ℕ) (m : Memory) → is_last m o ≡ false → Nearly o m → Tight m
still_tight o m e n = record { referred = λ q h. by_test q h (q == o) refl } where
  some : (k : ℕ) → (k == 0) ≡ false → 0 < k
  some zero e = absurd cc
  some (suc k) e = omega arith

  by_test : (q : ℕ) → Present m.objects q → (b : Bool) → (q == o) ≡ b → 0 < looks m q
  by_test q h true f = subst (λ k. 0 < looks m k) (sym (eqb-true q o f)) (some (looks m o) e)
  by_test q h false f = n.others q h (λ same. absurd (let no : true ≡ false = sym (eq-eqb q o same) ∙ f in cc))

-- of what stood in a frame its result is handed on, or the object of a Class_Terminate was referred to once more
all_one : (o : ℕ) (f : Frame) → times o (all_in f) ≡ in_one o f
all_one o f =
    omega (arith, times-append o (objects_in_slots f.slots) (objects_kept f.keeps ++ (objects_in f.me ++ f.held)), times-append o (objects_kept f.keeps) (objects_in f.me ++ f.held), times-append o (objects_in f.me) f.held)

left_kept : (o : ℕ) (m : Memory) → Spent (top m) → looks (frame_left m) o + times o (kept_back (top m)) ≡ looks m o
left_kept o m sp = omega (arith, left_looks o m, all_one o (top m), sp.left o)

kept_called : (f : Frame) → f.called ≡ true → kept_back f ≡ objects_in (result_in f)
kept_called f e = ap (λ b. if b then objects_in (result_in f) else objects_in f.me) e

kept_me : (f : Frame) → f.called ≡ false → kept_back f ≡ objects_in f.me
kept_me f e = ap (λ b. if b then objects_in (result_in f) else objects_in f.me) e

-- the frame of a Class_Terminate goes
ended_nearly : (o : ℕ) (m : Memory) → Tight m → Spent (top m) → (top m).called ≡ false → (top m).me ≡ object (Heap (record { 0 = o })) → Nearly o (frame_left m)
ended_nearly o m t sp c e = record {
  others = λ q h apart. omega (arith, left_kept q m sp, ap (times q) (kept_me (top m) c), ap (λ v. times q (objects_in v)) e, apart_time o q apart, t.referred q h);
}

-- the macro's frame goes
macro_tight : (m : Memory) → Tight m → Spent (top m) → (top m).called ≡ false → objects_in (top m).me ≡ [] → Tight (frame_left m)
macro_tight m t sp c e = record { referred = λ q h. omega (arith, left_kept q m sp, ap (times q) (kept_me (top m) c), ap (times q) e, t.referred q h) }

-- a call hands its result on
handed_tight : {asks : Bool} (m : Memory) → Ready asks m → Tight m → Spent (top m) → (top m).called ≡ true → Tight (hold (result m) (frame_left m))
handed_tight m r t sp c =
    let g = hold_grows (result m) (frame_left m) in
    record { referred = λ q h. omega (arith, g.more (left_ready m r).ordered q, left_kept q m sp, ap (times q) (kept_called (top m) c), t.referred q h) }

-- what is held besides lets no object be lost
held_nearly : {asks : Bool} (o : ℕ) (v : Val) (m : Memory) → Ready asks m → Nearly o m → Nearly o (hold v m)
held_nearly o v m r n = let g = hold_grows v m in record { others = λ q h apart. omega (arith, g.more r.ordered q, n.others q h apart) }

held_tight : {asks : Bool} (v : Val) (m : Memory) → Ready asks m → Tight m → Tight (hold v m)
held_tight v m r t = let g = hold_grows v m in record { referred = λ q h. omega (arith, g.more r.ordered q, t.referred q h) }

module _ (Sure : World) (code : Code) (bare : Sure.sure → (p : ℕ) → Bare (parameters_of code.declared p)) where
  -- ---- letting go

  -- an object may have lost its last reference
  pub record Losing (o : ℕ) (after : After) (bs : List Back) (m : Memory) : Type 0 where
    pub ready : Ready Sure.asks m
    pub nearly : Nearly o m
    pub rest : Rest Sure after m.frames bs

  lost_over : {o : ℕ} {after : After} {bs : List Back} {m : Memory} → Losing o after bs m → Over Sure.asks m
  lost_over {o = o} h = record { ready = h.ready; lost = o; nearly = h.nearly }

  finished_good : (o k : ℕ) (after : After) (bs : List Back) (s : State) → (Sure.sure → Losing o after bs s.memory) → Good Sure s.memory (finished_by looking o k after bs s)
  finished_good o k after bs s h = by_test (is_last s.memory o) refl where
    by_test : (b : Bool) → is_last s.memory o ≡ b
        → Good Sure s.memory (if b then Goes (letting (length (objects_in_values (object_at s.memory o).fields) + k) after bs (with_memory s (gone o s.memory))) else Goes (letting k after bs s))
    by_test true e =
        goes Sure s.memory (letting _ after bs (with_memory s (gone o s.memory))) (gone_marked s.memory.objects o)
        (λ x. record { ready = gone_ready o s.memory (eqb-true (looks s.memory o) 0 e) (h x).ready; tight = gone_tight o s.memory (h x).ready (h x).nearly; standing = (h x).rest })
    by_test false e = goes Sure s.memory (letting k after bs s) (unmarked s.memory.objects) (λ x. record { ready = (h x).ready; tight = still_tight o s.memory e (h x).nearly; standing = (h x).rest })

  -- it is referred to by the frame of its Class_Terminate
  me_refers : (o : ℕ) (m : Memory) → Nearly o m → (q : ℕ) → Present m.objects q → 0 < looks m q + times q (o ∷ [])
  me_refers o m n q h = by_test (q == o) refl where
    by_test : (b : Bool) → (q == o) ≡ b → 0 < looks m q + ((if b then 1 else 0) + 0)
    by_test true e = omega arith
    by_test false e = omega (arith, n.others q h (λ same. absurd (let no : true ≡ false = sym (eq-eqb q o same) ∙ e in cc)))

  terminates_good : (t : Option ℕ) (o k : ℕ) (after : After) (bs : List Back) (s : State) → (Sure.sure → Losing o after bs s.memory) → Present s.memory.objects o → Good Sure s.memory (terminates_by looking code t o k after bs s)
  terminates_good None o k after bs s h p = finished_good o k after bs s h
  terminates_good (Some q) o k after bs s h p =
      let e : Error = error_here 28 s.memory in
      either Sure (nat_lt (length s.memory.frames) 2000)
      (enters_good Sure code bare false q (object (Heap (record { 0 = o }))) [] (EndOf o k after ∷ bs) s (λ x. under Sure.asks [] (length (calleds s.memory.frames))) (λ x. (h x).ready) (λ x. alone_there s.memory.objects o p) (λ x. none_there s.memory.objects) (λ x. tt) (λ x. refl) (λ x. (refl, none_in (roots_of s.memory.frames)))
      (λ x. me_refers o s.memory (h x).nearly) (λ x. (refl, refl, subst (λ fs. Rest Sure after fs bs) (sym (calling_none s.memory.frames)) (h x).rest)))
      (turning Sure s.memory s (unmarked s.memory.objects) (λ x. lost_over (h x))
      (tells_silent Sure s.memory (Raised e.number ∷ []) (record { no_end = λ f n. refl; none_made = λ f n. refl }) (ends Sure s.memory (Faulted e) (turned s) (unmarked s.memory.objects) (λ x. lost_over (h x)))))

  told_losing : (o : ℕ) (after : After) (bs : List Back) (m : Memory) → Losing o after bs m → Losing o after bs (as_told o m)
  told_losing o after bs m h = record { ready = told_ready o m h.ready; nearly = told_nearly o m h.ready h.nearly; rest = h.rest }

  one_good : (o k : ℕ) (after : After) (bs : List Back) (s : State) → (Sure.sure → Losing o after bs s.memory) → Good Sure s.memory (lets_one_by looking code o k after bs s)
  one_good o k after bs s h = by_test (is_last s.memory o) refl where
    b : Object
    b = object_at s.memory o

    t : State
    t = with_memory (turned s) (as_told o s.memory)

    by_mark : (told : Bool) → b.told ≡ told
        → Good Sure s.memory (if told then finished_by looking o k after bs t else Tells (Term b.class o ∷ []) (terminates_by looking code (class_at code.declared b.class).terminate o k after bs t))
    by_mark true e = from Sure (told_marked s.memory.objects o (record b { told = true }) refl) (finished_good o k after bs t (λ x. told_losing o after bs s.memory (h x)))
    by_mark false e =
        tells_marked Sure (Term b.class o ∷ []) (ending_marked s.memory.objects o (record b { told = true }) refl e)
        (terminates_good (class_at code.declared b.class).terminate o k after bs t (λ x. told_losing o after bs s.memory (h x)) (present_set s.memory.objects o _ o (told_there s.memory.objects o e)))

    by_test : (last : Bool) → is_last s.memory o ≡ last → Good Sure s.memory (if last then Turns s (ends_by looking code b o k after bs t) else Goes (letting k after bs s))
    by_test true e = turning Sure s.memory s (unmarked s.memory.objects) (λ x. lost_over (h x)) (by_mark b.told refl)
    by_test false e = goes Sure s.memory (letting k after bs s) (unmarked s.memory.objects) (λ x. record { ready = (h x).ready; tight = still_tight o s.memory e (h x).nearly; standing = (h x).rest })

  -- ---- frames that are left

  closing_good : (vs : List Val) (g : ℕ) (s : State) → (Sure.sure → Ready Sure.asks s.memory) → (Sure.sure → Tight s.memory) → (Sure.sure → s.memory.frames ≡ []) → (Sure.sure → objects_in_values vs ≡ []) → Good Sure s.memory (closing vs g s)
  closing_good [] g s r t n e = ends Sure s.memory Ended s (unmarked s.memory.objects) (λ x. over_ready (r x) (t x))
  closing_good (v ∷ vs) g s r t n e =
      goes Sure s.memory (letting (length (objects_in (slice_index_or s.memory.shared g empty))) (Close vs (g + 1)) [] (with_memory s (closed g v s.memory))) (unmarked s.memory.objects)
      (λ x. (let z = first_nil (objects_in v) (objects_in_values vs) (e x) in
      record { ready = closed_ready g v s.memory z.0 (r x); tight = closed_tight g v s.memory (r x) (t x); standing = (n x, refl, z.1) }))

  -- the caller's statement holds the result
  holding : (s : State) → (Sure.sure → Ready Sure.asks s.memory) → Later Sure (frame_left s.memory) [] (hold (result s.memory) (frame_left s.memory))
  holding s r = hold_later Sure (result s.memory) (frame_left s.memory) (λ x. result_there s.memory (r x))

  -- a frame that nothing is left in
  pub record Leaving (bs : List Back) (m : Memory) : Type 0 where
    pub ready : Ready Sure.asks m
    pub tight : Tight m
    pub spent : Spent (top m)
    pub calls : Calls Sure m.frames bs

  -- the frame below runs again, and has the operands that it had
  below_here : (fl : List Bool) (s : State) (st : List Slot) (bs : List Back) {c : List Back} → (Sure.sure → Leaving c s.memory) → (Sure.sure → (top s.memory).called ≡ true) → (Sure.sure → Slots (reach Sure.asks (frame_left s.memory)) st)
      → (Sure.sure → Firm (block_reach Sure.asks (frame_left s.memory)) fl st) → (Sure.sure → Calls Sure (rest s.memory.frames) bs) → Sure.sure → Here Sure fl (hold (result s.memory) (frame_left s.memory)) st bs
  below_here fl s st bs h e i f k x =
      let n = (holding s (λ y. (h y).ready)).near x in
      let m1 : Memory = frame_left s.memory in
      record {
        ready = near_ready n (left_ready s.memory (h x).ready);
        tight = handed_tight s.memory (h x).ready (h x).tight (h x).spent (e x);
        stack = slots_more (wider n) st (i x);
        firm = subst (λ r. Firm r fl st) (sym (near_block n)) (f x);
        calls = calls_top Sure m1 (record (top m1) { held = (top m1).held ++ objects_in (result s.memory) }) bs refl (λ f. refl) (k x);
      }

  returned_good : (bs : List Back) (s : State) → (Sure.sure → Leaving bs s.memory) → Good Sure s.memory (returned_by looking code bs (result s.memory) (with_memory s (frame_left s.memory)))
  returned_good [] s h =
      from Sure (unmarked s.memory.objects)
      (closing_good (first_values code.declared code.declared.shared) 0 (with_memory s (frame_left s.memory)) (λ x. left_ready s.memory (h x).ready)
      (λ x. (let a = alone Sure s.memory.frames (h x).calls in macro_tight s.memory (h x).tight (h x).spent a.0 a.1)) (λ x. (alone Sure s.memory.frames (h x).calls).2) (λ x. first_free code.declared code.declared.shared))
  returned_good (Caller ret st ∷ bs) s h =
      let n = holding s (λ x. (h x).ready) in
      let b : (x : Sure.sure) → CallBy Sure (top s.memory) (rest s.memory.frames) bs (Caller ret st) (Calls Sure (rest s.memory.frames) bs) = λ x. over_others Sure s.memory.frames (Caller ret st) bs (h x).calls in
      from Sure n.marks
      (on Sure ret (λ x. inside_below (b x).1.0) (value (result s.memory) ∷ st) bs (with_memory s (hold (result s.memory) (frame_left s.memory)))
      (λ x. pushed_firm (flag (Sure.firm ret)) (in_back (top (frame_left s.memory)).held (objects_in (result s.memory))) (firm_value (flag (Sure.firm ret)) _ (result s.memory)) (below_here (rest (Sure.firm ret)) s st bs h (λ y. (b y).0) (λ y. (b y).1.1) (λ y. (b y).1.2) (λ y. (b y).2) x)))
  returned_good (EndOf o k after ∷ bs) s h =
      from Sure (unmarked s.memory.objects)
      (finished_good o k after bs (with_memory s (frame_left s.memory)) (λ x. (let b = over_others Sure s.memory.frames (EndOf o k after) bs (h x).calls in
      record { ready = left_ready s.memory (h x).ready; nearly = ended_nearly o s.memory (h x).tight (h x).spent b.0 b.1; rest = b.2 })))
  returned_good (Within t k ts pc st ∷ bs) s h =
      let v : Val = result s.memory in
      let n = holding s (λ x. (h x).ready) in
      let s1 : State = with_memory s (hold v (frame_left s.memory)) in
      let b : (x : Sure.sure) → CallBy Sure (top s.memory) (rest s.memory.frames) bs (Within t k ts pc st) (Calls Sure (rest s.memory.frames) bs) = λ x. over_others Sure s.memory.frames (Within t k ts pc st) bs (h x).calls in
      let h1 : Sure.sure → Here Sure (rest (Sure.firm pc)) s1.memory st bs = below_here (rest (Sure.firm pc)) s st bs h (λ y. (b y).0) (λ y. (b y).1.2) (λ y. (b y).1.3) (λ y. (b y).2) in
      from Sure n.marks
      (use_good Sure code bare t k pc (λ x. inside_below (b x).1.0) st bs s1 h1
      (tasks_safe Sure code.declared bare ts v s1.memory (λ x. (h1 x).ready) (still_tasks n.near ts (λ x. (b x).1.1)) (λ x. in_back (top (frame_left s.memory)).held (objects_in v))))
  returned_good (Delivering e xs ls ret st ∷ bs) s h =
      let v : Val = result s.memory in
      let n = holding s (λ x. (h x).ready) in
      let s1 : State = with_memory s (hold v (frame_left s.memory)) in
      let b : (x : Sure.sure) → CallBy Sure (top s.memory) (rest s.memory.frames) bs (Delivering e xs ls ret st) (Calls Sure (rest s.memory.frames) bs) = λ x. over_others Sure s.memory.frames (Delivering e xs ls ret st) bs (h x).calls in
      from Sure n.marks
      (delivers_good Sure code bare e xs ls ret (λ x. inside (b x).1.0) st bs s1 (below_here (Sure.firm ret) s st bs h (λ y. (b y).0) (λ y. (b y).1.2) (λ y. (b y).1.3) (λ y. (b y).2)) (still_slots n.near xs (λ x. (b x).1.1)))

  -- an error has left the frame
  passed_good : (bs : List Back) (e : Error) (s : State) → (Sure.sure → Leaving bs s.memory) → Good Sure s.memory (passed_on bs e (with_memory s (left s.memory)))
  passed_good bs e s h = from Sure n.marks (by_back bs h) where
    n : Later Sure (frame_left s.memory) [] (left s.memory)
    n = holding s (λ x. (h x).ready)

    s1 : State
    s1 = with_memory s (left s.memory)

    goes_up : (cs : List Back) {c : List Back} → (Sure.sure → Leaving c s.memory) → (Sure.sure → (top s.memory).called ≡ true) → (Sure.sure → Calls Sure (rest s.memory.frames) cs) → Good Sure s1.memory (Goes (failing e cs s1))
    goes_up cs k t i =
        let h1 : Sure.sure → Here Sure [] s1.memory [] cs = below_here [] s [] cs k t (λ x. tt) (λ x. tt) i in
        goes Sure s1.memory (failing e cs s1) (unmarked s1.memory.objects) (λ x. record { ready = (h1 x).ready; tight = (h1 x).tight; standing = (h1 x).calls })

    over : (Sure.sure → Over Sure.asks s1.memory) → Good Sure s1.memory (Ends (Faulted e) s1)
    over k = ends Sure s1.memory (Faulted e) s1 (unmarked s1.memory.objects) k

    by_back : (cs : List Back) → (Sure.sure → Leaving cs s.memory) → Good Sure s1.memory (passed_on cs e s1)
    by_back [] k = over (λ x. (let a = alone Sure s.memory.frames (k x).calls in
        over_ready (near_ready (n.near x) (left_ready s.memory (k x).ready)) (held_tight (result s.memory) (frame_left s.memory) (left_ready s.memory (k x).ready) (macro_tight s.memory (k x).tight (k x).spent a.0 a.1))))
    by_back (EndOf o j after ∷ cs) k = over (λ x. (let b = over_others Sure s.memory.frames (EndOf o j after) cs (k x).calls in record {
      ready = near_ready (n.near x) (left_ready s.memory (k x).ready);
      lost = o;
      nearly = held_nearly o (result s.memory) (frame_left s.memory) (left_ready s.memory (k x).ready) (ended_nearly o s.memory (k x).tight (k x).spent b.0 b.1);
    }))
    by_back (Caller ret st ∷ cs) k = goes_up cs k (λ x. (over_others Sure s.memory.frames (Caller ret st) cs (k x).calls).0) (λ x. (over_others Sure s.memory.frames (Caller ret st) cs (k x).calls).2)
    by_back (Within b j ts pc st ∷ cs) k = goes_up cs k (λ x. (over_others Sure s.memory.frames (Within b j ts pc st) cs (k x).calls).0) (λ x. (over_others Sure s.memory.frames (Within b j ts pc st) cs (k x).calls).2)
    by_back (Delivering event xs ls ret st ∷ cs) k =
        goes_up cs k (λ x. (over_others Sure s.memory.frames (Delivering event xs ls ret st) cs (k x).calls).0) (λ x. (over_others Sure s.memory.frames (Delivering event xs ls ret st) cs (k x).calls).2)

  -- the frame takes the error, or is left
  taken_later : (e : Error) (t : Taken) (m : Memory) → Later Sure m [] (with_taken e t m)
  taken_later e t m = errors_later Sure e (after_take (top m).errors (at_number (number_or (top m).statement)) t) m

  takes_good : (e : Error) (t : Taken) (bs : List Back) (s : State) → (Sure.sure → Here Sure [] s.memory [] bs) → (Sure.sure → (top s.memory).pending ≡ []) → Good Sure s.memory (takes code e t bs s)
  takes_good e (taken.Next to) bs s h k =
      let n = taken_later e (taken.Next to) s.memory in
      from Sure n.marks (lands Sure (entry_of code (top s.memory).procedure to.0) bs (with_memory s (with_taken e (taken.Next to) s.memory)) (λ x. near_here (n.near x) (h x)) k)
  takes_good e (taken.Handler to) bs s h k =
      let n = taken_later e (taken.Handler to) s.memory in
      from Sure n.marks (lands Sure (entry_of code (top s.memory).procedure to.0) bs (with_memory s (with_taken e (taken.Handler to) s.memory)) (λ x. near_here (n.near x) (h x)) k)
  takes_good e taken.PassOn bs s h k = lets_all_good Sure (Pass e) [] bs s h k (λ m c l. (c, l, tt))

  -- ---- steps

  module _ (plain : Sure.sure → (pc : ℕ) (v : Val) → slice_get code.instrs pc ≡ Some (Push v) → Refers [] v) (leaves : Sure.sure → (pc : ℕ) → slice_get code.instrs pc ≡ Some Leave → pc ≡ 0)
      (typed : Sure.sure → (pc : ℕ) (i : Instr) → slice_get code.instrs pc ≡ Some i → Sure.firm (pc + 1) ≡ passed i (Sure.firm pc))
      (keeps : Sure.sure → (pc i : ℕ) → slice_get code.instrs pc ≡ Some (KeepPath i) → (m : Memory) (q : Path) → FirmBy (flag (Sure.firm pc)) (block_reach Sure.asks m) (path q) → Stays Sure.asks m q) where
    standing_here : {fl : List Bool} {m : Memory} (st : List Slot) (bs : List Back) → Ready Sure.asks m → Tight m → Slots (reach Sure.asks m) st → Firm (block_reach Sure.asks m) fl st → Calls Sure m.frames bs → Here Sure fl m st bs
    standing_here st bs r t i f c = record { ready = r; tight = t; stack = i; firm = f; calls = c }

    step_good_by : (mode : Mode) (st : List Slot) (bs : List Back) (s : State) → (Sure.sure → Ready Sure.asks s.memory) → (Sure.sure → Tight s.memory) → (Sure.sure → Standing Sure mode s.memory.frames st bs) → Good Sure s.memory (go_on_by looking code mode st bs s)
    step_good_by (At pc) st bs s r t a =
        act_good Sure code bare plain leaves typed keeps (slice_get code.instrs pc) pc st bs s refl (λ x. standing_here st bs (r x) (t x) (a x).0 (a x).3 (a x).1) (λ x e. (a x).2 e)
    step_good_by (Failing e) st bs s r t a =
        let n = unlent_later Sure s.memory in
        from Sure n.marks (lets_good Sure (Decide e) [] bs (with_memory s (unlent s.memory)) (λ x. near_here (n.near x) (standing_here {fl = []} [] bs (r x) (t x) tt tt (a x))) (λ x. refl) (λ m e c. (c, e)))
    step_good_by (Letting (suc k) after) st bs s r t a =
        from Sure (unmarked s.memory.objects)
        (one_good (next_waiting s.memory.waiting) k after bs (with_memory s (taken_off s.memory)) (λ x. record { ready = taken_ready s.memory (r x); nearly = taken_nearly s.memory (t x); rest = a x }))
    step_good_by (Letting zero (Goes-on pc)) st bs s r t a = lands Sure pc bs s (λ x. standing_here {fl = []} [] bs (r x) (t x) tt tt (a x).0) (λ x. (a x).1)
    step_good_by (Letting zero (Decide e)) st bs s r t a = takes_good e (taken_by (next_by code s.memory) s.memory) bs s (λ x. standing_here {fl = []} [] bs (r x) (t x) tt tt (a x).0) (λ x. (a x).1)
    step_good_by (Letting zero (Back-to pc kept)) st bs s r t a = on Sure pc (λ x. inside (a x).2.0) kept bs s (λ x. standing_here kept bs (r x) (t x) (a x).2.1 (a x).2.2 (a x).0)
    step_good_by (Letting zero Return) st bs s r t a = returned_good bs s (λ x. record { ready = r x; tight = t x; spent = (a x).1; calls = (a x).0 })
    step_good_by (Letting zero (Pass e)) st bs s r t a = passed_good bs e s (λ x. record { ready = r x; tight = t x; spent = (a x).1; calls = (a x).0 })
    step_good_by (Letting zero (Close vs g)) st bs s r t a = closing_good vs g s r t (λ x. (a x).0) (λ x. (a x).2)

    pub step_good : (c : Config) → (Sure.sure → Kept Sure c) → Good Sure c.state.memory (step code c)
    step_good c h = step_good_by c.mode c.stack c.backs c.state (λ x. (h x).ready) (λ x. (h x).tight) (λ x. (h x).standing)
