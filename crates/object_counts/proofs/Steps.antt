-- What a whole step gives up and raises, and that the stored counts answer its test as looking does.
use Rattle.std.proofs.Common.{◌≡◌, ℕ, zero, suc, ◌+◌, Bool, true, false, List, [], ◌∷◌, length, Option, Some, None, refl, sym, ap, ◌∙◌, arith}
use Rattle.std.specs.Prelude.{nat_lt, ◌==◌, slice_get, slice_index_or, if◌then◌else◌}
use Rattle.vba_values.specs.declared.object.ObjRef.TheVariants.{Heap}
use Rattle.vba_values.specs.Val.{Val, empty, object}
use Rattle.error_frames.specs.declared.frame.Taken.{Taken}
use Rattle.error_frames.specs.declared.frame.Taken.TheVariants as taken
use Rattle.bound_project.specs.Project.{class_at, first_values}
use Rattle.vba_meaning.specs.Memory.{Error, Ended, Faulted, Slot, value, Memory, Object, top, frame_left, result, error_here, object_at, number_or}
use Rattle.vba_meaning.specs.References.{objects_in, objects_in_values, times, looks, hold, next_waiting, taken_off, as_told, gone, closed}
use Rattle.vba_meaning.specs.Effects.{Raised, Term, unlent, taken_by, with_taken, at_number}
use Rattle.vba_meaning.specs.Meaning.{State, with_memory, turned, left}
use Rattle.error_frames.specs.Decision.{after_take}
use Rattle.pcode.specs.Instructions.{Code, entry_of}
use Rattle.pcode.specs.Machine.{After, Goes-on, Decide, Return, Back-to, Pass, Close, Mode, At, Failing, Letting, Back, Caller, EndOf, Delivering, Within, Move, Goes, Ends, Tells, Turns, at, failing, letting, raises_then, Choices, looking, finished_by, terminates_by, ends_by, lets_one_by, closing, returned_by, passed_on, takes, next_by, go_on_by}
use Rattle.object_counts.specs.Counts.{count_of}
use Rattle.object_counts.specs.Counting.{by_counts, lost, terminate_gains, let_one_gains, closing_gains, return_gains, gained}
use Rattle.object_counts.specs.Balance.{FramesInOrder}
use Rattle.object_counts.proofs.Looks.{Grows, same, hold_grows}
use Rattle.object_counts.proofs.Blocks.{rest_ordered}
use Rattle.object_counts.proofs.Leaving.{left_looks, taken_looks, closed_grows, told_grows, gone_grows}
use Rattle.object_counts.proofs.Chains.{nil_with}
use Rattle.object_counts.proofs.Variables.{unlent_grows, top_err_grows}
use Rattle.object_counts.proofs.Uses.{tasks_law}
use Rattle.object_counts.proofs.Moves.{Adds, goes, ends, telling, turning, from, either, both, lets_adds, lets_all_adds, enter_by_adds, delivers_adds, moved_adds, use_adds, act_adds}

-- the memory once a step has given up what it gives up
abbrev pub rest_of : Mode → Memory → Memory
rest_of (Letting (suc k) after) m = taken_off m
rest_of (Letting zero Return) m = frame_left m
rest_of (Letting zero (Pass e)) m = frame_left m
rest_of mode m = m

pub rest_looks : (mode : Mode) (m : Memory) (o : ℕ) → looks (rest_of mode m) o + times o (lost mode m) ≡ looks m o
rest_looks (Letting (suc k) after) m o = taken_looks o m
rest_looks (Letting zero Return) m o = left_looks o m
rest_looks (Letting zero (Pass e)) m o = left_looks o m
rest_looks mode m o = omega arith

pub rest_in_order : (mode : Mode) (m : Memory) → FramesInOrder m.frames → FramesInOrder (rest_of mode m).frames
rest_in_order (Letting (suc k) after) m h = h
rest_in_order (Letting zero Return) m h = rest_ordered m.frames h
rest_in_order (Letting zero (Pass e)) m h = rest_ordered m.frames h
rest_in_order mode m h = h

module _ (bound : ℕ) (code : Code) (by : Choices) where
  -- ---- letting go

  finished_adds : {m : Memory} {gs : List ℕ} (o k : ℕ) (after : After) (bs : List Back) (s : State) → Grows m gs s.memory → Adds bound m gs (finished_by by o k after bs s)
  finished_adds o k after bs s h =
      both bound (by.is_last s.memory o)
      (goes bound (letting (length (objects_in_values (object_at s.memory o).fields) + k) after bs (with_memory s (gone o s.memory))) (nil_with h (gone_grows o s.memory)))
      (goes bound (letting k after bs s) h)

  terminates_adds : (t : Option ℕ) (o k : ℕ) (after : After) (bs : List Back) (s : State) → Adds bound s.memory (terminate_gains code t o s.memory.frames) (terminates_by by code t o k after bs s)
  terminates_adds None o k after bs s = finished_adds o k after bs s (same s.memory)
  terminates_adds (Some p) o k after bs s =
      let e : Error = error_here 28 s.memory in
      enter_by_adds bound code false p (object (Heap (record { 0 = o }))) [] (EndOf o k after ∷ bs) s (raises_then e s (λ s1. Ends (Faulted e) s1))
      (turning bound s (same s.memory) (telling bound (Raised e.number ∷ []) (ends bound (Faulted e) _ (same s.memory))))

  -- where a turn is left what comes behind it counts, and else nothing
  if_turn : {m : Memory} {gs : List ℕ} {v : Move} (s : State) → Grows m [] s.memory → Adds bound m gs v → Adds bound m (if nat_lt s.begun bound then gs else []) (Turns s v)
  if_turn {m = m} {gs = gs} {v = v} s h a = by_test (nat_lt s.begun bound) refl where
    by_test : (b : Bool) → nat_lt s.begun bound ≡ b → Adds bound m (if b then gs else []) (Turns s v)
    by_test true e = record { law = (λ f. absurd (let x : true ≡ false = sym e ∙ f in cc), λ t. a.law) }
    by_test false e = record { law = (λ f. h, λ t. absurd (let x : true ≡ false = sym t ∙ e in cc)) }

  one_adds : (o k : ℕ) (after : After) (bs : List Back) (s : State) → Adds bound s.memory (let_one_gains by code bound o s) (lets_one_by by code o k after bs s)
  one_adds o k after bs s =
      let b : Object = object_at s.memory o in
      let t : State = with_memory (turned s) (as_told o s.memory) in
      either bound (by.is_last s.memory o)
      (if_turn s (same s.memory)
      (either bound b.told (finished_adds o k after bs t (told_grows o s.memory))
      (telling bound (Term b.class o ∷ []) (from bound (told_grows o s.memory) (terminates_adds (class_at code.declared b.class).terminate o k after bs t)))))
      (goes bound (letting k after bs s) (same s.memory))

  -- ---- frames that are left

  closing_adds : (vs : List Val) (g : ℕ) (s : State) → Adds bound s.memory (closing_gains vs g s.memory.shared) (closing vs g s)
  closing_adds [] g s = ends bound Ended s (same s.memory)
  closing_adds (v ∷ vs) g s =
      goes bound (letting (length (objects_in (slice_index_or s.memory.shared g empty))) (Close vs (g + 1)) [] (with_memory s (closed g v s.memory))) (closed_grows g v s.memory)

  returned_adds : (bs : List Back) (s : State) → Adds bound (frame_left s.memory) (return_gains code bs s.memory) (returned_by by code bs (result s.memory) (with_memory s (frame_left s.memory)))
  returned_adds [] s = closing_adds (first_values code.declared code.declared.shared) 0 (with_memory s (frame_left s.memory))
  returned_adds (Caller ret st ∷ bs) s =
      goes bound (at ret (value (result s.memory) ∷ st) bs (with_memory s (hold (result s.memory) (frame_left s.memory)))) (hold_grows (result s.memory) (frame_left s.memory))
  returned_adds (Delivering e xs ls ret st ∷ bs) s =
      moved_adds bound (hold_grows (result s.memory) (frame_left s.memory)) (delivers_adds bound code e xs ls ret st bs (with_memory s (hold (result s.memory) (frame_left s.memory))))
  returned_adds (EndOf o k after ∷ bs) s = finished_adds o k after bs (with_memory s (frame_left s.memory)) (same (frame_left s.memory))
  returned_adds (Within b k ts pc st ∷ bs) s =
      let v : Val = result s.memory in
      let s1 : State = with_memory s (hold v (frame_left s.memory)) in
      moved_adds bound (hold_grows v (frame_left s.memory)) (use_adds bound code b k pc st bs s1 (tasks_law code.declared ts v s1.memory))

  passed_adds : {m : Memory} {gs : List ℕ} (bs : List Back) (e : Error) (s : State) → Grows m gs s.memory → Adds bound m gs (passed_on bs e s)
  passed_adds [] e s h = ends bound (Faulted e) s h
  passed_adds (Caller ret st ∷ bs) e s h = goes bound (failing e bs s) h
  passed_adds (EndOf o k after ∷ bs) e s h = ends bound (Faulted e) s h
  passed_adds (Within b k ts pc st ∷ bs) e s h = goes bound (failing e bs s) h
  passed_adds (Delivering event xs ls ret st ∷ bs) e s h = goes bound (failing e bs s) h

  taken_grows : (e : Error) (t : Taken) (m : Memory) → Grows m [] (with_taken e t m)
  taken_grows e t m = top_err_grows e m (record (top m) { errors = after_take (top m).errors (at_number (number_or (top m).statement)) t }) (λ h. h) (λ o. refl)

  takes_adds : (e : Error) (t : Taken) (bs : List Back) (s : State) → Adds bound s.memory [] (takes code e t bs s)
  takes_adds e (taken.Next to) bs s = goes bound (at (entry_of code (top s.memory).procedure to.0) [] bs _) (taken_grows e (taken.Next to) s.memory)
  takes_adds e (taken.Handler to) bs s = goes bound (at (entry_of code (top s.memory).procedure to.0) [] bs _) (taken_grows e (taken.Handler to) s.memory)
  takes_adds e taken.PassOn bs s = lets_all_adds bound (Pass e) bs s (same s.memory)

  -- ---- steps

  pub step_adds : (mode : Mode) (st : List Slot) (bs : List Back) (s : State) → Adds bound (rest_of mode s.memory) (gained by code bound mode st bs s) (go_on_by by code mode st bs s)
  step_adds (At pc) st bs s = act_adds bound code by (slice_get code.instrs pc) pc st bs s
  step_adds (Failing e) st bs s = lets_adds bound (Decide e) bs (with_memory s (unlent s.memory)) (unlent_grows s.memory)
  step_adds (Letting (suc k) after) st bs s = one_adds (next_waiting s.memory.waiting) k after bs (with_memory s (taken_off s.memory))
  step_adds (Letting zero (Goes-on pc)) st bs s = goes bound (at pc [] bs s) (same s.memory)
  step_adds (Letting zero (Decide e)) st bs s = takes_adds e (taken_by (next_by code s.memory) s.memory) bs s
  step_adds (Letting zero (Back-to pc kept)) st bs s = goes bound (at pc kept bs s) (same s.memory)
  step_adds (Letting zero Return) st bs s = returned_adds bs s
  step_adds (Letting zero (Pass e)) st bs s = passed_adds bs e (with_memory s (left s.memory)) (hold_grows (result s.memory) (frame_left s.memory))
  step_adds (Letting zero (Close vs g)) st bs s = closing_adds vs g s

-- ---- the tests agree

-- that its object is told changes no count
told_count : {n : ℕ} (o : ℕ) (m : Memory) → FramesInOrder m.frames → n ≡ looks m o → n ≡ looks (as_told o m) o
told_count o m order h = omega (arith, h, (told_grows o m).more order o)

module _ (code : Code) (counts : List ℕ) where
  finished_same : (o k : ℕ) (after : After) (bs : List Back) (s : State) → count_of counts o ≡ looks s.memory o → finished_by (by_counts counts) o k after bs s ≡ finished_by looking o k after bs s
  finished_same o k after bs s h =
      ap (λ n. if n == 0 then Goes (letting (length (objects_in_values (object_at s.memory o).fields) + k) after bs (with_memory s (gone o s.memory))) else Goes (letting k after bs s)) h

  terminates_same : (t : Option ℕ) (o k : ℕ) (after : After) (bs : List Back) (s : State) → count_of counts o ≡ looks s.memory o
      → terminates_by (by_counts counts) code t o k after bs s ≡ terminates_by looking code t o k after bs s
  terminates_same None o k after bs s h = finished_same o k after bs s h
  terminates_same (Some p) o k after bs s h = refl

  ends_same : (b : Object) (o k : ℕ) (after : After) (bs : List Back) (s : State) → count_of counts o ≡ looks s.memory o → ends_by (by_counts counts) code b o k after bs s ≡ ends_by looking code b o k after bs s
  ends_same b o k after bs s h =
      let t = (class_at code.declared b.class).terminate in
      ap (λ v. if b.told then v else Tells (Term b.class o ∷ []) (terminates_by (by_counts counts) code t o k after bs s)) (finished_same o k after bs s h)
      ∙ ap (λ v. if b.told then finished_by looking o k after bs s else Tells (Term b.class o ∷ []) v) (terminates_same t o k after bs s h)

  one_same : (o k : ℕ) (after : After) (bs : List Back) (s : State) → FramesInOrder s.memory.frames → count_of counts o ≡ looks s.memory o
      → lets_one_by (by_counts counts) code o k after bs s ≡ lets_one_by looking code o k after bs s
  one_same o k after bs s order h =
      let b : Object = object_at s.memory o in
      let t : State = with_memory (turned s) (as_told o s.memory) in
      ap (λ n. if n == 0 then Turns s (ends_by (by_counts counts) code b o k after bs t) else Goes (letting k after bs s)) h
      ∙ ap (λ v. if looks s.memory o == 0 then Turns s v else Goes (letting k after bs s)) (ends_same b o k after bs t (told_count o s.memory order h))

  returned_same : (bs : List Back) (v : Val) (s : State) → ((o : ℕ) → count_of counts o ≡ looks s.memory o) → returned_by (by_counts counts) code bs v s ≡ returned_by looking code bs v s
  returned_same [] v s h = refl
  returned_same (Caller ret st ∷ bs) v s h = refl
  returned_same (EndOf o k after ∷ bs) v s h = finished_same o k after bs s (h o)
  returned_same (Within b k ts pc st ∷ bs) v s h = refl
  returned_same (Delivering e xs ls ret st ∷ bs) v s h = refl

  pub step_same : (mode : Mode) (st : List Slot) (bs : List Back) (s : State) → FramesInOrder s.memory.frames → ((o : ℕ) → count_of counts o ≡ looks (rest_of mode s.memory) o)
      → go_on_by (by_counts counts) code mode st bs s ≡ go_on_by looking code mode st bs s
  step_same (At pc) st bs s order h = refl
  step_same (Failing e) st bs s order h = refl
  step_same (Letting (suc k) after) st bs s order h = one_same (next_waiting s.memory.waiting) k after bs (with_memory s (taken_off s.memory)) order (h (next_waiting s.memory.waiting))
  step_same (Letting zero (Goes-on pc)) st bs s order h = refl
  step_same (Letting zero (Decide e)) st bs s order h = refl
  step_same (Letting zero (Back-to pc kept)) st bs s order h = refl
  step_same (Letting zero Return) st bs s order h = returned_same bs (result s.memory) (with_memory s (frame_left s.memory)) h
  step_same (Letting zero (Pass e)) st bs s order h = refl
  step_same (Letting zero (Close vs g)) st bs s order h = refl
