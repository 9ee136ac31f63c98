-- What a move raises, and what each instruction does.
use Rattle.std.proofs.Common.{◌≡◌, ℕ, zero, suc, ◌+◌, Bool, true, false, List, [], ◌∷◌, ◌++◌, length, map, Option, Some, None, refl}
use Rattle.std.specs.Prelude.{nat_lt, slice_index, if◌then◌else◌}
use Rattle.vba_values.specs.Val.{Val, empty, boolean, object}
use Rattle.vba_values.specs.declared.object.ObjRef.TheVariants.{Heap, Host}
use Rattle.error_frames.specs.declared.frame.ResumeKind.TheVariants as kind
use Rattle.vba_events.specs.declared.linked.Linked.{Linked}
use Rattle.sheet_host.specs.declared.area.Area.{Area}
use Rattle.bound_project.specs.Project.{class_at}
use Rattle.vba_meaning.specs.Paths.{Path, field_path}
use Rattle.vba_meaning.specs.Memory.{Error, Ending, Ended, Stopped, Slot, value, path, Memory, top, at_statement, path_of, paths_in_slots, without_paths, received, entered, error_here}
use Rattle.vba_meaning.specs.References.{let_held, held_by, let_frame}
use Rattle.vba_meaning.specs.Effects.{Event, Raised, Effect, Fine, Bad-at, Out, Tell, unlent, slot_values, packed, reordered, raised_by, err_of, failed_statement}
use Rattle.vba_meaning.specs.Events.{source_of, sinks, due, lent_again, raise_over, change, sheet_of, target_of, no_change}
use Rattle.vba_meaning.specs.Objects.{initialize_of, made_at}
use Rattle.vba_meaning.specs.Host.{is_counted, is_raise, path_to}
use Rattle.vba_meaning.specs.ByName.{in_parameter_order}
use Rattle.vba_meaning.specs.Defaults.{Next, gives, then_call, is_instance, has_array, most_passed, most_calls}
use Rattle.vba_meaning.specs.LateBound.{lends_place, host_arguments}
use Rattle.vba_meaning.specs.Meaning.{State, with_memory, turned}
use Rattle.pcode.specs.Instructions.{Instr, Begin, Push, LoadErr, PathOf, ReadThrough, ElementOf, ElementIn, FieldOf, Dot, Index, PartOf, Operate, OperateAlone, Plain, PlainIfAny, Enumerate, PushHost, FirstSheet, MemberThere, MemberOf, NamedThere, NamedOf, PushThis, New, ObjectThere, FieldIn, AsNew, MakeThere, StoreMade, FindLate, BindValue, BindPlace, CallLate, LetLate, SetLate, ItemAlong, WriteThrough, LetElement, SetElement, ElementAlong, LateField, PlaceOf, Same, IsType, Library, BoundAt, Fit, FitObject, Drop, Lend, Pack, Reorder, Lift, Call, CallOf, Store, SetAt, StoreDefault, StoreMember, StoreItem, SetMember, RaiseEvent, ShowText, Show, Throw, LoopOff, LoopOn, NextRound, EachOff, EachOn, NextItem, Keep, Selected, IfFits, IfBetween, Redim, EraseAt, KeepPath, DropKept, PutReturn, TakeReturn, SetPolicy, HandlerOff, ErrOff, Again, Behind, Resumes, Finish, Branch, Halt, StopHere, Leave, Code, next_statement, entry_of}
use Rattle.pcode.specs.Machine.{After, Goes-on, Return, Back-to, Back, Caller, Delivering, Within, Config, Move, Goes, Ends, Sticks, Tells, Turns, at, failing, letting, lets, lets_all, finishes, raised, done_then, then_at, then_push, then_push_path, then_let_go, then_test, then_jump, then_branch, pops, pops_path, take_args, pushed, calls_handler, delivers, tells_change, uses_member, enters, enter_by, calls, initializes, then_statement, then_changes, left_as, follows, base_below, Choices, act}
use Rattle.object_counts.specs.Gains.{gains_behind, entered_gains}
use Rattle.object_counts.specs.Counting.{for_value, for_path, for_args, call_gains, initialize_gains, handler_gains, delivery_gains, change_gains, changed_gains, uses_member_gains, next_gains, use_gains, act_gains}
use Rattle.object_counts.proofs.Looks.{Grows, same, top_same}
use Rattle.object_counts.proofs.Leaving.{entered_grows, held_waits, frame_waits}
use Rattle.object_counts.proofs.Chains.{Raises, Law, with_nil, nil_with}
use Rattle.object_counts.proofs.Looks.{grown}
use Rattle.object_counts.proofs.Variables.{alike, operated_law, operated_alone_law, set_object_law, fitted_law, plain_law, plain_if_any_law, condition_law, compared_law, typed_as_law, object_there_law, field_in_law, show_value_law, read_path_law, own_object_law, selected_law, keep_law, set_at_law, loop_on_law, next_round_law, loop_off_law, fits_law, fits_between_law, lent_law, unlent_grows, printed_law, gone_sub_law, returned_sub_law, err_off_law, policy_on_law, handler_off_law, resumed_law, stop_here_law, library_law, bound_at_law, made_law, made_for_law, stored_made_law}
use Rattle.object_counts.proofs.Loops.{part_of_law, redimmed_law, erased_law, keep_path_law, block_over_law, dot_at_law, each_off_law, each_begun_law, each_next_law}
use Rattle.object_counts.proofs.Hosts.{first_sheet_law, written_default_law, item_law, member_there_law, named_there_law, member_called_law, object_member_law, error_given_law, place_at_law, assigned_at_law, item_assigned_law, member_assigned_law, member_not_set_law}
use Rattle.object_counts.proofs.Uses.{counted_operand_law, counted_if_any_law, enumerator_law, index_along_law, element_by_law, item_along_law, write_along_law}
use Rattle.object_counts.proofs.LateUses.{late_there_law, public_variable_law, value_bound_law, place_copied_law, late_called_law, let_element_law, element_set_law, late_let_law, late_set_law}

module _ (bound : ℕ) where
  -- wherever the move leads, these references are there once more
  abbrev pub Comes : Memory → List ℕ → Move → Type 0
  Comes m gs (Goes c) = Grows m gs c.state.memory
  Comes m gs (Ends e s) = Grows m gs s.memory
  Comes m gs Sticks = Unit {0}
  Comes m gs (Tells es v) = Comes m gs v
  Comes m gs (Turns s v) = (nat_lt s.begun bound ≡ false → Grows m gs s.memory) × (nat_lt s.begun bound ≡ true → Comes m gs v)

  pub record Adds (m : Memory) (gs : List ℕ) (v : Move) : Type 0 where
    pub law : Comes m gs v

  pub goes : {m : Memory} {gs : List ℕ} (c : Config) → Grows m gs c.state.memory → Adds m gs (Goes c)
  goes c h = record { law = h }

  pub ends : {m : Memory} {gs : List ℕ} (e : Ending) (s : State) → Grows m gs s.memory → Adds m gs (Ends e s)
  ends e s h = record { law = h }

  pub sticks : {m : Memory} {gs : List ℕ} → Adds m gs Sticks
  sticks = record { law = tt }

  pub telling : {m : Memory} {gs : List ℕ} {v : Move} (es : List Event) → Adds m gs v → Adds m gs (Tells es v)
  telling es a = record { law = a.law }

  pub turning : {m : Memory} {gs : List ℕ} {v : Move} (s : State) → Grows m gs s.memory → Adds m gs v → Adds m gs (Turns s v)
  turning s h a = record { law = (λ f. h, λ t. a.law) }

  moved_comes : {m m1 : Memory} {gs : List ℕ} (hs : List ℕ) → Grows m gs m1 → (v : Move) → Comes m1 hs v → Comes m (gs ++ hs) v
  moved_comes hs a (Goes c) h = grown a h
  moved_comes hs a (Ends e s) h = grown a h
  moved_comes hs a Sticks h = tt
  moved_comes hs a (Tells es v) h = moved_comes hs a v h
  moved_comes hs a (Turns s v) h = (λ f. grown a (h.0 f), λ t. moved_comes hs a v (h.1 t))

  pub moved_adds : {m m1 : Memory} {gs hs : List ℕ} {v : Move} → Grows m gs m1 → Adds m1 hs v → Adds m (gs ++ hs) v
  moved_adds {hs = hs} {v = v} a h = record { law = moved_comes hs a v h.law }

  -- after what looking doesn't see
  pub from : {m m1 : Memory} {gs : List ℕ} {v : Move} → Grows m [] m1 → Adds m1 gs v → Adds m gs v
  from a h = moved_adds a h

  pub either : {m : Memory} {gs hs : List ℕ} {v w : Move} (b : Bool) → Adds m gs v → Adds m hs w → Adds m (if b then gs else hs) (if b then v else w)
  either true a c = a
  either false a c = c

  pub both : {m : Memory} {gs : List ℕ} {v w : Move} (b : Bool) → Adds m gs v → Adds m gs w → Adds m gs (if b then v else w)
  both true a c = a
  both false a c = c

  pub raises : {m : Memory} {gs : List ℕ} (e : Error) (bs : List Back) (s : State) → Grows m gs s.memory → Adds m gs (raised e bs s)
  raises e bs s h = turning s h (telling (Raised e.number ∷ []) (goes (failing e bs (turned s)) h))

  pub lets_adds : {m : Memory} {gs : List ℕ} (after : After) (bs : List Back) (s : State) → Grows m gs s.memory → Adds m gs (lets after bs s)
  lets_adds after bs s h = goes (letting (length (top s.memory).held) after bs (with_memory s (let_held s.memory))) (nil_with h (held_waits s.memory))

  pub lets_all_adds : {m : Memory} {gs : List ℕ} (after : After) (bs : List Back) (s : State) → Grows m gs s.memory → Adds m gs (lets_all after bs s)
  lets_all_adds after bs s h = goes (letting (length (held_by (top s.memory))) after bs (with_memory s (let_frame s.memory))) (nil_with h (frame_waits s.memory))

  finishes_adds : {m : Memory} {gs : List ℕ} (to : ℕ) (bs : List Back) (s : State) → Grows m gs s.memory → Adds m gs (finishes to bs s)
  finishes_adds to bs s h = lets_adds (Goes-on to) bs (with_memory s (unlent s.memory)) (nil_with h (unlent_grows s.memory))

  -- ---- effects

  done_comes : {A : Type 0} (gs : List ℕ) (m : Memory) (e : Effect A) (bs : List Back) (s : State) (go : A → State → Move) → Raises m gs e
      → ((v : A) (s1 : State) → Grows m gs s1.memory → Adds m gs (go v s1)) → Adds m gs (done_then e bs s go)
  done_comes gs m (Fine v m1) bs s go h k = k v (with_memory s m1) h
  done_comes gs m (Bad-at n m1) bs s go h k = raises (error_here n m1) bs (with_memory s m1) h
  done_comes gs m (Out w m1) bs s go h k = ends (Stopped w (top m1).procedure (top m1).statement) (with_memory s m1) h
  done_comes gs m (Tell es e) bs s go h k = telling es (done_comes gs m e bs s go h k)

  does : {A : Type 0} {gs : List ℕ} {m : Memory} {e : Effect A} (bs : List Back) (s : State) {go : A → State → Move} → Law m gs e
      → ((v : A) (s1 : State) → Grows m gs s1.memory → Adds m gs (go v s1)) → Adds m gs (done_then e bs s go)
  does {gs = gs} {m = m} {e = e} bs s {go = go} a k = done_comes gs m e bs s go a.law k

  done_further : {A : Type 0} (gs : List ℕ) (m : Memory) (h : A → Memory → List ℕ) (e : Effect A) (bs : List Back) (s : State) (go : A → State → Move) → Raises m gs e
      → ((v : A) (s1 : State) → Adds s1.memory (h v s1.memory) (go v s1)) → Adds m (gs ++ gains_behind e h) (done_then e bs s go)
  done_further gs m h (Fine v m1) bs s go a k = moved_adds a (k v (with_memory s m1))
  done_further gs m h (Bad-at n m1) bs s go a k = raises (error_here n m1) bs (with_memory s m1) (with_nil a)
  done_further gs m h (Out w m1) bs s go a k = ends (Stopped w (top m1).procedure (top m1).statement) (with_memory s m1) (with_nil a)
  done_further gs m h (Tell es e) bs s go a k = telling es (done_further gs m h e bs s go a k)

  does_further : {A : Type 0} {gs : List ℕ} {m : Memory} {e : Effect A} (h : A → Memory → List ℕ) (bs : List Back) (s : State) {go : A → State → Move} → Law m gs e
      → ((v : A) (s1 : State) → Adds s1.memory (h v s1.memory) (go v s1)) → Adds m (gs ++ gains_behind e h) (done_then e bs s go)
  does_further {gs = gs} {m = m} {e = e} h bs s {go = go} a k = done_further gs m h e bs s go a.law k

  -- what comes next, by what an effect gives
  on : {A : Type 0} {m : Memory} {gs : List ℕ} (pc : ℕ) (st : List Slot) (bs : List Back) (v : A) (s : State) → Grows m gs s.memory → Adds m gs (then_at pc st bs v s)
  on pc st bs v s h = goes (at pc st bs s) h

  pushes : {m : Memory} {gs : List ℕ} (pc : ℕ) (st : List Slot) (bs : List Back) (v : Val) (s : State) → Grows m gs s.memory → Adds m gs (then_push pc st bs v s)
  pushes pc st bs v s h = goes (at pc (value v ∷ st) bs s) h

  pushes_path : {m : Memory} {gs : List ℕ} (pc : ℕ) (st : List Slot) (bs : List Back) (q : Path) (s : State) → Grows m gs s.memory → Adds m gs (then_push_path pc st bs q s)
  pushes_path pc st bs q s h = goes (at pc (path q ∷ st) bs s) h

  lets_go : {m : Memory} {gs : List ℕ} (pc : ℕ) (st : List Slot) (bs : List Back) (k : ℕ) (s : State) → Grows m gs s.memory → Adds m gs (then_let_go pc st bs k s)
  lets_go pc st bs k s h = goes (letting k (Back-to pc st) bs s) h

  tests : {m : Memory} {gs : List ℕ} (pc : ℕ) (st : List Slot) (bs : List Back) (b : Bool) (s : State) → Grows m gs s.memory → Adds m gs (then_test pc st bs b s)
  tests pc st bs b s h = goes (at pc (value (boolean b) ∷ st) bs s) h

  jumps : {m : Memory} {gs : List ℕ} (to pc : ℕ) (st : List Slot) (bs : List Back) (b : Bool) (s : State) → Grows m gs s.memory → Adds m gs (then_jump to pc st bs b s)
  jumps to pc st bs b s h = both b (finishes_adds to bs s h) (goes (at pc st bs s) h)

  branches : {m : Memory} {gs : List ℕ} (to other : ℕ) (bs : List Back) (b : Bool) (s : State) → Grows m gs s.memory → Adds m gs (then_branch to other bs b s)
  branches to other bs b s h = finishes_adds (if b then to else other) bs s h

  goes_on_at : {m : Memory} {gs : List ℕ} (code : Code) (p : ℕ) (bs : List Back) (i : ℕ) (s : State) → Grows m gs s.memory → Adds m gs (then_statement code p bs i s)
  goes_on_at code p bs i s h = finishes_adds (entry_of code p i) bs s h

  -- ---- operands

  on_value : {m : Memory} {g : Val → List Slot → List ℕ} {go : Val → List Slot → Move} (st : List Slot) → ((v : Val) (st1 : List Slot) → Adds m (g v st1) (go v st1)) → Adds m (for_value st g) (pops st go)
  on_value [] h = sticks
  on_value (value v ∷ st) h = h v st
  on_value (path p ∷ st) h = sticks

  a_value : {m : Memory} {go : Val → List Slot → Move} (st : List Slot) → ((v : Val) (st1 : List Slot) → Adds m [] (go v st1)) → Adds m [] (pops st go)
  a_value [] h = sticks
  a_value (value v ∷ st) h = h v st
  a_value (path p ∷ st) h = sticks

  on_path : {m : Memory} {g : Path → List Slot → List ℕ} {go : Path → List Slot → Move} (st : List Slot) → ((q : Path) (st1 : List Slot) → Adds m (g q st1) (go q st1)) → Adds m (for_path st g) (pops_path st go)
  on_path [] h = sticks
  on_path (value v ∷ st) h = sticks
  on_path (path p ∷ st) h = h p st

  a_path : {m : Memory} {go : Path → List Slot → Move} (st : List Slot) → ((q : Path) (st1 : List Slot) → Adds m [] (go q st1)) → Adds m [] (pops_path st go)
  a_path [] h = sticks
  a_path (value v ∷ st) h = sticks
  a_path (path p ∷ st) h = h p st

  on_args : {m : Memory} {g : List Slot → List Slot → List ℕ} {go : List Slot → List Slot → Move} (n : ℕ) (st xs : List Slot) → ((ys st1 : List Slot) → Adds m (g ys st1) (go ys st1))
      → Adds m (for_args n st xs g) (take_args n st xs go)
  on_args zero st xs h = h xs st
  on_args (suc n) [] xs h = sticks
  on_args (suc n) (x ∷ st) xs h = on_args n st (x ∷ xs) h

  the_args : {m : Memory} {go : List Slot → List Slot → Move} (n : ℕ) (st xs : List Slot) → ((ys st1 : List Slot) → Adds m [] (go ys st1)) → Adds m [] (take_args n st xs go)
  the_args zero st xs h = h xs st
  the_args (suc n) [] xs h = sticks
  the_args (suc n) (x ∷ st) xs h = the_args n st (x ∷ xs) h

  module _ (code : Code) where
    -- ---- calls

    pub enters_adds : (called : Bool) (p : ℕ) (me : Val) (xs : List Slot) (bs : List Back) (s : State) → Adds s.memory (entered_gains code.declared p me xs) (enters code called p me xs bs s)
    enters_adds called p me xs bs s =
        let s1 : State = with_memory s (entered code.declared called p me xs s.memory) in
        let h : Grows s.memory (entered_gains code.declared p me xs) s1.memory = entered_grows code.declared called p me xs s.memory in
        turning s1 h (goes (at (slice_index code.starts p) [] bs (turned s1)) h)

    pub enter_by_adds : (called : Bool) (p : ℕ) (me : Val) (xs : List Slot) (bs : List Back) (s : State) (full : Move) → Adds s.memory [] full
        → Adds s.memory (call_gains code p me xs s.memory.frames) (enter_by code called p me xs bs s full)
    enter_by_adds called p me xs bs s full h = either (nat_lt (length s.memory.frames) 2000) (enters_adds called p me xs bs s) h

    calls_adds : (p : ℕ) (me : Val) (xs : List Slot) (pc : ℕ) (st : List Slot) (bs : List Back) (s : State) → Adds s.memory (call_gains code p me xs s.memory.frames) (calls code p me xs pc st bs s)
    calls_adds p me xs pc st bs s = enter_by_adds true p me xs (Caller pc st ∷ bs) s _ (raises (error_here 28 s.memory) bs s (same s.memory))

    -- ---- events

    lent_grows : (xs : List Slot) (m : Memory) → Grows m [] (lent_again xs m)
    lent_grows xs m = top_same m (record (top m) { pending = paths_in_slots xs ++ (top m).pending }) (λ h. h) (λ o. refl)

    over_grows : (xs : List Slot) (m : Memory) → Grows m [] (raise_over xs m)
    over_grows xs m = top_same m (record (top m) { pending = without_paths xs (top m).pending }) (λ h. h) (λ o. refl)

    handler_adds : (o : Option ℕ) (e : ℕ) (xs : List Slot) (l : Linked) (ls : List Linked) (pc : ℕ) (st : List Slot) (bs : List Back) (s : State) {gs : List ℕ} {more : Move} → Adds s.memory gs more
        → Adds s.memory (handler_gains code xs l.sink o s.memory gs) (calls_handler code e xs l ls o pc st bs s more)
    handler_adds None e xs l ls pc st bs s h = h
    handler_adds (Some p) e xs l ls pc st bs s h =
        let s1 : State = with_memory s (lent_again xs s.memory) in
        from (lent_grows xs s.memory) (enter_by_adds true p (object (Heap l.sink)) xs (Delivering e xs ls pc st ∷ bs) s1 _ (raises (error_here 28 s1.memory) bs s1 (same s1.memory)))

    pub delivers_adds : (e : ℕ) (xs : List Slot) (ls : List Linked) (pc : ℕ) (st : List Slot) (bs : List Back) (s : State) → Adds s.memory (delivery_gains code e xs ls s.memory) (delivers code e xs ls pc st bs s)
    delivers_adds e xs [] pc st bs s = goes (at pc st bs (with_memory s (raise_over xs s.memory))) (over_grows xs s.memory)
    delivers_adds e xs (l ∷ ls) pc st bs s = handler_adds (due code.declared e l s.memory) e xs l ls pc st bs s (delivers_adds e xs ls pc st bs s)

    change_adds : (o : Option Area) (pc : ℕ) (st : List Slot) (bs : List Back) (s : State) → Adds s.memory (change_gains code o s.memory) (tells_change code o pc st bs s)
    change_adds None pc st bs s = goes (at pc st bs s) (same s.memory)
    change_adds (Some a) pc st bs s =
        from (alike (λ h. h) (λ o. refl)) (delivers_adds change (target_of a) (sinks (sheet_of a) s.memory) pc st bs (with_memory s (no_change s.memory)))

    -- cells may be written, and then the handlers of Change are called
    writes : {A : Type 0} {gs : List ℕ} {e : Effect A} (pc : ℕ) (st : List Slot) (bs : List Back) (s : State) → Law s.memory gs e
        → Adds s.memory (gs ++ gains_behind e (λ v m1. changed_gains code m1)) (done_then e bs s (then_changes code pc st bs))
    writes pc st bs s a = does_further (λ v m1. changed_gains code m1) bs s a (λ v s1. change_adds s1.memory.changed pc st bs s1)

    -- ---- uses of objects

    -- a use of an object goes on
    follows_adds : (b : Bool) (k pc : ℕ) (st : List Slot) (bs : List Back) (n : Next) (s : State) → Adds s.memory (next_gains code k n s.memory) (follows code b k pc st bs n s)
    follows_adds b k pc st bs (gives v) s = change_adds s.memory.changed pc (left_as b v ∷ st) bs s
    follows_adds b zero pc st bs (then_call p me xs ts) s = raises (error_here 450 s.memory) bs s (same s.memory)
    follows_adds b (suc k) pc st bs (then_call p me xs ts) s =
        enter_by_adds true p me xs (Within b k ts pc st ∷ bs) s _ (raises (error_here 28 s.memory) bs s (same s.memory))

    pub use_adds : {gs : List ℕ} {m : Memory} {e : Effect Next} (b : Bool) (k pc : ℕ) (st : List Slot) (bs : List Back) (s : State) → Law m gs e → Adds m (use_gains code k gs e) (done_then e bs s (follows code b k pc st bs))
    use_adds b k pc st bs s a = does_further (next_gains code k) bs s a (λ n s1. follows_adds b k pc st bs n s1)

    initializes_adds : (o : Option ℕ) (v : Val) (pc : ℕ) (st : List Slot) (bs : List Back) (s : State) → Adds s.memory (initialize_gains code o v s.memory.frames) (initializes code o v pc st bs s)
    initializes_adds None v pc st bs s = goes (at pc (value empty ∷ value v ∷ st) bs s) (same s.memory)
    initializes_adds (Some p) v pc st bs s = calls_adds p v [] pc (value v ∷ st) bs s

    member_adds : (name : List ℕ) (base begun : Val) (vs : List Val) (pc : ℕ) (st : List Slot) (bs : List Back) (s : State)
        → Adds s.memory (uses_member_gains code name base begun vs s.memory) (uses_member code name base begun vs pc st bs s)
    member_adds name base begun vs pc st bs s =
        either (is_raise name base)
        (does bs s (error_given_law vs s.memory) (λ e s1 h. raises e bs s1 h))
        (either (is_counted base)
        (does bs s (object_member_law name vs base s.memory) (λ r s1 h. lets_go pc (value r.0 ∷ st) bs r.1 s1 h))
        (does_further (λ v m1. changed_gains code m1) bs s (member_called_law code.declared name vs base begun s.memory) (λ v s1. change_adds s1.memory.changed pc (value v ∷ st) bs s1)))

    -- ---- instructions

    pub act_adds : (by : Choices) (o : Option Instr) (pc : ℕ) (st : List Slot) (bs : List Back) (s : State) → Adds s.memory (act_gains code o st s.memory) (act by code o pc st bs s)
    act_adds by None pc st bs s = sticks
    act_adds by (Some (Begin i)) pc st bs s =
        turning s (same s.memory) (goes (at (pc + 1) st bs (with_memory (turned s) (at_statement s.memory i))) (top_same s.memory (record (top s.memory) { statement = Some i }) (λ h. h) (λ o. refl)))
    act_adds by (Some (Push v)) pc st bs s = goes (at (pc + 1) (value v ∷ st) bs s) (same s.memory)
    act_adds by (Some (LoadErr member)) pc st bs s = goes (at (pc + 1) (value (err_of code.declared member s.memory.err) ∷ st) bs s) (same s.memory)
    act_adds by (Some (PathOf x)) pc st bs s = goes (at (pc + 1) (path (path_of s.memory x) ∷ st) bs s) (same s.memory)
    act_adds by (Some ReadThrough) pc st bs s = on_path st (λ q st1. does bs s (read_path_law q s.memory) (pushes (pc + 1) st1 bs))
    act_adds by (Some (ElementOf k)) pc st bs s = on_path st (λ q st1. on_args k st1 [] (λ xs st2. does bs s (place_at_law q (slot_values xs) s.memory) (pushes_path (pc + 1) st2 bs)))
    act_adds by (Some (ElementIn k)) pc st bs s = on_args k st [] (λ xs st1. on_path st1 (λ q st2. does bs s (place_at_law q (slot_values xs) s.memory) (pushes_path (pc + 1) st2 bs)))
    act_adds by (Some (FieldOf i of bounded)) pc st bs s = a_path st (λ q st1. goes (at (pc + 1) (path (field_path q i of bounded) ∷ st1) bs s) (same s.memory))
    act_adds by (Some (Dot i)) pc st bs s = does bs s (dot_at_law i s.memory) (pushes_path (pc + 1) st bs)
    act_adds by (Some (Index k)) pc st bs s = on_args k st [] (λ xs st1. on_value st1 (λ v st2. does bs s (item_law v (slot_values xs) s.memory) (pushes (pc + 1) st2 bs)))
    act_adds by (Some (PartOf i)) pc st bs s = on_value st (λ v st1. does bs s (part_of_law i v s.memory) (pushes (pc + 1) st1 bs))
    act_adds by (Some (Operate o compare l r)) pc st bs s = a_value st (λ w st1. a_value st1 (λ v st2. does bs s (operated_law o compare l r v w s.memory) (pushes (pc + 1) st2 bs)))
    act_adds by (Some (OperateAlone o of)) pc st bs s = a_value st (λ v st1. does bs s (operated_alone_law o of v s.memory) (pushes (pc + 1) st1 bs))
    act_adds by (Some Plain) pc st bs s =
        on_value st (λ v st1. either (is_counted v) (use_adds false most_calls (pc + 1) st1 bs s (counted_operand_law code.declared v s.memory)) (does bs s (plain_law v s.memory) (pushes (pc + 1) st1 bs)))
    act_adds by (Some (PushHost reference)) pc st bs s = goes (at (pc + 1) (value (object (Host reference)) ∷ st) bs s) (same s.memory)
    act_adds by (Some FirstSheet) pc st bs s = does bs s (first_sheet_law s.memory) (pushes (pc + 1) st bs)
    act_adds by (Some (MemberThere name k)) pc st bs s = a_value st (λ v st1. does bs s (member_there_law code.declared name k v s.memory) (pushes (pc + 1) (value v ∷ st1) bs))
    act_adds by (Some (MemberOf name k)) pc st bs s =
        on_args k st [] (λ xs st1. on_value st1 (λ w st2. on_value st2 (λ v st3. member_adds name v w (slot_values xs) (pc + 1) st3 bs s)))
    act_adds by (Some (NamedThere name how k)) pc st bs s = a_value st (λ v st1. does bs s (named_there_law name how k v s.memory) (pushes (pc + 1) (value v ∷ st1) bs))
    act_adds by (Some (NamedOf name how k)) pc st bs s =
        on_args k st [] (λ xs st1. on_value st1 (λ w st2. on_value st2 (λ v st3. member_adds name v w (in_parameter_order v name how (slot_values xs)) (pc + 1) st3 bs s)))
    act_adds by (Some (StoreMember name k)) pc st bs s =
        on_args k st [] (λ xs st1. on_value st1 (λ x st2. on_value st2 (λ w st3. on_value st3 (λ v st4.
        writes (pc + 1) st4 bs s (member_assigned_law code.declared name (slot_values xs) w x v s.memory)))))
    act_adds by (Some PlainIfAny) pc st bs s =
        on_value st (λ v st1. either (is_counted v) (use_adds false most_calls (pc + 1) st1 bs s (counted_if_any_law code.declared v s.memory)) (does bs s (plain_if_any_law v s.memory) (pushes (pc + 1) st1 bs)))
    act_adds by (Some Enumerate) pc st bs s = on_value st (λ v st1. use_adds false most_calls (pc + 1) st1 bs s (enumerator_law code.declared v s.memory))
    act_adds by (Some (FindLate aim name how gs)) pc st bs s =
        on_value st (λ v st1. use_adds false most_calls (pc + 1) (value v ∷ st1) bs s (late_there_law code.declared aim name how gs v s.memory))
    act_adds by (Some (BindValue aim name how gs i)) pc st bs s =
        on_value st (λ v st1. use_adds false most_calls (pc + 1) st1 bs s (value_bound_law code.declared aim name how gs i (base_below i st1) v s.memory))
    act_adds by (Some (BindPlace aim name how gs i)) pc st bs s =
        on_path st (λ q st1.
        either (lends_place code.declared aim name how gs i (base_below i st1) q s.memory) (does bs s (lent_law q s.memory) (on (pc + 1) (path q ∷ st1) bs))
        (use_adds true most_calls (pc + 1) st1 bs s (place_copied_law code.declared aim name how gs i (base_below i st1) q s.memory)))
    act_adds by (Some (CallLate name how gs)) pc st bs s =
        on_args (length gs) st [] (λ xs st1. on_value st1 (λ w st2. on_value st2 (λ v st3.
        either (is_instance v s.memory) (use_adds false most_calls (pc + 1) st3 bs s (late_called_law code.declared name how gs v w (map received xs) s.memory))
        (member_adds name v w (host_arguments v name how (map received xs)) (pc + 1) st3 bs s))))
    act_adds by (Some (LetLate name how gs)) pc st bs s =
        on_args (length gs) st [] (λ xs st1. on_value st1 (λ x st2. on_value st2 (λ w st3. on_value st3 (λ v st4.
        use_adds false most_calls (pc + 1) st4 bs s (late_let_law code.declared name how gs w x (map received xs) v s.memory)))))
    act_adds by (Some (SetLate name how gs)) pc st bs s =
        on_args (length gs) st [] (λ xs st1. on_value st1 (λ x st2. on_value st2 (λ w st3. on_value st3 (λ v st4.
        use_adds false most_calls (pc + 1) st4 bs s (late_set_law code.declared name how gs w x (map received xs) v s.memory)))))
    act_adds by (Some (ItemAlong k)) pc st bs s =
        on_args k st [] (λ xs st1. on_value st1 (λ v st2. use_adds false most_calls (pc + 1) st2 bs s (index_along_law code.declared most_passed (slot_values xs) v s.memory)))
    act_adds by (Some WriteThrough) pc st bs s =
        on_value st (λ w st1. on_value st1 (λ v st2. use_adds false most_calls (pc + 1) st2 bs s (write_along_law code.declared most_passed v w s.memory)))
    act_adds by (Some (LetElement k)) pc st bs s =
        on_args k st [] (λ xs st1. on_path st1 (λ q st2. on_value st2 (λ v st3.
        use_adds false most_calls (pc + 1) st3 bs s (let_element_law code.declared q (slot_values xs) v s.memory))))
    act_adds by (Some (SetElement k)) pc st bs s =
        on_args k st [] (λ xs st1. on_path st1 (λ q st2. on_value st2 (λ v st3.
        use_adds false most_calls (pc + 1) st3 bs s (element_set_law code.declared q (slot_values xs) v s.memory))))
    act_adds by (Some (ElementAlong k)) pc st bs s =
        on_args k st [] (λ xs st1. on_path st1 (λ q st2.
        either (has_array q s.memory) (does bs s (element_by_law q (slot_values xs) s.memory) (pushes_path (pc + 1) st2 bs))
        (use_adds true most_calls (pc + 1) st2 bs s (item_along_law code.declared q (slot_values xs) s.memory))))
    act_adds by (Some (LateField name)) pc st bs s = a_value st (λ v st1. does bs s (public_variable_law code.declared name v s.memory) (pushes_path (pc + 1) st1 bs))
    act_adds by (Some PlaceOf) pc st bs s = a_value st (λ v st1. goes (at (pc + 1) (path (path_to v) ∷ st1) bs s) (same s.memory))
    act_adds by (Some (Library f text_form compare base k)) pc st bs s =
        on_args k st [] (λ xs st1. does bs s (library_law code.declared f text_form compare base (slot_values xs) s.memory) (pushes (pc + 1) st1 bs))
    act_adds by (Some (BoundAt upper z)) pc st bs s = a_path st (λ q st1. does bs s (bound_at_law upper z q s.memory) (pushes (pc + 1) st1 bs))
    act_adds by (Some PushThis) pc st bs s = does bs s (own_object_law s.memory) (pushes (pc + 1) st bs)
    act_adds by (Some (New c)) pc st bs s =
        does_further (λ v m1. initialize_gains code (class_at code.declared c).initialize v m1.frames) bs s (made_law code.declared c s.memory) (λ v s1. initializes_adds (class_at code.declared c).initialize v (pc + 1) st bs s1)
    act_adds by (Some ObjectThere) pc st bs s = a_value st (λ v st1. does bs s (object_there_law v s.memory) (pushes (pc + 1) st1 bs))
    act_adds by (Some (FieldIn i of bounded)) pc st bs s = a_value st (λ v st1. does bs s (field_in_law i of bounded v s.memory) (pushes_path (pc + 1) st1 bs))
    act_adds by (Some (AsNew c)) pc st bs s = a_path st (λ q st1. goes (at (pc + 1) (path (made_at c q) ∷ st1) bs s) (same s.memory))
    act_adds by (Some MakeThere) pc st bs s =
        on_path st (λ q st1.
        does_further (λ v m1. initialize_gains code (initialize_of code.declared q v) v m1.frames) bs s (made_for_law code.declared q s.memory) (λ v s1. initializes_adds (initialize_of code.declared q v) v (pc + 1) (path q ∷ st1) bs s1))
    act_adds by (Some StoreMade) pc st bs s = on_value st (λ v st1. on_path st1 (λ q st2. does bs s (stored_made_law q v s.memory) (on (pc + 1) (path q ∷ st2) bs)))
    act_adds by (Some Same) pc st bs s = a_value st (λ w st1. a_value st1 (λ v st2. does bs s (compared_law v w s.memory) (pushes (pc + 1) st2 bs)))
    act_adds by (Some (IsType of)) pc st bs s = a_value st (λ v st1. does bs s (typed_as_law of v s.memory) (pushes (pc + 1) st1 bs))
    act_adds by (Some (FitObject of)) pc st bs s = a_value st (λ v st1. does bs s (set_object_law of v s.memory) (pushes (pc + 1) st1 bs))
    act_adds by (Some (Fit of)) pc st bs s = a_value st (λ v st1. does bs s (fitted_law of v s.memory) (pushes (pc + 1) st1 bs))
    act_adds by (Some Drop) pc st bs s = a_value st (λ v st1. goes (at (pc + 1) st1 bs s) (same s.memory))
    act_adds by (Some Lend) pc st bs s = a_path st (λ q st1. does bs s (lent_law q s.memory) (on (pc + 1) (path q ∷ st1) bs))
    act_adds by (Some (Pack k)) pc st bs s = the_args k st [] (λ xs st1. goes (at (pc + 1) (value (packed xs) ∷ st1) bs s) (same s.memory))
    act_adds by (Some (Reorder order k)) pc st bs s = the_args k st [] (λ xs st1. goes (at (pc + 1) (pushed (reordered order xs) st1) bs s) (same s.memory))
    act_adds by (Some (Lift k)) pc st bs s = the_args k st [] (λ xs st1. a_value st1 (λ v st2. goes (at (pc + 1) (value v ∷ pushed xs st2) bs s) (same s.memory)))
    act_adds by (Some (Call p k)) pc st bs s = on_args k st [] (λ xs st1. calls_adds p empty xs (pc + 1) st1 bs s)
    act_adds by (Some (CallOf p k)) pc st bs s = on_args k st [] (λ xs st1. on_value st1 (λ v st2. calls_adds p v xs (pc + 1) st2 bs s))
    act_adds by (Some Store) pc st bs s = on_path st (λ q st1. on_value st1 (λ v st2. writes (pc + 1) st2 bs s (assigned_at_law q v s.memory)))
    act_adds by (Some SetAt) pc st bs s = on_path st (λ q st1. on_value st1 (λ v st2. does bs s (set_at_law q v s.memory) (on (pc + 1) st2 bs)))
    act_adds by (Some StoreDefault) pc st bs s = on_value st (λ w st1. on_value st1 (λ v st2. writes (pc + 1) st2 bs s (written_default_law w v s.memory)))
    act_adds by (Some (StoreItem k)) pc st bs s =
        on_args k st [] (λ xs st1. on_value st1 (λ w st2. on_value st2 (λ v st3. writes (pc + 1) st3 bs s (item_assigned_law w (slot_values xs) v s.memory))))
    act_adds by (Some SetMember) pc st bs s = a_value st (λ w st1. a_value st1 (λ v st2. does bs s (member_not_set_law w s.memory) (on (pc + 1) st2 bs)))
    act_adds by (Some (RaiseEvent e k)) pc st bs s = on_args k st [] (λ xs st1. delivers_adds e xs (sinks (source_of (top s.memory).me) s.memory) (pc + 1) st1 bs s)
    act_adds by (Some ShowText) pc st bs s = a_value st (λ v st1. does bs s (show_value_law v s.memory) (pushes (pc + 1) st1 bs))
    act_adds by (Some (Show ends k)) pc st bs s = the_args k st [] (λ xs st1. does bs s (printed_law ends xs s.memory) (on (pc + 1) st1 bs))
    act_adds by (Some (Throw k)) pc st bs s = the_args k st [] (λ xs st1. raises (raised_by xs s.memory) bs s (same s.memory))
    act_adds by (Some (LoopOff i)) pc st bs s = does bs s (loop_off_law i s.memory) (on (pc + 1) st bs)
    act_adds by (Some (LoopOn x i compare t u)) pc st bs s =
        on_value st (λ step st1. on_value st1 (λ end st2. on_value st2 (λ start st3. does bs s (loop_on_law x i compare t u start end step s.memory) (tests (pc + 1) st3 bs))))
    act_adds by (Some (NextRound x i)) pc st bs s = does bs s (next_round_law x i s.memory) (tests (pc + 1) st bs)
    act_adds by (Some (EachOff i)) pc st bs s = does bs s (each_off_law i s.memory) (on (pc + 1) st bs)
    act_adds by (Some (EachOn i)) pc st bs s = on_value st (λ v st1. does bs s (each_begun_law i v s.memory) (lets_go (pc + 1) st1 bs))
    act_adds by (Some (NextItem x i)) pc st bs s = does bs s (each_next_law x i s.memory) (tests (pc + 1) st bs)
    act_adds by (Some (Keep i)) pc st bs s = on_value st (λ v st1. does bs s (keep_law i v s.memory) (on (pc + 1) st1 bs))
    act_adds by (Some (Selected i)) pc st bs s = does bs s (selected_law i s.memory) (pushes (pc + 1) st bs)
    act_adds by (Some (IfFits o compare of t to)) pc st bs s = a_value st (λ w st1. a_value st1 (λ v st2. does bs s (fits_law o compare of t v w s.memory) (jumps to (pc + 1) st2 bs)))
    act_adds by (Some (IfBetween compare of t u to)) pc st bs s =
        a_value st (λ y st1. a_value st1 (λ x st2. a_value st2 (λ v st3. does bs s (fits_between_law compare of t u v x y s.memory) (jumps to (pc + 1) st3 bs))))
    act_adds by (Some (Redim preserve of k)) pc st bs s =
        on_args k st [] (λ xs st1. on_path st1 (λ q st2. does bs s (redimmed_law code.declared preserve of q (slot_values xs) s.memory) (lets_go (pc + 1) st2 bs)))
    act_adds by (Some EraseAt) pc st bs s = on_path st (λ q st1. does bs s (erased_law code.declared q s.memory) (lets_go (pc + 1) st1 bs))
    act_adds by (Some (KeepPath i)) pc st bs s = on_path st (λ q st1. does bs s (keep_path_law i q s.memory) (on (pc + 1) st1 bs))
    act_adds by (Some (DropKept i)) pc st bs s = does bs s (block_over_law i s.memory) (on (pc + 1) st bs)
    act_adds by (Some (PutReturn i)) pc st bs s = does bs s (gone_sub_law i s.memory) (on (pc + 1) st bs)
    act_adds by (Some (TakeReturn p)) pc st bs s = does bs s (returned_sub_law s.memory) (goes_on_at code p bs)
    act_adds by (Some (SetPolicy b)) pc st bs s = does bs s (policy_on_law b s.memory) (on (pc + 1) st bs)
    act_adds by (Some HandlerOff) pc st bs s = does bs s (handler_off_law s.memory) (on (pc + 1) st bs)
    act_adds by (Some ErrOff) pc st bs s = does bs s (err_off_law s.memory) (on (pc + 1) st bs)
    act_adds by (Some (Again p)) pc st bs s = does bs s (resumed_law kind.Again 0 s.memory) (goes_on_at code p bs)
    act_adds by (Some (Behind p)) pc st bs s = does bs s (resumed_law kind.Next (next_statement code p (failed_statement s.memory)) s.memory) (goes_on_at code p bs)
    act_adds by (Some (Resumes p to)) pc st bs s = does bs s (resumed_law (kind.Label (record { 0 = to })) 0 s.memory) (goes_on_at code p bs)
    act_adds by (Some (Finish to)) pc st bs s = finishes_adds to bs s (same s.memory)
    act_adds by (Some (Branch sense to other)) pc st bs s = a_value st (λ v st1. does bs s (condition_law sense v s.memory) (branches to other bs))
    act_adds by (Some Halt) pc st bs s = ends Ended s (same s.memory)
    act_adds by (Some StopHere) pc st bs s = does bs s (stop_here_law s.memory) (on (pc + 1) st bs)
    act_adds by (Some Leave) pc st bs s = lets_all_adds Return bs s (same s.memory)
