-- What each instruction does to what operands and memories refer to.
use Rattle.std.proofs.Common.{◌≡◌, ℕ, zero, suc, ◌+◌, ◌<◌, Bool, true, false, List, [], ◌∷◌, ◌++◌, length, map, Option, Some, None, refl, sym, ap, ◌∙◌, subst, arith, append_assoc, append-nil}
use Rattle.std.specs.Prelude.{nat_lt, slice_get, slice_index, slice_index_or, if◌then◌else◌}
use Rattle.vba_values.specs.Val.{Val, empty, boolean, object}
use Rattle.vba_values.specs.declared.object.ObjRef.TheVariants.{Heap, Host}
use Rattle.error_frames.specs.declared.frame.ResumeKind.TheVariants as kind
use Rattle.vba_events.specs.declared.linked.Linked.{Linked}
use Rattle.sheet_host.specs.declared.area.Area.{Area}
use Rattle.bound_project.specs.Expressions.{ErrMember, err_number, err_source, err_description}
use Rattle.bound_project.specs.Project.{Declarations, Declaration, Procedure, class_at, procedure_at, first_value, first_values, types_of, field_of}
use Rattle.vba_values.specs.Types.{Declared}
use Rattle.vba_meaning.specs.Paths.{Root, in_frame, in_project, in_fields, in_block, in_object, in_item, Step, Path, field_path}
use Rattle.vba_meaning.specs.Memory.{Error, Ending, Ended, Slot, value, path, value_in, value_or_empty, Memory, Frame, Object, first_or, rest, top, own_slots, calling, at_statement, path_of, paths_in_slots, without_paths, received, entered, error_here}
use Rattle.vba_meaning.specs.References.{objects_in, objects_in_slots, times, looks, without_values, but_result, emptied, let_held, held_by, let_frame}
use Rattle.vba_meaning.specs.Effects.{Event, Raised, Effect, Fine, Bad-at, Out, Tell, unlent, slot_values, packed, reordered, raised_by, err_of, failed_statement}
use Rattle.vba_meaning.specs.Events.{source_of, sinks, due, lent_again, raise_over, change, sheet_of, target_of, no_change}
use Rattle.vba_meaning.specs.Objects.{initialize_of, made_at}
use Rattle.vba_meaning.specs.Host.{is_counted, is_raise, path_to}
use Rattle.vba_meaning.specs.ByName.{in_parameter_order}
use Rattle.bound_project.specs.Parameters.{parameters_of}
use Rattle.vba_meaning.specs.Defaults.{Next, gives, then_call, is_instance, has_array, most_passed, most_calls}
use Rattle.vba_meaning.specs.LateBound.{lends_place, host_arguments}
use Rattle.vba_meaning.specs.Meaning.{State, with_memory, turned}
use Rattle.pcode.specs.Instructions.{Instr, Begin, Push, LoadErr, PathOf, ReadThrough, ElementOf, ElementIn, FieldOf, Dot, Index, PartOf, Operate, OperateAlone, Plain, PlainIfAny, Enumerate, PushHost, FirstSheet, MemberThere, MemberOf, NamedThere, NamedOf, PushThis, New, ObjectThere, FieldIn, AsNew, MakeThere, StoreMade, FindLate, BindValue, BindPlace, CallLate, LetLate, SetLate, ItemAlong, WriteThrough, LetElement, SetElement, ElementAlong, LateField, PlaceOf, Same, IsType, Library, BoundAt, Fit, FitObject, Drop, Lend, Pack, Reorder, Lift, Call, CallOf, Store, SetAt, StoreDefault, StoreMember, StoreItem, SetMember, RaiseEvent, ShowText, Show, Throw, LoopOff, LoopOn, NextRound, EachOff, EachOn, NextItem, Keep, Selected, IfFits, IfBetween, Redim, EraseAt, KeepPath, DropKept, PutReturn, TakeReturn, SetPolicy, HandlerOff, ErrOff, Again, Behind, Resumes, Finish, Branch, Halt, StopHere, Leave, Code, next_statement, entry_of}
use Rattle.pcode.specs.Machine.{After, Goes-on, Return, Back-to, Back, Caller, Delivering, Within, Config, Move, Goes, Ends, Sticks, Tells, Turns, at, failing, letting, lets, lets_all, finishes, raised, done_then, then_push, then_push_path, then_let_go, then_test, then_jump, pops, pops_path, take_args, pushed, calls_handler, delivers, tells_change, uses_member, enters, enter_by, calls, initializes, then_changes, left_as, follows, base_below, looking, act}
use Rattle.object_counts.specs.Gains.{entered_gains}
use Rattle.object_counts.proofs.Indexed.{times-append}
use Rattle.object_counts.proofs.Leaving.{entered_grows, held_waits, frame_waits}
use Rattle.object_counts.proofs.Variables.{alike}
use Rattle.object_lives.proofs.Values.{In, none_in, in_self, in_then, either_of, Refers, field_initial_free}
use Rattle.object_lives.proofs.Firmness.{flag, rests, passed}
use Rattle.object_lives.proofs.Held.{World, FirmBy, Firm, StaysIn, Reach, under, Wider, RootIn, Paths, SlotIn, Slots, root_more, paths_more, value_of_slot, values_of_slots, nth_slot, packed_in, reordered_in}
use Rattle.object_lives.proofs.Marks.{Marked, unmarked, marked_then, Silent, silent_marks}
use Rattle.object_lives.proofs.Near.{Present, AllThere, calleds, floor_of, floor_frames, low, roots_of, roots_frames, reach_of, reach, BareSlots, BareFrames, bare_first, bare_rest, LentFrames, lent_rest, block_reach, near_block, Stays, Near, Ready, Later, held_there}
use Rattle.object_lives.proofs.Chains.{Given, GivenAll, GivenPath, Staying, LeadsOn, GivenSlots, GivenNext, Comes, Safe}
use Rattle.object_lives.proofs.Variables.{unseen, outside_later, operated_safe, operated_alone_safe, set_object_safe, fitted_safe, plain_safe, plain_if_any_safe, condition_safe, compared_safe, typed_as_safe, object_there_safe, field_in_safe, show_value_safe, read_path_safe, own_object_safe, selected_safe, keep_safe, set_at_safe, path_of_stays, loop_on_safe, next_round_safe, loop_off_safe, fits_safe, fits_between_safe, lent_safe, unlent_later, printed_safe, gone_sub_safe, returned_sub_safe, err_off_safe, policy_on_safe, handler_off_safe, resumed_safe, stop_here_safe, library_safe, bound_at_safe, made_safe, made_for_safe, stored_made_safe}
use Rattle.object_lives.proofs.Arrays.{item_inside, part_of_safe, redimmed_safe, erased_safe, keep_path_safe, block_over_safe, dot_at_safe, each_off_safe, each_begun_safe, each_next_safe}
use Rattle.object_lives.proofs.Items.{alone_there}
use Rattle.object_lives.proofs.Hosts.{first_sheet_safe, written_default_safe, item_safe, member_there_safe, named_there_safe, member_called_safe, object_member_safe, error_given_safe, place_at_safe, assigned_at_safe, item_assigned_safe, member_assigned_safe, member_not_set_safe, path_to_in, path_to_stays}
use Rattle.object_lives.proofs.Uses.{Bare, Uses, counted_operand_safe, counted_if_any_safe, enumerator_safe, index_along_safe, element_by_safe, item_along_safe, write_along_safe}
use Rattle.object_lives.proofs.LateUses.{in_order_in, host_arguments_in, public_variable_safe, late_there_safe, value_bound_safe, place_copied_safe, late_called_safe, let_element_safe, element_set_safe, late_let_safe, late_set_safe}
use Rattle.object_lives.proofs.Sinks.{due_there}
use Rattle.object_lives.proofs.Places.{Spent, ReturnsIn, IsCall, Calls, Rest, call_by, calls_top, calls_calling, Tight, Over, over_ready, Here, Kept, over_here, near_here, popped, pushed_on, pushed_firm, pushed_all}

-- a call that passes no place changes no frame below
pub calling_none : (fs : List Frame) → calling [] fs ≡ fs
calling_none [] = refl
calling_none (f ∷ fs) = refl

calleds_calling : (xs : List Slot) (fs : List Frame) → calleds (calling xs fs) ≡ calleds fs
calleds_calling xs [] = refl
calleds_calling xs (f ∷ fs) = refl

roots_calling : (xs : List Slot) (fs : List Frame) → roots_of (calling xs fs) ≡ roots_of fs
roots_calling xs [] = refl
roots_calling xs (f ∷ fs) = refl

-- an address behind an instruction of a statement, and what is known of operands there
pub record Inside (Sure : World) (pc : ℕ) (fl : List Bool) : Type 0 where
  pub behind : 0 < pc
  pub firm : (hs : Reach) (st : List Slot) → Firm hs fl st → Firm hs (Sure.firm pc) st

pub firm_value : (c : Bool) (hs : Reach) (v : Val) → FirmBy c hs (value v)
firm_value true hs v = tt
firm_value false hs v = tt

-- below what a call gives
waits_firm : {Sure : World} {pc : ℕ} {c : Bool} {fl : List Bool} (hs : Reach) (st : List Slot) → Inside Sure pc (c ∷ fl) → Firm hs fl st → Firm hs (rest (Sure.firm pc)) st
waits_firm {c = c} hs st l f = (l.firm hs (value empty ∷ st) (firm_value c hs empty, f)).1

-- there whatever is known there
pub inside : {Sure : World} {pc : ℕ} → 0 < pc → Inside Sure pc (Sure.firm pc)
inside l = record { behind = l; firm = λ hs st f. f }

known : (hs : Reach) (fl : List Bool) (st : List Slot) → Firm hs (flag fl ∷ rest fl) st → Firm hs fl st
known hs fl [] f = tt
known hs fl (x ∷ st) f = f

pub inside_below : {Sure : World} {pc : ℕ} → 0 < pc → Inside Sure pc (flag (Sure.firm pc) ∷ rest (Sure.firm pc))
inside_below {Sure = Sure} {pc = pc} l = record { behind = l; firm = λ hs st f. known hs (Sure.firm pc) st f }

firm_none : (hs : Reach) (st : List Slot) → Firm hs [] st
firm_none hs [] = tt
firm_none hs (x ∷ st) = (tt, firm_none hs st)

module _ (Sure : World) where
  -- wherever the move leads, the objects are marked by what was told, and each reference leads to an object that is there
  abbrev pub Fares : List (Option Object) → List Event → Move → Type 0
  Fares bs es (Goes c) = Marked bs es c.state.memory.objects × (Sure.sure → Kept Sure c)
  Fares bs es (Ends e s) = Marked bs es s.memory.objects × (Sure.sure → Over Sure.asks s.memory)
  Fares bs es Sticks = Unit {0}
  Fares bs es (Tells hs v) = Fares bs (es ++ hs) v
  Fares bs es (Turns s v) = (Marked bs es s.memory.objects × (Sure.sure → Over Sure.asks s.memory)) × Fares bs es v

  pub record Good (m : Memory) (v : Move) : Type 0 where
    pub law : Fares m.objects [] v

  -- ---- one after another

  fares_nil : (bs : List (Option Object)) (es : List Event) (v : Move) → Fares bs (es ++ []) v → Fares bs es v
  fares_nil bs es v h = subst (λ hs. Fares bs hs v) (let is : es ++ [] ≡ es = simp append-nil in is) h

  fares_behind : {bs cs : List (Option Object)} (es hs : List Event) → Marked bs es cs → (v : Move) → Fares cs hs v → Fares bs (es ++ hs) v
  fares_behind es hs a (Goes c) h = (marked_then a h.0, h.1)
  fares_behind es hs a (Ends e s) h = (marked_then a h.0, h.1)
  fares_behind es hs a Sticks h = tt
  fares_behind {bs = bs} es hs a (Tells ks v) h = subst (λ js. Fares bs js v) (sym (append_assoc es hs ks)) (fares_behind es (hs ++ ks) a v h)
  fares_behind es hs a (Turns s v) h = ((marked_then a h.0.0, h.0.1), fares_behind es hs a v h.1)

  -- after a change of the memory
  pub from : {m m1 : Memory} {v : Move} → Marked m.objects [] m1.objects → Good m1 v → Good m v
  from {v = v} a h = record { law = fares_behind [] [] a v h.law }

  pub goes : (m : Memory) (c : Config) → Marked m.objects [] c.state.memory.objects → (Sure.sure → Kept Sure c) → Good m (Goes c)
  goes m c a h = record { law = (a, h) }

  pub ends : (m : Memory) (e : Ending) (s : State) → Marked m.objects [] s.memory.objects → (Sure.sure → Over Sure.asks s.memory) → Good m (Ends e s)
  ends m e s a h = record { law = (a, h) }

  pub sticks : {m : Memory} → Good m Sticks
  sticks = record { law = tt }

  pub turning : (m : Memory) (s : State) {v : Move} → Marked m.objects [] s.memory.objects → (Sure.sure → Over Sure.asks s.memory) → Good m v → Good m (Turns s v)
  turning m s a r h = record { law = ((a, r), h.law) }

  -- after events that tell of no object
  pub tells_silent : (m : Memory) (es : List Event) {v : Move} → Silent es → Good m v → Good m (Tells es v)
  tells_silent m es {v = v} q h = record { law = fares_nil m.objects es v (fares_behind es [] (silent_marks m.objects q) v h.law) }

  pub tells_marked : {m m1 : Memory} (es : List Event) {v : Move} → Marked m.objects es m1.objects → Good m1 v → Good m (Tells es v)
  tells_marked {m = m} es {v = v} a h = record { law = fares_nil m.objects es v (fares_behind es [] a v h.law) }

  pub either : {m : Memory} {v w : Move} (b : Bool) → Good m v → Good m w → Good m (if b then v else w)
  either true a c = a
  either false a c = c

  silent_error : (e : Error) → Silent (Raised e.number ∷ [])
  silent_error e = record { no_end = λ f o. refl; none_made = λ f o. refl }

  -- an error is raised
  pub raises : {fl : List Bool} (e : Error) (st : List Slot) (bs : List Back) (s : State) → (Sure.sure → Here Sure fl s.memory st bs) → Good s.memory (raised e bs s)
  raises e st bs s h =
      turning s.memory s (unmarked s.memory.objects) (λ x. over_here (h x))
      (tells_silent s.memory (Raised e.number ∷ []) (silent_error e)
      (goes s.memory (failing e bs (turned s)) (unmarked s.memory.objects) (λ x. record { ready = (h x).ready; tight = (h x).tight; standing = (h x).calls })))

  -- what the statement held waits, and nothing is on the stack
  lets_ready : (m : Memory) → (top m).pending ≡ [] → Ready Sure.asks m → Ready Sure.asks (let_held m)
  lets_ready m e r = record {
    live = λ o lt. r.live o (let g = held_waits m in omega (arith, g.more r.ordered o, lt));
    ordered = (held_waits m).ordered r.ordered;
    bare = (bare_first Sure.asks m.frames r.bare, bare_rest Sure.asks m.frames r.bare);
    lent = (subst (λ qs. Paths (reach Sure.asks (let_held m)) qs) (sym e) tt, lent_rest Sure.asks m.frames r.lent);
  }

  lets_tight : (m : Memory) → Ready Sure.asks m → Tight m → Tight (let_held m)
  lets_tight m r t = record { referred = λ o p. (let g = held_waits m in omega (arith, g.more r.ordered o, t.referred o p)) }

  lets_calls : (m : Memory) (bs : List Back) → Calls Sure m.frames bs → Calls Sure (let_held m).frames bs
  lets_calls m bs h = calls_top Sure m (record (top m) { held = [] }) bs refl (λ e. refl) h

  pub lets_good : {fl : List Bool} (after : After) (st : List Slot) (bs : List Back) (s : State) → (Sure.sure → Here Sure fl s.memory st bs) → (Sure.sure → (top s.memory).pending ≡ []) → ((m : Memory) → (top m).pending ≡ [] → Calls Sure m.frames bs → Rest Sure after m.frames bs) → Good s.memory (lets after bs s)
  lets_good after st bs s h e a =
      goes s.memory (letting (length (top s.memory).held) after bs (with_memory s (let_held s.memory))) (unmarked s.memory.objects) (λ x. record {
        ready = lets_ready s.memory (e x) (h x).ready;
        tight = lets_tight s.memory (h x).ready (h x).tight;
        standing = a (let_held s.memory) (e x) (lets_calls s.memory bs (h x).calls);
      })

  bare_empty : (hs : Reach) (xs : List Slot) → BareSlots hs xs → BareSlots hs (without_values xs)
  bare_empty hs [] h = tt
  bare_empty hs (value v ∷ xs) h = bare_empty hs xs h
  bare_empty hs (path q ∷ xs) h = (h.0, bare_empty hs xs h.1)

  bare_result : (hs : Reach) (xs : List Slot) → BareSlots hs xs → BareSlots hs (but_result xs)
  bare_result hs [] h = tt
  bare_result hs (value v ∷ xs) h = bare_empty hs xs h
  bare_result hs (path q ∷ xs) h = (h.0, bare_empty hs xs h.1)

  bare_emptied : (hs : Reach) (f : Frame) → BareSlots hs f.slots → BareSlots hs (emptied f).slots
  bare_emptied hs f h = by_test f.called where
    by_test : (b : Bool) → BareSlots hs (if b then but_result f.slots else without_values f.slots)
    by_test true = bare_result hs f.slots h
    by_test false = bare_empty hs f.slots h

  no_values : (o : ℕ) (xs : List Slot) → times o (objects_in_slots (without_values xs)) ≡ 0
  no_values o [] = refl
  no_values o (value v ∷ xs) = no_values o xs
  no_values o (path p ∷ xs) = no_values o xs

  -- the result alone, or Me, is left in a frame that is emptied
  spent_result : (o : ℕ) (xs : List Slot) → times o (objects_in_slots (but_result xs)) ≡ times o (objects_in (value_or_empty (value_in (slice_get (but_result xs) 0))))
  spent_result o [] = refl
  spent_result o (value v ∷ xs) = omega (arith, no_values o xs, times-append o (objects_in v) (objects_in_slots (without_values xs)))
  spent_result o (path q ∷ xs) = no_values o xs

  spent_emptied : (f : Frame) → Spent (emptied f)
  spent_emptied f = record { left = λ o. by_test o f.called } where
    by_test : (o : ℕ) (b : Bool)
        → times o (objects_in_slots (if b then but_result f.slots else without_values f.slots)) + 0 + times o (objects_in (if b then empty else f.me)) + 0
        ≡ times o (if b then objects_in (value_or_empty (value_in (slice_get (if b then but_result f.slots else without_values f.slots) 0))) else objects_in (if b then empty else f.me))
    by_test o true = omega (arith, spent_result o f.slots)
    by_test o false = omega (arith, no_values o f.slots)

  lets_all_ready : (m : Memory) → (top m).pending ≡ [] → Ready Sure.asks m → Ready Sure.asks (let_frame m)
  lets_all_ready m e r = record {
    live = λ o lt. r.live o (let g = frame_waits m in omega (arith, g.more r.ordered o, lt));
    ordered = (frame_waits m).ordered r.ordered;
    bare = ((bare_emptied (under Sure.asks (roots_of (rest m.frames)) (low m)) (top m) (bare_first Sure.asks m.frames r.bare).0, tt, (bare_first Sure.asks m.frames r.bare).2), bare_rest Sure.asks m.frames r.bare);
    lent = (subst (λ qs. Paths (reach Sure.asks (let_frame m)) qs) (sym e) tt, lent_rest Sure.asks m.frames r.lent);
  }

  lets_all_tight : (m : Memory) → Ready Sure.asks m → Tight m → Tight (let_frame m)
  lets_all_tight m r t = record { referred = λ o p. (let g = frame_waits m in omega (arith, g.more r.ordered o, t.referred o p)) }

  lets_all_calls : (m : Memory) (bs : List Back) → Calls Sure m.frames bs → Calls Sure (let_frame m).frames bs
  lets_all_calls m bs h = calls_top Sure m (emptied (top m)) bs refl (λ e. ap (λ b. if b then empty else (top m).me) (sym e)) h

  pub lets_all_good : {fl : List Bool} (after : After) (st : List Slot) (bs : List Back) (s : State) → (Sure.sure → Here Sure fl s.memory st bs) → (Sure.sure → (top s.memory).pending ≡ []) → ((m : Memory) → Calls Sure m.frames bs → Spent (top m) → Rest Sure after m.frames bs) → Good s.memory (lets_all after bs s)
  lets_all_good after st bs s h e a =
      goes s.memory (letting (length (held_by (top s.memory))) after bs (with_memory s (let_frame s.memory))) (unmarked s.memory.objects) (λ x. record {
        ready = lets_all_ready s.memory (e x) (h x).ready;
        tight = lets_all_tight s.memory (h x).ready (h x).tight;
        standing = a (let_frame s.memory) (lets_all_calls s.memory bs (h x).calls) (spent_emptied (top s.memory));
      })

  finishes_good : {fl : List Bool} (to : ℕ) (st : List Slot) (bs : List Back) (s : State) → (Sure.sure → Here Sure fl s.memory st bs) → Good s.memory (finishes to bs s)
  finishes_good to st bs s h =
      let l = unlent_later Sure s.memory in from l.marks (lets_good (Goes-on to) st bs (with_memory s (unlent s.memory)) (λ x. near_here (l.near x) (h x)) (λ x. refl) (λ m e c. (c, e)))

  -- ---- effects

  done_fares : {fl : List Bool} {A : Type 0} (Q : Memory → A → Type 0) (go : A → State → Move) (es : List Event) (e : Effect A) (st : List Slot) (bs : List Back) (s : State) → (Sure.sure → Here Sure fl s.memory st bs) → Comes Sure Q s.memory es e
      → ((v : A) (s1 : State) → (Sure.sure → Here Sure fl s1.memory st bs) → (Sure.sure → Near Sure.asks s.memory s1.memory) → (Sure.sure → Q s1.memory v) → Good s1.memory (go v s1)) → Fares s.memory.objects es (done_then e bs s go)
  done_fares Q go es (Fine v m1) st bs s h a k =
      fares_nil s.memory.objects es (go v (with_memory s m1)) (fares_behind es [] a.0.marks (go v (with_memory s m1)) (k v (with_memory s m1) (λ x. near_here (a.0.near x) (h x)) a.0.near a.1).law)
  done_fares Q go es (Bad-at n m1) st bs s h a k =
      let v : Move = raised (error_here n m1) bs (with_memory s m1) in
      fares_nil s.memory.objects es v (fares_behind es [] a.marks v (raises (error_here n m1) st bs (with_memory s m1) (λ x. near_here (a.near x) (h x))).law)
  done_fares Q go es (Out w m1) st bs s h a k = (a.marks, λ x. over_here (near_here (a.near x) (h x)))
  done_fares Q go es (Tell hs e) st bs s h a k = done_fares Q go (es ++ hs) e st bs s h a k

  pub does : {fl : List Bool} {A : Type 0} {Q : Memory → A → Type 0} {e : Effect A} {go : A → State → Move} (st : List Slot) (bs : List Back) (s : State) → (Sure.sure → Here Sure fl s.memory st bs) → Safe Sure Q s.memory e
      → ((v : A) (s1 : State) → (Sure.sure → Here Sure fl s1.memory st bs) → (Sure.sure → Near Sure.asks s.memory s1.memory) → (Sure.sure → Q s1.memory v) → Good s1.memory (go v s1)) → Good s.memory (done_then e bs s go)
  does {Q = Q} {e = e} {go = go} st bs s h a k = record { law = done_fares Q go [] e st bs s h a.law k }

  -- what comes next, by what an effect gives
  pub on : {fl : List Bool} (pc : ℕ) → (Sure.sure → Inside Sure pc fl) → (st : List Slot) (bs : List Back) (s : State) → (Sure.sure → Here Sure fl s.memory st bs) → Good s.memory (Goes (at pc st bs s))
  on pc l st bs s h =
      goes s.memory (at pc st bs s) (unmarked s.memory.objects) (λ x. record { ready = (h x).ready; tight = (h x).tight; standing = ((h x).stack, (h x).calls, λ e. absurd (omega (arith, (l x).behind, e)), (l x).firm (block_reach Sure.asks s.memory) st (h x).firm) })

  -- a statement begins, or the procedure ends, where nothing is lent
  pub lands : {fl : List Bool} (pc : ℕ) (bs : List Back) (s : State) → (Sure.sure → Here Sure fl s.memory [] bs) → (Sure.sure → (top s.memory).pending ≡ []) → Good s.memory (Goes (at pc [] bs s))
  lands pc bs s h e = goes s.memory (at pc [] bs s) (unmarked s.memory.objects) (λ x. record { ready = (h x).ready; tight = (h x).tight; standing = (tt, (h x).calls, λ k. e x, tt) })

  pushes : {fl : List Bool} {m : Memory} (pc : ℕ) → (Sure.sure → Inside Sure pc (false ∷ fl)) → (st : List Slot) (bs : List Back) (v : Val) (s : State) → (Sure.sure → Here Sure fl s.memory st bs) → (Sure.sure → Near Sure.asks m s.memory) → (Sure.sure → Given s.memory v) → Good s.memory (then_push pc st bs v s)
  pushes pc l st bs v s h n q = on pc l (value v ∷ st) bs s (λ x. pushed_on (q x) (h x))

  pushes_path : {fl : List Bool} {m : Memory} (pc : ℕ) → (Sure.sure → Inside Sure pc (false ∷ fl)) → (st : List Slot) (bs : List Back) (p : Path) (s : State) → (Sure.sure → Here Sure fl s.memory st bs) → (Sure.sure → Near Sure.asks m s.memory) → (Sure.sure → GivenPath Sure.asks s.memory p) → Good s.memory (then_push_path pc st bs p s)
  pushes_path pc l st bs p s h n q = on pc l (path p ∷ st) bs s (λ x. pushed_on (q x) (h x))

  -- one that stays as long as the frame, and one that leads on from another
  stays_there : {fl : List Bool} {m : Memory} (pc : ℕ) → (Sure.sure → Inside Sure pc (true ∷ fl)) → (st : List Slot) (bs : List Back) (p : Path) (s : State) → (Sure.sure → Here Sure fl s.memory st bs) → (Sure.sure → Near Sure.asks m s.memory)
      → (Sure.sure → Staying Sure.asks s.memory p) → Good s.memory (then_push_path pc st bs p s)
  stays_there pc l st bs p s h n q = on pc l (path p ∷ st) bs s (λ x. pushed_firm true (q x).0 (q x).1 (h x))

  leads_firm : (b : Bool) (hs : Reach) (q p : Path) → FirmBy b hs (path q) → (StaysIn hs q.root → StaysIn hs p.root) → FirmBy b hs (path p)
  leads_firm true hs q p f g = g f
  leads_firm false hs q p f g = tt

  leads : {fl : List Bool} {m : Memory} (b : Bool) (q : Path) → (Sure.sure → FirmBy b (block_reach Sure.asks m) (path q)) → (pc : ℕ) → (Sure.sure → Inside Sure pc (b ∷ fl)) → (st : List Slot) (bs : List Back) (p : Path) (s : State)
      → (Sure.sure → Here Sure fl s.memory st bs) → (Sure.sure → Near Sure.asks m s.memory) → (Sure.sure → LeadsOn Sure.asks q s.memory p) → Good s.memory (then_push_path pc st bs p s)
  leads b q f pc l st bs p s h n g =
      on pc l (path p ∷ st) bs s (λ x. pushed_firm b (g x).0 (leads_firm b (block_reach Sure.asks s.memory) q p (subst (λ r. FirmBy b r (path q)) (sym (near_block (n x))) (f x)) (g x).1) (h x))

  -- references wait, and the statement goes on
  lets_go : {fl : List Bool} (pc : ℕ) → (Sure.sure → Inside Sure pc fl) → (st : List Slot) (bs : List Back) (k : ℕ) (s : State) → (Sure.sure → Here Sure fl s.memory st bs) → Good s.memory (then_let_go pc st bs k s)
  lets_go pc l st bs k s h = goes s.memory (letting k (Back-to pc st) bs s) (unmarked s.memory.objects) (λ x. record { ready = (h x).ready; tight = (h x).tight; standing = ((h x).calls, tt, ((l x).behind, (h x).stack, (l x).firm (block_reach Sure.asks s.memory) st (h x).firm)) })

  -- a test is on the stack, or tells where to go on
  tests : {fl : List Bool} (pc : ℕ) → (Sure.sure → Inside Sure pc (false ∷ fl)) → (st : List Slot) (bs : List Back) (b : Bool) (s : State) → (Sure.sure → Here Sure fl s.memory st bs) → Good s.memory (then_test pc st bs b s)
  tests pc l st bs b s h = on pc l (value (boolean b) ∷ st) bs s (λ x. pushed_on (none_in (top s.memory).held) (h x))

  jumps : {fl : List Bool} (to pc : ℕ) → (Sure.sure → Inside Sure pc fl) → (st : List Slot) (bs : List Back) (b : Bool) (s : State) → (Sure.sure → Here Sure fl s.memory st bs) → Good s.memory (then_jump to pc st bs b s)
  jumps to pc l st bs b s h = either b (finishes_good to st bs s h) (on pc l st bs s h)

  -- ---- operands

  on_value : {fl : List Bool} {m : Memory} {bs : List Back} {go : Val → List Slot → Move} (st : List Slot) → (Sure.sure → Here Sure fl m st bs) → ((v : Val) (st1 : List Slot) → (Sure.sure → Here Sure (rest fl) m st1 bs) → (Sure.sure → Given m v) → Good m (go v st1)) → Good m (pops st go)
  on_value [] h k = sticks
  on_value (value v ∷ st) h k = k v st (λ x. popped (h x)) (λ x. (h x).stack.0)
  on_value (path p ∷ st) h k = sticks

  on_path : {fl : List Bool} {m : Memory} {bs : List Back} {go : Path → List Slot → Move} (st : List Slot) → (Sure.sure → Here Sure fl m st bs) → ((q : Path) (st1 : List Slot) → (Sure.sure → Here Sure (rest fl) m st1 bs) → (Sure.sure → GivenPath Sure.asks m q) → Good m (go q st1)) → Good m (pops_path st go)
  on_path [] h k = sticks
  on_path (value v ∷ st) h k = sticks
  on_path (path p ∷ st) h k = k p st (λ x. popped (h x)) (λ x. (h x).stack.0)

  -- it may stay
  on_firm : {fl : List Bool} {m : Memory} {bs : List Back} {go : Path → List Slot → Move} (st : List Slot) → (Sure.sure → Here Sure fl m st bs)
      → ((q : Path) (st1 : List Slot) → (Sure.sure → Here Sure (rest fl) m st1 bs) → (Sure.sure → GivenPath Sure.asks m q) → (Sure.sure → FirmBy (flag fl) (block_reach Sure.asks m) (path q)) → Good m (go q st1)) → Good m (pops_path st go)
  on_firm [] h k = sticks
  on_firm (value v ∷ st) h k = sticks
  on_firm (path p ∷ st) h k = k p st (λ x. popped (h x)) (λ x. (h x).stack.0) (λ x. (h x).firm.0)

  on_args : {fl : List Bool} {m : Memory} {bs : List Back} {go : List Slot → List Slot → Move} (n : ℕ) (st xs : List Slot) → (Sure.sure → Here Sure fl m st bs) → (Sure.sure → GivenSlots Sure.asks m xs)
      → ((ys st1 : List Slot) → (Sure.sure → Here Sure (rests n fl) m st1 bs) → (Sure.sure → GivenSlots Sure.asks m ys) → Good m (go ys st1)) → Good m (take_args n st xs go)
  on_args zero st xs h g k = k xs st h g
  on_args (suc n) [] xs h g k = sticks
  on_args (suc n) (x ∷ st) xs h g k = on_args n st (x ∷ xs) (λ y. popped (h y)) (λ y. ((h y).stack.0, g y)) k

  -- so many
  on_count : {fl : List Bool} {m : Memory} {bs : List Back} {go : List Slot → List Slot → Move} (n : ℕ) (st xs : List Slot) → (Sure.sure → Here Sure fl m st bs) → (Sure.sure → GivenSlots Sure.asks m xs)
      → ((ys st1 : List Slot) → (Sure.sure → Here Sure (rests n fl) m st1 bs) → (Sure.sure → GivenSlots Sure.asks m ys) → length ys ≡ n + length xs → Good m (go ys st1)) → Good m (take_args n st xs go)
  on_count zero st xs h g k = k xs st h g (omega arith)
  on_count (suc n) [] xs h g k = sticks
  on_count (suc n) (x ∷ st) xs h g k = on_count n st (x ∷ xs) (λ y. popped (h y)) (λ y. ((h y).stack.0, g y)) (λ ys st1 h1 g1 e. k ys st1 h1 g1 (omega (arith, e)))

  reordered_length : (order : List ℕ) (xs : List Slot) → length (reordered order xs) ≡ length order
  reordered_length [] xs = refl
  reordered_length (i ∷ order) xs = ap suc (reordered_length order xs)

  -- what parameters have
  received_in : (hs : Reach) (x : Slot) → SlotIn hs x → SlotIn hs (received x)
  received_in hs (value v) h = h
  received_in hs (path q) h = by_root q.root q.steps q.of q.bounded q.makes h where
    by_root : (root : Root) (steps : List Step) (of : Declared) (bounded : Bool) (makes : Option ℕ) → RootIn hs root
        → SlotIn hs (received (path (record { root = root; steps = steps; of = of; bounded = bounded; makes = makes })))
    by_root (in_object o) steps of bounded makes h = record { at = λ n lt. absurd (omega (arith, ap (times n) h, lt)) }
    by_root (in_item v) steps of bounded makes h = record { at = λ n lt. h.at n (item_inside n v steps lt) }
    by_root (in_frame k x) steps of bounded makes h = h
    by_root (in_project x) steps of bounded makes h = tt
    by_root (in_fields o i) steps of bounded makes h = h
    by_root (in_block k i) steps of bounded makes h = h

  pub all_received : (hs : Reach) (xs : List Slot) → Slots hs xs → Slots hs (map received xs)
  all_received hs [] h = tt
  all_received hs (x ∷ xs) h = (received_in hs x h.0, all_received hs xs h.1)

  -- none of them is an item of a Collection
  bare_received : (hs : Reach) (x : Slot) (xs : List Slot) → SlotIn hs x → BareSlots (under hs.asks hs.roots hs.floor) xs → BareSlots (under hs.asks hs.roots hs.floor) (received x ∷ xs)
  bare_received hs (value v) xs i h = h
  bare_received hs (path q) xs i h = by_root q.root q.steps q.of q.bounded q.makes i where
    by_root : (root : Root) (steps : List Step) (of : Declared) (bounded : Bool) (makes : Option ℕ) → RootIn hs root
        → BareSlots (under hs.asks hs.roots hs.floor) (received (path (record { root = root; steps = steps; of = of; bounded = bounded; makes = makes })) ∷ xs)
    by_root (in_object o) steps of bounded makes i = h
    by_root (in_item v) steps of bounded makes i = h
    by_root (in_frame k x) steps of bounded makes i = (i, h)
    by_root (in_project x) steps of bounded makes i = (tt, h)
    by_root (in_fields o f) steps of bounded makes i = (i, h)
    by_root (in_block k f) steps of bounded makes i = (i, h)

  all_bare : (hs : Reach) (xs : List Slot) → Slots hs xs → BareSlots (under hs.asks hs.roots hs.floor) (map received xs)
  all_bare hs [] h = tt
  all_bare hs (x ∷ xs) h = bare_received hs x (map received xs) h.0 (all_bare hs xs h.1)

  values_bare : (hs : Reach) (vs : List Val) (xs : List Slot) → BareSlots hs xs → BareSlots hs (map value vs ++ xs)
  values_bare hs [] xs h = h
  values_bare hs (v ∷ vs) xs h = values_bare hs vs xs h

  bare_more : {hs ks : Reach} → Wider hs ks → (xs : List Slot) → BareSlots hs xs → BareSlots ks xs
  bare_more w [] h = tt
  bare_more w (value v ∷ xs) h = bare_more w xs h
  bare_more w (path q ∷ xs) h = (root_more w q.root h.0, bare_more w xs h.1)

  -- ---- calls

  -- what a call's variables, parameters and Me refer to is there
  slots_there : (bs : List (Option Object)) (hs : Reach) (xs : List Slot) → AllThere bs hs.held → Slots hs xs → AllThere bs (objects_in_slots xs)
  slots_there bs hs [] h g o lt = absurd (omega (arith, lt))
  slots_there bs hs (value v ∷ xs) h g o lt =
      either_of (times o (objects_in v)) (times o (objects_in_slots xs)) (omega (arith, times-append o (objects_in v) (objects_in_slots xs), lt)) (λ a. h o (g.0.at o a)) (slots_there bs hs xs h g.1 o)
  slots_there bs hs (path q ∷ xs) h g o lt = slots_there bs hs xs h g.1 o lt

  free_slots : (d : Declarations) (o : ℕ) (ds : List Declaration) (xs : List Slot) → times o (objects_in_slots (map value (first_values d ds) ++ xs)) ≡ times o (objects_in_slots xs)
  free_slots d o [] xs = refl
  free_slots d o (x ∷ ds) xs = omega (arith, free_slots d o ds xs, times-append o (objects_in (first_value d x)) (objects_in_slots (map value (first_values d ds) ++ xs)), ap (times o) (field_initial_free (types_of d) (field_of x)))

  bare_calling : (xs : List Slot) (fs : List Frame) → BareFrames Sure.asks fs → BareFrames Sure.asks (calling xs fs)
  bare_calling xs [] h = tt
  bare_calling xs (f ∷ fs) h = h

  -- the places that a call takes over are lent no more
  without_lent : (hs : Reach) (xs : List Slot) (qs : List Path) → Paths hs qs → Paths hs (without_paths xs qs)
  without_lent hs [] qs h = h
  without_lent hs (value v ∷ xs) qs h = without_lent hs xs qs h
  without_lent hs (path p ∷ xs) [] h = without_lent hs xs [] tt
  without_lent hs (path p ∷ xs) (q ∷ qs) h = without_lent hs xs qs h.1

  lent_calling : (xs : List Slot) (fs : List Frame) → LentFrames Sure.asks fs → LentFrames Sure.asks (calling xs fs)
  lent_calling xs [] h = tt
  lent_calling xs (f ∷ fs) h = (without_lent (reach_of Sure.asks (f ∷ fs)) xs f.pending h.0, h.1)

  entered_ready : (d : Declarations) (called : Bool) (p : ℕ) (me : Val) (xs : List Slot) (hs : Reach) (m : Memory) → Ready Sure.asks m → AllThere m.objects (objects_in me) → AllThere m.objects hs.held → Slots hs xs
      → hs.floor ≡ floor_of (called ∷ calleds m.frames) → (Sure.asks ≡ hs.asks) × In hs.roots (roots_of m.frames) → Ready Sure.asks (entered d called p me xs m)
  entered_ready d called p me xs hs m r i a g l k =
      let grows = entered_grows d called p me xs m in
      let x : Procedure = procedure_at d p in
      let own = map value (first_values d x.locals) ++ map received xs in
      let floor : hs.floor ≡ floor_of (called ∷ calleds (calling xs m.frames)) = l ∙ ap (λ bs. floor_of (called ∷ bs)) (sym (calleds_calling xs m.frames)) in
      let wide : Wider (under hs.asks hs.roots hs.floor) (under Sure.asks (roots_of (calling xs m.frames)) (floor_of (called ∷ calleds (calling xs m.frames)))) =
      record { asks = k.0; held = none_in []; roots = subst (λ os. In hs.roots os) (sym (roots_calling xs m.frames)) k.1; floor = omega (arith, floor) } in
      record {
        live = λ o lt. either_of (looks m o) (times o (entered_gains d p me xs)) (omega (arith, grows.more r.ordered o, lt)) (r.live o) (λ b.
            either_of (times o (objects_in_slots (own_slots d x ++ map received xs))) (times o (objects_in me)) (omega (arith, times-append o (objects_in_slots (own_slots d x ++ map received xs)) (objects_in me), b))
            (λ c. slots_there m.objects hs (map received xs) a (all_received hs xs g) o
            (omega (arith, free_slots d o x.locals (map received xs), times-append o (objects_in (first_value d x.result)) (objects_in_slots own), ap (times o) (field_initial_free (types_of d) (field_of x.result)), c))) (i o));
        ordered = grows.ordered r.ordered;
        bare = ((bare_more wide own (values_bare (under hs.asks hs.roots hs.floor) (first_values d x.locals) (map received xs) (all_bare hs xs g)), tt, tt), bare_calling xs m.frames r.bare);
        lent = (tt, lent_calling xs m.frames r.lent);
      }

  entered_tight : (d : Declarations) (called : Bool) (p : ℕ) (me : Val) (xs : List Slot) (m : Memory) → Ready Sure.asks m → ((o : ℕ) → Present m.objects o → 0 < looks m o + times o (objects_in me)) → Tight (entered d called p me xs m)
  entered_tight d called p me xs m r t =
      let grows = entered_grows d called p me xs m in
      let gs = objects_in_slots (own_slots d (procedure_at d p) ++ map received xs) in
      record { referred = λ o h. omega (arith, grows.more r.ordered o, times-append o gs (objects_in me), t o h) }

  module _ (code : Code) (bare : Sure.sure → (p : ℕ) → Bare (parameters_of code.declared p)) where
    -- a procedure is entered, and returns to what waits below
    pub enters_good : (called : Bool) (p : ℕ) (me : Val) (xs : List Slot) (bs : List Back) (s : State) (hs : Sure.sure → Reach) → (Sure.sure → Ready Sure.asks s.memory) → (Sure.sure → AllThere s.memory.objects (objects_in me))
        → ((x : Sure.sure) → AllThere s.memory.objects (hs x).held) → ((x : Sure.sure) → Slots (hs x) xs) → ((x : Sure.sure) → (hs x).floor ≡ floor_of (called ∷ calleds s.memory.frames)) → ((x : Sure.sure) → (Sure.asks ≡ (hs x).asks) × In (hs x).roots (roots_of s.memory.frames))
        → (Sure.sure → (o : ℕ) → Present s.memory.objects o → 0 < looks s.memory o + times o (objects_in me)) → (Sure.sure → Calls Sure (entered code.declared called p me xs s.memory).frames bs)
        → Good s.memory (enters code called p me xs bs s)
    enters_good called p me xs bs s hs r i a g l k t b =
        let s1 : State = with_memory s (entered code.declared called p me xs s.memory) in
        let ready : Sure.sure → Ready Sure.asks s1.memory = λ x. entered_ready code.declared called p me xs (hs x) s.memory (r x) (i x) (a x) (g x) (l x) (k x) in
        let tight : Sure.sure → Tight s1.memory = λ x. entered_tight code.declared called p me xs s.memory (r x) (t x) in
        turning s.memory s1 (unmarked s.memory.objects) (λ x. over_ready (ready x) (tight x))
        (goes s.memory (at (slice_index code.starts p) [] bs (turned s1)) (unmarked s.memory.objects) (λ x. record { ready = ready x; tight = tight x; standing = (tt, b x, λ e. refl, tt) }))

    -- inside a statement, whose operands wait
    returns_calling : (xs : List Slot) (fs : List Frame) (b : Back) → ReturnsIn Sure fs b → ReturnsIn Sure (calling xs fs) b
    returns_calling xs [] b h = h
    returns_calling xs (f ∷ fs) b h = h

    enters_from : {fl : List Bool} (p : ℕ) (me : Val) (xs : List Slot) (back : Back) (st : List Slot) (bs : List Back) (s : State) → (Sure.sure → Here Sure fl s.memory st bs) → (Sure.sure → AllThere s.memory.objects (objects_in me)) → (Sure.sure → GivenSlots Sure.asks s.memory xs)
        → IsCall back → (Sure.sure → ReturnsIn Sure s.memory.frames back) → {full : Move} → Good s.memory full → Good s.memory (enter_by code true p me xs (back ∷ bs) s full)
    enters_from p me xs back st bs s h i g is b full =
        either (nat_lt (length s.memory.frames) 2000)
        (enters_good true p me xs (back ∷ bs) s (λ x. reach Sure.asks s.memory) (λ x. (h x).ready) i (λ x. held_there (h x).ready (in_self (top s.memory).held)) g (λ x. sym (floor_frames s.memory.frames))
        (λ x. (refl, subst (λ os. In (reach Sure.asks s.memory).roots os) (sym (roots_frames Sure.asks s.memory.frames)) (in_self (reach Sure.asks s.memory).roots)))
        (λ x o t. omega (arith, (h x).tight.referred o t)) (λ x. from_here (h x) (b x))) full
      where
        from_here : {fl : List Bool} → Here Sure fl s.memory st bs → ReturnsIn Sure s.memory.frames back → Calls Sure (entered code.declared true p me xs s.memory).frames (back ∷ bs)
        from_here y k =
            call_by Sure (first_or (entered code.declared true p me xs s.memory).frames) (calling xs s.memory.frames) bs back (Calls Sure (calling xs s.memory.frames) bs) is refl
            (returns_calling xs s.memory.frames back k) (calls_calling Sure xs s.memory.frames bs y.calls)

    calls_good : {fl : List Bool} (p : ℕ) (me : Val) (xs : List Slot) (pc : ℕ) → (Sure.sure → Inside Sure pc (false ∷ fl)) → (st : List Slot) (bs : List Back) (s : State) → (Sure.sure → Here Sure fl s.memory st bs) → (Sure.sure → Given s.memory me) → (Sure.sure → GivenSlots Sure.asks s.memory xs) → Good s.memory (calls code p me xs pc st bs s)
    calls_good p me xs pc l st bs s h i g =
        enters_from p me xs (Caller pc st) st bs s h (λ x. held_there (h x).ready (i x)) g tt (λ x. ((l x).behind, (h x).stack, waits_firm (block_reach Sure.asks s.memory) st (l x) (h x).firm)) (raises (error_here 28 s.memory) st bs s h)

    -- ---- events

    lent_more : (hs : Reach) (xs : List Slot) (qs : List Path) → Slots hs xs → Paths hs qs → Paths hs (paths_in_slots xs ++ qs)
    lent_more hs [] qs h g = g
    lent_more hs (value v ∷ xs) qs h g = lent_more hs xs qs h.1 g
    lent_more hs (path p ∷ xs) qs h g = (h.0, lent_more hs xs qs h.1 g)

    lent_again_later : (xs : List Slot) (m : Memory) → (Sure.sure → GivenSlots Sure.asks m xs) → Later Sure m [] (lent_again xs m)
    lent_again_later xs m g =
        unseen Sure m (record (top m) { pending = paths_in_slots xs ++ (top m).pending }) (λ h. h) (λ o. refl) (in_self (top m).held) (λ s b. b) refl refl
        (λ s a k. lent_more (reach Sure.asks m) xs (top m).pending (g s) k)

    raise_over_later : (xs : List Slot) (m : Memory) → Later Sure m [] (raise_over xs m)
    raise_over_later xs m =
        unseen Sure m (record (top m) { pending = without_paths xs (top m).pending }) (λ h. h) (λ o. refl) (in_self (top m).held) (λ s b. b) refl refl
        (λ s a k. without_lent (reach Sure.asks m) xs (top m).pending k)

    handler_good : {fl : List Bool} (o : Option ℕ) (e : ℕ) (xs : List Slot) (l : Linked) (ls : List Linked) (pc : ℕ) → (Sure.sure → Inside Sure pc fl) → (st : List Slot) (bs : List Back) (s : State) {more : Move} → due code.declared e l s.memory ≡ o → (Sure.sure → Here Sure fl s.memory st bs) → (Sure.sure → GivenSlots Sure.asks s.memory xs)
        → Good s.memory more → Good s.memory (calls_handler code e xs l ls o pc st bs s more)
    handler_good None e xs l ls pc a st bs s is h g k = k
    handler_good {fl = fl} (Some p) e xs l ls pc a st bs s is h g k =
        let s1 : State = with_memory s (lent_again xs s.memory) in
        let n = lent_again_later xs s.memory g in
        let h1 : Sure.sure → Here Sure fl s1.memory st bs = λ x. near_here (n.near x) (h x) in
        from n.marks
        (enters_from p (object (Heap l.sink)) xs (Delivering e xs ls pc st) st bs s1 h1 (λ x. alone_there s.memory.objects l.sink.0 (due_there code.declared e l s.memory p is)) g tt (λ x. ((a x).behind, g x, (h1 x).stack, (a x).firm (block_reach Sure.asks s1.memory) st (h1 x).firm))
        (raises (error_here 28 s1.memory) st bs s1 h1))

    pub delivers_good : {fl : List Bool} (e : ℕ) (xs : List Slot) (ls : List Linked) (pc : ℕ) → (Sure.sure → Inside Sure pc fl) → (st : List Slot) (bs : List Back) (s : State) → (Sure.sure → Here Sure fl s.memory st bs) → (Sure.sure → GivenSlots Sure.asks s.memory xs) → Good s.memory (delivers code e xs ls pc st bs s)
    delivers_good e xs [] pc a st bs s h g =
        let n = raise_over_later xs s.memory in from n.marks (on pc a st bs (with_memory s (raise_over xs s.memory)) (λ x. near_here (n.near x) (h x)))
    delivers_good e xs (l ∷ ls) pc a st bs s h g = handler_good (due code.declared e l s.memory) e xs l ls pc a st bs s refl h g (delivers_good e xs ls pc a st bs s h g)

    change_good : {fl : List Bool} (o : Option Area) (pc : ℕ) → (Sure.sure → Inside Sure pc fl) → (st : List Slot) (bs : List Back) (s : State) → (Sure.sure → Here Sure fl s.memory st bs) → Good s.memory (tells_change code o pc st bs s)
    change_good None pc l st bs s h = on pc l st bs s h
    change_good (Some a) pc l st bs s h =
        let n : Later Sure s.memory [] (no_change s.memory) = outside_later Sure (alike (λ k. k) (λ o. refl)) refl refl in
        from n.marks (delivers_good change (target_of a) (sinks (sheet_of a) s.memory) pc l st bs (with_memory s (no_change s.memory)) (λ x. near_here (n.near x) (h x)) (λ x. (none_in _, tt)))

    -- cells may be written, and then the handlers of Change are called
    writes : {fl : List Bool} {A : Type 0} {Q : Memory → A → Type 0} {e : Effect A} (pc : ℕ) → (Sure.sure → Inside Sure pc fl) → (st : List Slot) (bs : List Back) (s : State) → (Sure.sure → Here Sure fl s.memory st bs) → Safe Sure Q s.memory e → Good s.memory (done_then e bs s (then_changes code pc st bs))
    writes pc l st bs s h a = does st bs s h a (λ v s1 h1 n1 q1. change_good s1.memory.changed pc l st bs s1 h1)

    -- ---- uses of objects

    left_in : (hs : Reach) (b : Bool) (v : Val) → Refers hs.held v → SlotIn hs (left_as b v)
    left_in hs true v h = path_to_in hs v h
    left_in hs false v h = h

    left_firm : (c : Bool) (hs : Reach) (b : Bool) (v : Val) → FirmBy c hs (left_as b v)
    left_firm true hs true v = path_to_stays hs v
    left_firm true hs false v = tt
    left_firm false hs b v = tt

    pub follows_good : {fl : List Bool} {c : Bool} (b : Bool) (k pc : ℕ) → (Sure.sure → Inside Sure pc (c ∷ fl)) → (st : List Slot) (bs : List Back) (n : Next) (s : State) → (Sure.sure → Here Sure fl s.memory st bs) → (Sure.sure → GivenNext Sure.asks s.memory n) → Good s.memory (follows code b k pc st bs n s)
    follows_good {c = c} b k pc l st bs (gives v) s h g = change_good s.memory.changed pc l (left_as b v ∷ st) bs s (λ x. pushed_firm c (left_in (reach Sure.asks s.memory) b v (g x)) (left_firm c (block_reach Sure.asks s.memory) b v) (h x))
    follows_good b zero pc l st bs (then_call p me xs ts) s h g = raises (error_here 450 s.memory) st bs s h
    follows_good b (suc k) pc l st bs (then_call p me xs ts) s h g =
        enters_from p me xs (Within b k ts pc st) st bs s h (λ x. held_there (h x).ready (g x).0) (λ x. (g x).1) tt (λ x. ((l x).behind, (g x).2, (h x).stack, waits_firm (block_reach Sure.asks s.memory) st (l x) (h x).firm)) (raises (error_here 28 s.memory) st bs s h)

    pub use_good : {fl : List Bool} {c : Bool} {e : Effect Next} (b : Bool) (k pc : ℕ) → (Sure.sure → Inside Sure pc (c ∷ fl)) → (st : List Slot) (bs : List Back) (s : State) → (Sure.sure → Here Sure fl s.memory st bs) → Uses Sure s.memory e → Good s.memory (done_then e bs s (follows code b k pc st bs))
    use_good b k pc l st bs s h a = does st bs s h a (λ n s1 h1 n1 q1. follows_good b k pc l st bs n s1 h1 q1)

    initializes_good : {fl : List Bool} (o : Option ℕ) (v : Val) (pc : ℕ) → (Sure.sure → Inside Sure pc (false ∷ false ∷ fl)) → (st : List Slot) (bs : List Back) (s : State) → (Sure.sure → Here Sure fl s.memory st bs) → (Sure.sure → Given s.memory v) → Good s.memory (initializes code o v pc st bs s)
    initializes_good None v pc l st bs s h g = on pc l (value empty ∷ value v ∷ st) bs s (λ x. pushed_on (none_in (top s.memory).held) (pushed_on (g x) (h x)))
    initializes_good (Some p) v pc l st bs s h g = calls_good p v [] pc l (value v ∷ st) bs s (λ x. pushed_on (g x) (h x)) g (λ x. tt)

    member_good : {fl : List Bool} (name : List ℕ) (base begun : Val) (vs : List Val) (pc : ℕ) → (Sure.sure → Inside Sure pc (false ∷ fl)) → (st : List Slot) (bs : List Back) (s : State) → (Sure.sure → Here Sure fl s.memory st bs) → (Sure.sure → Given s.memory base) → (Sure.sure → Given s.memory begun) → (Sure.sure → GivenAll s.memory vs)
        → Good s.memory (uses_member code name base begun vs pc st bs s)
    member_good name base begun vs pc l st bs s h i j g =
        let r : Sure.sure → Ready Sure.asks s.memory = λ x. (h x).ready in
        either (is_raise name base)
        (does st bs s h (error_given_safe Sure vs s.memory) (λ e s1 h1 n1 q1. raises e st bs s1 h1))
        (either (is_counted base)
        (does st bs s h (object_member_safe Sure name vs base s.memory r i g) (λ x s1 h1 n1 q1. lets_go pc l (value x.0 ∷ st) bs x.1 s1 (λ y. pushed_on (q1 y) (h1 y))))
        (does st bs s h (member_called_safe Sure code.declared name vs base begun s.memory r j) (λ v s1 h1 n1 q1. change_good s1.memory.changed pc l (value v ∷ st) bs s1 (λ y. pushed_on (q1 y) (h1 y)))))

    -- ---- instructions

    -- below operands
    base_in : {fl : List Bool} (m : Memory) (i : ℕ) (st : List Slot) (bs : List Back) → Here Sure fl m st bs → Refers (top m).held (base_below i st)
    base_in m i st bs h = value_of_slot (reach Sure.asks m) (slice_index_or st (suc i) (value empty)) (nth_slot (reach Sure.asks m) st (suc i) (value empty) h.stack (none_in (top m).held))

    err_in : (hs : List ℕ) (member : ErrMember) (m : Memory) → Refers hs (err_of code.declared member m.err)
    err_in hs err_number m = none_in hs
    err_in hs err_source m = none_in hs
    err_in hs err_description m = none_in hs

    module _ (plain : Sure.sure → (pc : ℕ) (v : Val) → slice_get code.instrs pc ≡ Some (Push v) → Refers [] v) (leaves : Sure.sure → (pc : ℕ) → slice_get code.instrs pc ≡ Some Leave → pc ≡ 0)
        (typed : Sure.sure → (pc : ℕ) (i : Instr) → slice_get code.instrs pc ≡ Some i → Sure.firm (pc + 1) ≡ passed i (Sure.firm pc))
        (keeps : Sure.sure → (pc i : ℕ) → slice_get code.instrs pc ≡ Some (KeepPath i) → (m : Memory) (q : Path) → FirmBy (flag (Sure.firm pc)) (block_reach Sure.asks m) (path q) → Stays Sure.asks m q) where
      -- behind an instruction
      next : (pc : ℕ) (i : Instr) → slice_get code.instrs pc ≡ Some i → Sure.sure → Inside Sure (pc + 1) (passed i (Sure.firm pc))
      next pc i is x = record { behind = omega arith; firm = λ hs st f. subst (λ gl. Firm hs gl st) (sym (typed x pc i is)) f }

      -- behind one of which nothing is told
      loose : {fl : List Bool} (pc : ℕ) (i : Instr) → slice_get code.instrs pc ≡ Some i → ((gl : List Bool) → passed i gl ≡ []) → Sure.sure → Inside Sure (pc + 1) fl
      loose pc i is e x = record { behind = omega arith; firm = λ hs st f. subst (λ gl. Firm hs gl st) (sym (typed x pc i is ∙ e (Sure.firm pc))) (firm_none hs st) }

      -- the place that a block is to keep stays as long as the frame
      keep_good : (i pc : ℕ) (st : List Slot) (bs : List Back) (s : State) → slice_get code.instrs pc ≡ Some (KeepPath i) → (Sure.sure → Here Sure (Sure.firm pc) s.memory st bs) → Good s.memory (act looking code (Some (KeepPath i)) pc st bs s)
      keep_good i pc st bs s is h =
          on_firm st h (λ q st1 h1 g1 f1.
          does st1 bs s h1 (keep_path_safe Sure i q s.memory (λ x. (h1 x).ready) g1 (λ x. keeps x pc i is s.memory q (f1 x))) (λ u s1 h9 n9 q9. on (pc + 1) (loose pc (KeepPath i) is (λ gl. refl)) st1 bs s1 h9))

      pub act_good : (o : Option Instr) (pc : ℕ) (st : List Slot) (bs : List Back) (s : State) → slice_get code.instrs pc ≡ o → (Sure.sure → Here Sure (Sure.firm pc) s.memory st bs) → (Sure.sure → pc ≡ 0 → (top s.memory).pending ≡ []) → Good s.memory (act looking code o pc st bs s)
      act_good None pc st bs s is h bare-end = sticks
      act_good (Some (Begin i)) pc st bs s is h bare-end =
          let m = s.memory in
          let l : Later Sure m [] (at_statement m i) = unseen Sure m (record (top m) { statement = Some i }) (λ k. k) (λ o. refl) (in_self (top m).held) (λ s b. b) refl refl (λ y a k. paths_more a (top m).pending k) in
          turning m s (unmarked m.objects) (λ x. over_here (h x)) (from l.marks (on (pc + 1) (loose pc (Begin i) is (λ gl. refl)) st bs (with_memory (turned s) (at_statement m i)) (λ x. near_here (l.near x) (h x))))
      act_good (Some (Push v)) pc st bs s is h bare-end = on (pc + 1) (next pc (Push v) is) (value v ∷ st) bs s (λ x. pushed_on (in_then (plain x pc v is) (none_in (top s.memory).held)) (h x))
      act_good (Some (LoadErr member)) pc st bs s is h bare-end = on (pc + 1) (next pc (LoadErr member) is) (value (err_of code.declared member s.memory.err) ∷ st) bs s (λ x. pushed_on (err_in (top s.memory).held member s.memory) (h x))
      act_good (Some (PathOf x)) pc st bs s is h bare-end = on (pc + 1) (next pc (PathOf x) is) (path (path_of s.memory x) ∷ st) bs s (λ y. (let q = path_of_stays Sure s.memory x (λ z. (h z).ready) y in pushed_firm true q.0 q.1 (h y)))
      act_good (Some ReadThrough) pc st bs s is h bare-end = on_path st h (λ q st1 h1 g1. does st1 bs s h1 (read_path_safe Sure q s.memory (λ x. (h1 x).ready) g1) (pushes (pc + 1) (next pc ReadThrough is) st1 bs))
      act_good (Some (ElementOf k)) pc st bs s is h bare-end =
          on_firm st h (λ q st1 h1 g1 f1. on_args k st1 [] h1 (λ x. tt) (λ xs st2 h2 g2. does st2 bs s h2 (place_at_safe Sure q (slot_values xs) s.memory (λ x. (h2 x).ready) g1) (leads (flag (Sure.firm pc)) q f1 (pc + 1) (next pc (ElementOf k) is) st2 bs)))
      act_good (Some (ElementIn k)) pc st bs s is h bare-end =
          on_args k st [] h (λ x. tt) (λ xs st1 h1 g1. on_firm st1 h1 (λ q st2 h2 g2 f2. does st2 bs s h2 (place_at_safe Sure q (slot_values xs) s.memory (λ x. (h2 x).ready) g2) (leads (flag (rests k (Sure.firm pc))) q f2 (pc + 1) (next pc (ElementIn k) is) st2 bs)))
      act_good (Some (FieldOf i of bounded)) pc st bs s is h bare-end =
          on_firm st h (λ q st1 h1 g1 f1. on (pc + 1) (next pc (FieldOf i of bounded) is) (path (field_path q i of bounded) ∷ st1) bs s
          (λ x. pushed_firm (flag (Sure.firm pc)) (g1 x) (leads_firm (flag (Sure.firm pc)) (block_reach Sure.asks s.memory) q (field_path q i of bounded) (f1 x) (λ g. g)) (h1 x)))
      act_good (Some (Dot i)) pc st bs s is h bare-end = does st bs s h (dot_at_safe Sure i s.memory (λ x. (h x).ready)) (stays_there (pc + 1) (next pc (Dot i) is) st bs)
      act_good (Some (Index k)) pc st bs s is h bare-end =
          on_args k st [] h (λ x. tt) (λ xs st1 h1 g1. on_value st1 h1 (λ v st2 h2 g2. does st2 bs s h2 (item_safe Sure v (slot_values xs) s.memory (λ x. (h2 x).ready) g2) (pushes (pc + 1) (next pc (Index k) is) st2 bs)))
      act_good (Some (PartOf i)) pc st bs s is h bare-end = on_value st h (λ v st1 h1 g1. does st1 bs s h1 (part_of_safe Sure i v s.memory (λ x. (h1 x).ready) g1) (pushes (pc + 1) (next pc (PartOf i) is) st1 bs))
      act_good (Some (Operate o compare l r)) pc st bs s is h bare-end =
          on_value st h (λ w st1 h1 g1. on_value st1 h1 (λ v st2 h2 g2. does st2 bs s h2 (operated_safe Sure o compare l r v w s.memory) (pushes (pc + 1) (next pc (Operate o compare l r) is) st2 bs)))
      act_good (Some (OperateAlone o of)) pc st bs s is h bare-end = on_value st h (λ v st1 h1 g1. does st1 bs s h1 (operated_alone_safe Sure o of v s.memory) (pushes (pc + 1) (next pc (OperateAlone o of) is) st1 bs))
      act_good (Some Plain) pc st bs s is h bare-end =
          on_value st h (λ v st1 h1 g1.
          either (is_counted v) (use_good false most_calls (pc + 1) (next pc Plain is) st1 bs s h1 (counted_operand_safe Sure code.declared bare v s.memory (λ x. (h1 x).ready) g1)) (does st1 bs s h1 (plain_safe Sure v s.memory g1) (pushes (pc + 1) (next pc Plain is) st1 bs)))
      act_good (Some (PushHost reference)) pc st bs s is h bare-end = on (pc + 1) (next pc (PushHost reference) is) (value (object (Host reference)) ∷ st) bs s (λ x. pushed_on (none_in (top s.memory).held) (h x))
      act_good (Some FirstSheet) pc st bs s is h bare-end = does st bs s h (first_sheet_safe Sure s.memory) (pushes (pc + 1) (next pc FirstSheet is) st bs)
      act_good (Some (MemberThere name k)) pc st bs s is h bare-end =
          on_value st h (λ v st1 h1 g1. does (value v ∷ st1) bs s (λ x. pushed_on (g1 x) (h1 x)) (member_there_safe Sure code.declared name k v s.memory) (pushes (pc + 1) (next pc (MemberThere name k) is) (value v ∷ st1) bs))
      act_good (Some (MemberOf name k)) pc st bs s is h bare-end =
          on_args k st [] h (λ x. tt) (λ xs st1 h1 g1. on_value st1 h1 (λ w st2 h2 g2. on_value st2 h2 (λ v st3 h3 g3.
          member_good name v w (slot_values xs) (pc + 1) (next pc (MemberOf name k) is) st3 bs s h3 g3 g2 (λ x. values_of_slots (reach Sure.asks s.memory) xs (g1 x)))))
      act_good (Some (NamedThere name how k)) pc st bs s is h bare-end =
          on_value st h (λ v st1 h1 g1. does (value v ∷ st1) bs s (λ x. pushed_on (g1 x) (h1 x)) (named_there_safe Sure name how k v s.memory) (pushes (pc + 1) (next pc (NamedThere name how k) is) (value v ∷ st1) bs))
      act_good (Some (NamedOf name how k)) pc st bs s is h bare-end =
          on_args k st [] h (λ x. tt) (λ xs st1 h1 g1. on_value st1 h1 (λ w st2 h2 g2. on_value st2 h2 (λ v st3 h3 g3.
          member_good name v w (in_parameter_order v name how (slot_values xs)) (pc + 1) (next pc (NamedOf name how k) is) st3 bs s h3 g3 g2 (λ x. in_order_in (top s.memory).held v name how (slot_values xs) (values_of_slots (reach Sure.asks s.memory) xs (g1 x))))))
      act_good (Some (StoreMember name k)) pc st bs s is h bare-end =
          on_args k st [] h (λ x. tt) (λ xs st1 h1 g1. on_value st1 h1 (λ x st2 h2 g2. on_value st2 h2 (λ w st3 h3 g3. on_value st3 h3 (λ v st4 h4 g4.
          writes (pc + 1) (loose pc (StoreMember name k) is (λ gl. refl)) st4 bs s h4 (member_assigned_safe Sure code.declared name (slot_values xs) w x v s.memory (λ y. (h4 y).ready) g2)))))
      act_good (Some PlainIfAny) pc st bs s is h bare-end =
          on_value st h (λ v st1 h1 g1.
          either (is_counted v) (use_good false most_calls (pc + 1) (next pc PlainIfAny is) st1 bs s h1 (counted_if_any_safe Sure code.declared bare v s.memory (λ x. (h1 x).ready) g1)) (does st1 bs s h1 (plain_if_any_safe Sure v s.memory g1) (pushes (pc + 1) (next pc PlainIfAny is) st1 bs)))
      act_good (Some Enumerate) pc st bs s is h bare-end =
          on_value st h (λ v st1 h1 g1. use_good false most_calls (pc + 1) (next pc Enumerate is) st1 bs s h1 (enumerator_safe Sure code.declared bare v s.memory (λ x. (h1 x).ready) g1))
      act_good (Some (FindLate aim name how gs)) pc st bs s is h bare-end =
          on_value st h (λ v st1 h1 g1. use_good false most_calls (pc + 1) (next pc (FindLate aim name how gs) is) (value v ∷ st1) bs s (λ x. pushed_on (g1 x) (h1 x)) (late_there_safe Sure code.declared bare aim name how gs v s.memory (λ x. (h1 x).ready) g1))
      act_good (Some (BindValue aim name how gs i)) pc st bs s is h bare-end =
          on_value st h (λ v st1 h1 g1. use_good false most_calls (pc + 1) (next pc (BindValue aim name how gs i) is) st1 bs s h1 (value_bound_safe Sure code.declared bare aim name how gs i (base_below i st1) v s.memory (λ x. (h1 x).ready) g1))
      act_good (Some (BindPlace aim name how gs i)) pc st bs s is h bare-end =
          on_path st h (λ q st1 h1 g1.
          either (lends_place code.declared aim name how gs i (base_below i st1) q s.memory)
          (does (path q ∷ st1) bs s (λ x. pushed_on (g1 x) (h1 x)) (lent_safe Sure q s.memory g1) (λ u s1 h9 n9 q9. on (pc + 1) (next pc (BindPlace aim name how gs i) is) (path q ∷ st1) bs s1 h9))
          (use_good true most_calls (pc + 1) (next pc (BindPlace aim name how gs i) is) st1 bs s h1 (place_copied_safe Sure code.declared bare aim name how gs i (base_below i st1) q s.memory (λ x. (h1 x).ready) g1)))
      act_good (Some (CallLate name how gs)) pc st bs s is h bare-end =
          on_args (length gs) st [] h (λ x. tt) (λ xs st1 h1 g1. on_value st1 h1 (λ w st2 h2 g2. on_value st2 h2 (λ v st3 h3 g3.
          either (is_instance v s.memory)
          (use_good false most_calls (pc + 1) (next pc (CallLate name how gs) is) st3 bs s h3 (late_called_safe Sure code.declared bare name how gs v w (map received xs) s.memory (λ x. (h3 x).ready) g3 g2 (λ x. all_received (reach Sure.asks s.memory) xs (g1 x))))
          (member_good name v w (host_arguments v name how (map received xs)) (pc + 1) (next pc (CallLate name how gs) is) st3 bs s h3 g3 g2 (λ x. host_arguments_in (reach Sure.asks s.memory) v name how (map received xs) (all_received (reach Sure.asks s.memory) xs (g1 x)))))))
      act_good (Some (LetLate name how gs)) pc st bs s is h bare-end =
          on_args (length gs) st [] h (λ x. tt) (λ xs st1 h1 g1. on_value st1 h1 (λ x st2 h2 g2. on_value st2 h2 (λ w st3 h3 g3. on_value st3 h3 (λ v st4 h4 g4.
          use_good false most_calls (pc + 1) (next pc (LetLate name how gs) is) st4 bs s h4 (late_let_safe Sure code.declared bare name how gs w x (map received xs) v s.memory (λ y. (h4 y).ready) g3 g2 (λ y. all_received (reach Sure.asks s.memory) xs (g1 y)) g4)))))
      act_good (Some (SetLate name how gs)) pc st bs s is h bare-end =
          on_args (length gs) st [] h (λ x. tt) (λ xs st1 h1 g1. on_value st1 h1 (λ x st2 h2 g2. on_value st2 h2 (λ w st3 h3 g3. on_value st3 h3 (λ v st4 h4 g4.
          use_good false most_calls (pc + 1) (next pc (SetLate name how gs) is) st4 bs s h4 (late_set_safe Sure code.declared bare name how gs w x (map received xs) v s.memory (λ y. (h4 y).ready) g3 g2 (λ y. all_received (reach Sure.asks s.memory) xs (g1 y)) g4)))))
      act_good (Some (ItemAlong k)) pc st bs s is h bare-end =
          on_args k st [] h (λ x. tt) (λ xs st1 h1 g1. on_value st1 h1 (λ v st2 h2 g2.
          use_good false most_calls (pc + 1) (next pc (ItemAlong k) is) st2 bs s h2 (index_along_safe Sure code.declared bare most_passed (slot_values xs) v s.memory (λ x. (h2 x).ready) g2 (λ x. values_of_slots (reach Sure.asks s.memory) xs (g1 x)))))
      act_good (Some WriteThrough) pc st bs s is h bare-end =
          on_value st h (λ w st1 h1 g1. on_value st1 h1 (λ v st2 h2 g2. use_good false most_calls (pc + 1) (next pc WriteThrough is) st2 bs s h2 (write_along_safe Sure code.declared bare most_passed v w s.memory (λ x. (h2 x).ready) g2 g1)))
      act_good (Some (LetElement k)) pc st bs s is h bare-end =
          on_args k st [] h (λ x. tt) (λ xs st1 h1 g1. on_path st1 h1 (λ q st2 h2 g2. on_value st2 h2 (λ v st3 h3 g3.
          use_good false most_calls (pc + 1) (next pc (LetElement k) is) st3 bs s h3 (let_element_safe Sure code.declared bare q (slot_values xs) v s.memory (λ x. (h3 x).ready) g2 (λ x. values_of_slots (reach Sure.asks s.memory) xs (g1 x)) g3))))
      act_good (Some (SetElement k)) pc st bs s is h bare-end =
          on_args k st [] h (λ x. tt) (λ xs st1 h1 g1. on_path st1 h1 (λ q st2 h2 g2. on_value st2 h2 (λ v st3 h3 g3.
          use_good false most_calls (pc + 1) (next pc (SetElement k) is) st3 bs s h3 (element_set_safe Sure code.declared bare q (slot_values xs) v s.memory (λ x. (h3 x).ready) g2 (λ x. values_of_slots (reach Sure.asks s.memory) xs (g1 x)) g3))))
      act_good (Some (ElementAlong k)) pc st bs s is h bare-end =
          on_args k st [] h (λ x. tt) (λ xs st1 h1 g1. on_firm st1 h1 (λ q st2 h2 g2 f2.
          either (has_array q s.memory) (does st2 bs s h2 (element_by_safe Sure code.declared bare q (slot_values xs) s.memory g2) (leads (flag (rests k (Sure.firm pc))) q f2 (pc + 1) (next pc (ElementAlong k) is) st2 bs))
          (use_good true most_calls (pc + 1) (next pc (ElementAlong k) is) st2 bs s h2 (item_along_safe Sure code.declared bare q (slot_values xs) s.memory (λ x. (h2 x).ready) g2 (λ x. values_of_slots (reach Sure.asks s.memory) xs (g1 x))))))
      act_good (Some (LateField name)) pc st bs s is h bare-end = on_value st h (λ v st1 h1 g1. does st1 bs s h1 (public_variable_safe Sure code.declared name v s.memory g1) (pushes_path (pc + 1) (next pc (LateField name) is) st1 bs))
      act_good (Some PlaceOf) pc st bs s is h bare-end = on_value st h (λ v st1 h1 g1. on (pc + 1) (next pc PlaceOf is) (path (path_to v) ∷ st1) bs s (λ x. pushed_on (path_to_in (reach Sure.asks s.memory) v (g1 x)) (h1 x)))
      act_good (Some (Library f text_form compare base k)) pc st bs s is h bare-end =
          on_args k st [] h (λ x. tt) (λ xs st1 h1 g1. does st1 bs s h1 (library_safe Sure code.declared f text_form compare base (slot_values xs) s.memory (λ x. (h1 x).ready) (λ x. values_of_slots (reach Sure.asks s.memory) xs (g1 x))) (pushes (pc + 1) (next pc (Library f text_form compare base k) is) st1 bs))
      act_good (Some (BoundAt upper z)) pc st bs s is h bare-end = on_path st h (λ q st1 h1 g1. does st1 bs s h1 (bound_at_safe Sure upper z q s.memory) (pushes (pc + 1) (next pc (BoundAt upper z) is) st1 bs))
      act_good (Some PushThis) pc st bs s is h bare-end = does st bs s h (own_object_safe Sure s.memory (λ x. (h x).ready)) (pushes (pc + 1) (next pc PushThis is) st bs)
      act_good (Some (New c)) pc st bs s is h bare-end = does st bs s h (made_safe Sure code.declared c s.memory) (λ v s1 h1 n1 q1. initializes_good (class_at code.declared c).initialize v (pc + 1) (next pc (New c) is) st bs s1 h1 q1)
      act_good (Some ObjectThere) pc st bs s is h bare-end = on_value st h (λ v st1 h1 g1. does st1 bs s h1 (object_there_safe Sure v s.memory g1) (pushes (pc + 1) (next pc ObjectThere is) st1 bs))
      act_good (Some (FieldIn i of bounded)) pc st bs s is h bare-end = on_value st h (λ v st1 h1 g1. does st1 bs s h1 (field_in_safe Sure i of bounded v s.memory g1) (pushes_path (pc + 1) (next pc (FieldIn i of bounded) is) st1 bs))
      act_good (Some (AsNew c)) pc st bs s is h bare-end =
          on_firm st h (λ q st1 h1 g1 f1. on (pc + 1) (next pc (AsNew c) is) (path (made_at c q) ∷ st1) bs s
          (λ x. pushed_firm (flag (Sure.firm pc)) (g1 x) (leads_firm (flag (Sure.firm pc)) (block_reach Sure.asks s.memory) q (made_at c q) (f1 x) (λ g. g)) (h1 x)))
      act_good (Some MakeThere) pc st bs s is h bare-end =
          on_firm st h (λ q st1 h1 g1 f1.
          does (path q ∷ st1) bs s (λ x. pushed_firm (flag (Sure.firm pc)) (g1 x) (f1 x) (h1 x)) (made_for_safe Sure code.declared q s.memory) (λ v s1 h2 n2 q2. initializes_good (initialize_of code.declared q v) v (pc + 1) (next pc MakeThere is) (path q ∷ st1) bs s1 h2 q2))
      act_good (Some StoreMade) pc st bs s is h bare-end =
          on_value st h (λ v st1 h1 g1. on_firm st1 h1 (λ q st2 h2 g2 f2. does (path q ∷ st2) bs s (λ x. pushed_firm (flag (rest (Sure.firm pc))) (g2 x) (f2 x) (h2 x)) (stored_made_safe Sure q v s.memory (λ x. (h2 x).ready) g2 g1) (λ u s1 h9 n9 q9. on (pc + 1) (next pc StoreMade is) (path q ∷ st2) bs s1 h9)))
      act_good (Some Same) pc st bs s is h bare-end = on_value st h (λ w st1 h1 g1. on_value st1 h1 (λ v st2 h2 g2. does st2 bs s h2 (compared_safe Sure v w s.memory) (pushes (pc + 1) (next pc Same is) st2 bs)))
      act_good (Some (IsType of)) pc st bs s is h bare-end = on_value st h (λ v st1 h1 g1. does st1 bs s h1 (typed_as_safe Sure of v s.memory) (pushes (pc + 1) (next pc (IsType of) is) st1 bs))
      act_good (Some (FitObject of)) pc st bs s is h bare-end = on_value st h (λ v st1 h1 g1. does st1 bs s h1 (set_object_safe Sure of v s.memory g1) (pushes (pc + 1) (next pc (FitObject of) is) st1 bs))
      act_good (Some (Fit of)) pc st bs s is h bare-end = on_value st h (λ v st1 h1 g1. does st1 bs s h1 (fitted_safe Sure of v s.memory g1) (pushes (pc + 1) (next pc (Fit of) is) st1 bs))
      act_good (Some Drop) pc st bs s is h bare-end = on_value st h (λ v st1 h1 g1. on (pc + 1) (next pc Drop is) st1 bs s h1)
      act_good (Some Lend) pc st bs s is h bare-end = on_path st h (λ q st1 h1 g1. does (path q ∷ st1) bs s (λ x. pushed_on (g1 x) (h1 x)) (lent_safe Sure q s.memory g1) (λ u s1 h9 n9 q9. on (pc + 1) (next pc Lend is) (path q ∷ st1) bs s1 h9))
      act_good (Some (Pack k)) pc st bs s is h bare-end = on_args k st [] h (λ x. tt) (λ xs st1 h1 g1. on (pc + 1) (next pc (Pack k) is) (value (packed xs) ∷ st1) bs s (λ x. pushed_on (packed_in (reach Sure.asks s.memory) xs (g1 x)) (h1 x)))
      act_good (Some (Reorder order k)) pc st bs s is h bare-end =
          on_count k st [] h (λ x. tt) (λ xs st1 h1 g1 e. on (pc + 1) (next pc (Reorder order k) is) (pushed (reordered order xs) st1) bs s
          (λ x. pushed_all (length order) (reordered order xs) (reordered_length order xs) (reordered_in (reach Sure.asks s.memory) order xs (g1 x)) (h1 x)))
      act_good (Some (Lift k)) pc st bs s is h bare-end =
          on_count k st [] h (λ x. tt) (λ xs st1 h1 g1 e. on_value st1 h1 (λ v st2 h2 g2.
          on (pc + 1) (next pc (Lift k) is) (value v ∷ pushed xs st2) bs s (λ x. pushed_on (g2 x) (pushed_all k xs (omega (arith, e)) (g1 x) (h2 x)))))
      act_good (Some (Call p k)) pc st bs s is h bare-end = on_args k st [] h (λ x. tt) (λ xs st1 h1 g1. calls_good p empty xs (pc + 1) (next pc (Call p k) is) st1 bs s h1 (λ x. none_in (top s.memory).held) g1)
      act_good (Some (CallOf p k)) pc st bs s is h bare-end = on_args k st [] h (λ x. tt) (λ xs st1 h1 g1. on_value st1 h1 (λ v st2 h2 g2. calls_good p v xs (pc + 1) (next pc (CallOf p k) is) st2 bs s h2 g2 g1))
      act_good (Some Store) pc st bs s is h bare-end = on_path st h (λ q st1 h1 g1. on_value st1 h1 (λ v st2 h2 g2. writes (pc + 1) (loose pc Store is (λ gl. refl)) st2 bs s h2 (assigned_at_safe Sure q v s.memory (λ x. (h2 x).ready) g1 g2)))
      act_good (Some SetAt) pc st bs s is h bare-end = on_path st h (λ q st1 h1 g1. on_value st1 h1 (λ v st2 h2 g2. does st2 bs s h2 (set_at_safe Sure q v s.memory (λ x. (h2 x).ready) g1 g2) (λ u s1 h9 n9 q9. on (pc + 1) (loose pc SetAt is (λ gl. refl)) st2 bs s1 h9)))
      act_good (Some StoreDefault) pc st bs s is h bare-end = on_value st h (λ w st1 h1 g1. on_value st1 h1 (λ v st2 h2 g2. writes (pc + 1) (loose pc StoreDefault is (λ gl. refl)) st2 bs s h2 (written_default_safe Sure w v s.memory)))
      act_good (Some (StoreItem k)) pc st bs s is h bare-end =
          on_args k st [] h (λ x. tt) (λ xs st1 h1 g1. on_value st1 h1 (λ w st2 h2 g2. on_value st2 h2 (λ v st3 h3 g3. writes (pc + 1) (loose pc (StoreItem k) is (λ gl. refl)) st3 bs s h3 (item_assigned_safe Sure w (slot_values xs) v s.memory (λ x. (h3 x).ready) g2))))
      act_good (Some SetMember) pc st bs s is h bare-end = on_value st h (λ w st1 h1 g1. on_value st1 h1 (λ v st2 h2 g2. does st2 bs s h2 (member_not_set_safe Sure w s.memory) (λ u s1 h9 n9 q9. on (pc + 1) (loose pc SetMember is (λ gl. refl)) st2 bs s1 h9)))
      act_good (Some (RaiseEvent e k)) pc st bs s is h bare-end = on_args k st [] h (λ x. tt) (λ xs st1 h1 g1. delivers_good e xs (sinks (source_of (top s.memory).me) s.memory) (pc + 1) (loose pc (RaiseEvent e k) is (λ gl. refl)) st1 bs s h1 g1)
      act_good (Some ShowText) pc st bs s is h bare-end = on_value st h (λ v st1 h1 g1. does st1 bs s h1 (show_value_safe Sure v s.memory) (pushes (pc + 1) (loose pc ShowText is (λ gl. refl)) st1 bs))
      act_good (Some (Show ends k)) pc st bs s is h bare-end = on_args k st [] h (λ x. tt) (λ xs st1 h1 g1. does st1 bs s h1 (printed_safe Sure ends xs s.memory) (λ u s1 h9 n9 q9. on (pc + 1) (loose pc (Show ends k) is (λ gl. refl)) st1 bs s1 h9))
      act_good (Some (Throw k)) pc st bs s is h bare-end = on_args k st [] h (λ x. tt) (λ xs st1 h1 g1. raises (raised_by xs s.memory) st1 bs s h1)
      act_good (Some (LoopOff i)) pc st bs s is h bare-end = does st bs s h (loop_off_safe Sure i s.memory) (λ u s1 h9 n9 q9. on (pc + 1) (loose pc (LoopOff i) is (λ gl. refl)) st bs s1 h9)
      act_good (Some (LoopOn x i compare t u)) pc st bs s is h bare-end =
          on_value st h (λ step st1 h1 g1. on_value st1 h1 (λ end st2 h2 g2. on_value st2 h2 (λ start st3 h3 g3.
          does st3 bs s h3 (loop_on_safe Sure x i compare t u start end step s.memory (λ y. (h3 y).ready) g3) (λ b s1 h9 n9 q9. tests (pc + 1) (loose pc (LoopOn x i compare t u) is (λ gl. refl)) st3 bs b s1 h9))))
      act_good (Some (NextRound x i)) pc st bs s is h bare-end = does st bs s h (next_round_safe Sure x i s.memory (λ y. (h y).ready)) (λ b s1 h9 n9 q9. tests (pc + 1) (loose pc (NextRound x i) is (λ gl. refl)) st bs b s1 h9)
      act_good (Some (EachOff i)) pc st bs s is h bare-end = does st bs s h (each_off_safe Sure i s.memory) (λ u s1 h9 n9 q9. on (pc + 1) (loose pc (EachOff i) is (λ gl. refl)) st bs s1 h9)
      act_good (Some (EachOn i)) pc st bs s is h bare-end = on_value st h (λ v st1 h1 g1. does st1 bs s h1 (each_begun_safe Sure i v s.memory (λ x. (h1 x).ready) g1) (λ k s1 h9 n9 q9. lets_go (pc + 1) (loose pc (EachOn i) is (λ gl. refl)) st1 bs k s1 h9))
      act_good (Some (NextItem x i)) pc st bs s is h bare-end = does st bs s h (each_next_safe Sure x i s.memory (λ y. (h y).ready)) (λ b s1 h9 n9 q9. tests (pc + 1) (loose pc (NextItem x i) is (λ gl. refl)) st bs b s1 h9)
      act_good (Some (Keep i)) pc st bs s is h bare-end = on_value st h (λ v st1 h1 g1. does st1 bs s h1 (keep_safe Sure i v s.memory (λ x. (h1 x).ready) g1) (λ u s1 h9 n9 q9. on (pc + 1) (loose pc (Keep i) is (λ gl. refl)) st1 bs s1 h9))
      act_good (Some (Selected i)) pc st bs s is h bare-end = does st bs s h (selected_safe Sure i s.memory (λ x. (h x).ready)) (pushes (pc + 1) (loose pc (Selected i) is (λ gl. refl)) st bs)
      act_good (Some (IfFits o compare of t to)) pc st bs s is h bare-end =
          on_value st h (λ w st1 h1 g1. on_value st1 h1 (λ v st2 h2 g2. does st2 bs s h2 (fits_safe Sure o compare of t v w s.memory) (λ b s1 h9 n9 q9. jumps to (pc + 1) (loose pc (IfFits o compare of t to) is (λ gl. refl)) st2 bs b s1 h9)))
      act_good (Some (IfBetween compare of t u to)) pc st bs s is h bare-end =
          on_value st h (λ y st1 h1 g1. on_value st1 h1 (λ x st2 h2 g2. on_value st2 h2 (λ v st3 h3 g3. does st3 bs s h3 (fits_between_safe Sure compare of t u v x y s.memory) (λ b s1 h9 n9 q9. jumps to (pc + 1) (loose pc (IfBetween compare of t u to) is (λ gl. refl)) st3 bs b s1 h9))))
      act_good (Some (Redim preserve of k)) pc st bs s is h bare-end =
          on_args k st [] h (λ x. tt) (λ xs st1 h1 g1. on_path st1 h1 (λ q st2 h2 g2. does st2 bs s h2 (redimmed_safe Sure code.declared preserve of q (slot_values xs) s.memory (λ x. (h2 x).ready) g2) (λ j s1 h9 n9 q9. lets_go (pc + 1) (loose pc (Redim preserve of k) is (λ gl. refl)) st2 bs j s1 h9)))
      act_good (Some EraseAt) pc st bs s is h bare-end = on_path st h (λ q st1 h1 g1. does st1 bs s h1 (erased_safe Sure code.declared q s.memory g1) (λ k s1 h9 n9 q9. lets_go (pc + 1) (loose pc EraseAt is (λ gl. refl)) st1 bs k s1 h9))
      act_good (Some (KeepPath i)) pc st bs s is h bare-end = keep_good i pc st bs s is h
      act_good (Some (DropKept i)) pc st bs s is h bare-end = does st bs s h (block_over_safe Sure i s.memory) (λ u s1 h9 n9 q9. on (pc + 1) (loose pc (DropKept i) is (λ gl. refl)) st bs s1 h9)
      act_good (Some (PutReturn i)) pc st bs s is h bare-end = does st bs s h (gone_sub_safe Sure i s.memory) (λ u s1 h9 n9 q9. on (pc + 1) (loose pc (PutReturn i) is (λ gl. refl)) st bs s1 h9)
      act_good (Some (TakeReturn p)) pc st bs s is h bare-end = does st bs s h (returned_sub_safe Sure s.memory) (λ i s1 h9 n9 q9. finishes_good (entry_of code p i) st bs s1 h9)
      act_good (Some (SetPolicy b)) pc st bs s is h bare-end = does st bs s h (policy_on_safe Sure b s.memory) (λ u s1 h9 n9 q9. on (pc + 1) (loose pc (SetPolicy b) is (λ gl. refl)) st bs s1 h9)
      act_good (Some HandlerOff) pc st bs s is h bare-end = does st bs s h (handler_off_safe Sure s.memory) (λ u s1 h9 n9 q9. on (pc + 1) (loose pc HandlerOff is (λ gl. refl)) st bs s1 h9)
      act_good (Some ErrOff) pc st bs s is h bare-end = does st bs s h (err_off_safe Sure s.memory) (λ u s1 h9 n9 q9. on (pc + 1) (loose pc ErrOff is (λ gl. refl)) st bs s1 h9)
      act_good (Some (Again p)) pc st bs s is h bare-end = does st bs s h (resumed_safe Sure kind.Again 0 s.memory) (λ i s1 h9 n9 q9. finishes_good (entry_of code p i) st bs s1 h9)
      act_good (Some (Behind p)) pc st bs s is h bare-end = does st bs s h (resumed_safe Sure kind.Next (next_statement code p (failed_statement s.memory)) s.memory) (λ i s1 h9 n9 q9. finishes_good (entry_of code p i) st bs s1 h9)
      act_good (Some (Resumes p to)) pc st bs s is h bare-end = does st bs s h (resumed_safe Sure (kind.Label (record { 0 = to })) 0 s.memory) (λ i s1 h9 n9 q9. finishes_good (entry_of code p i) st bs s1 h9)
      act_good (Some (Finish to)) pc st bs s is h bare-end = finishes_good to st bs s h
      act_good (Some (Branch sense to other)) pc st bs s is h bare-end = on_value st h (λ v st1 h1 g1. does st1 bs s h1 (condition_safe Sure sense v s.memory) (λ b s1 h9 n9 q9. finishes_good (if b then to else other) st1 bs s1 h9))
      act_good (Some Halt) pc st bs s is h bare-end = ends s.memory Ended s (unmarked s.memory.objects) (λ x. over_here (h x))
      act_good (Some StopHere) pc st bs s is h bare-end = does st bs s h (stop_here_safe Sure s.memory) (λ u s1 h9 n9 q9. on (pc + 1) (loose pc StopHere is (λ gl. refl)) st bs s1 h9)
      act_good (Some Leave) pc st bs s is h bare-end = lets_all_good Return st bs s h (λ x. bare-end x (leaves x pc is)) (λ m c e. (c, e, tt))
