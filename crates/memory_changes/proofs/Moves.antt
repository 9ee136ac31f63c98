-- What each instruction does leads on by a row of changes.
use Rattle.std.proofs.Common.{ℕ, zero, suc, ◌+◌, Bool, true, false, List, [], ◌∷◌, length, map, Option, Some, None, refl}
use Rattle.std.specs.Prelude.{nat_lt, slice_index, if◌then◌else◌}
use Rattle.vba_values.specs.Val.{Val, empty, boolean, object}
use Rattle.vba_values.specs.declared.object.ObjRef.TheVariants.{Heap, Host}
use Rattle.error_frames.specs.declared.frame.ResumeKind.TheVariants as kind
use Rattle.vba_events.specs.declared.linked.Linked.{Linked}
use Rattle.sheet_host.specs.declared.area.Area.{Area}
use Rattle.bound_project.specs.Project.{Declarations, class_at}
use Rattle.vba_meaning.specs.Paths.{Path, field_path}
use Rattle.vba_meaning.specs.Memory.{Error, Ending, Ended, Slot, value, path, Memory, top, at_statement, path_of, received, entered, error_here}
use Rattle.vba_meaning.specs.References.{held_by, let_held, let_frame}
use Rattle.vba_meaning.specs.Effects.{Event, Raised, Effect, Fine, Bad-at, Out, Tell, unlent, slot_values, packed, reordered, raised_by, err_of, failed_statement}
use Rattle.vba_meaning.specs.Events.{source_of, sinks, due, lent_again, raise_over, change, sheet_of, target_of, no_change}
use Rattle.vba_meaning.specs.Objects.{initialize_of, made_at}
use Rattle.vba_meaning.specs.Host.{is_counted, is_raise, path_to}
use Rattle.vba_meaning.specs.ByName.{in_parameter_order}
use Rattle.vba_meaning.specs.Defaults.{Next, gives, then_call, is_instance, has_array, most_passed, most_calls}
use Rattle.vba_meaning.specs.LateBound.{lends_place, host_arguments}
use Rattle.vba_meaning.specs.Meaning.{State, with_memory, turned}
use Rattle.pcode.specs.Instructions.{Instr, Begin, Push, LoadErr, PathOf, ReadThrough, ElementOf, ElementIn, FieldOf, Dot, Index, PartOf, Operate, OperateAlone, Plain, PlainIfAny, Enumerate, PushHost, FirstSheet, MemberThere, MemberOf, NamedThere, NamedOf, PushThis, New, ObjectThere, FieldIn, AsNew, MakeThere, StoreMade, FindLate, BindValue, BindPlace, CallLate, LetLate, SetLate, ItemAlong, WriteThrough, LetElement, SetElement, ElementAlong, LateField, PlaceOf, Same, IsType, Library, BoundAt, Fit, FitObject, Drop, Lend, Pack, Reorder, Lift, Call, CallOf, Store, SetAt, StoreDefault, StoreMember, StoreItem, SetMember, RaiseEvent, ShowText, Show, Throw, LoopOff, LoopOn, NextRound, EachOff, EachOn, NextItem, Keep, Selected, IfFits, IfBetween, Redim, EraseAt, KeepPath, DropKept, PutReturn, TakeReturn, SetPolicy, HandlerOff, ErrOff, Again, Behind, Resumes, Finish, Branch, Halt, StopHere, Leave, Code, next_statement, entry_of}
use Rattle.pcode.specs.Machine.{After, Goes-on, Return, Back-to, Back, Caller, Delivering, Within, Config, Move, Goes, Ends, Sticks, Tells, Turns, Choices, at, failing, letting, lets, lets_all, finishes, raised, done_then, then_push, then_push_path, then_let_go, then_test, then_jump, pops, pops_path, take_args, pushed, calls_handler, delivers, tells_change, uses_member, enters, enter_by, calls, initializes, then_changes, left_as, follows, base_below, act}
use Rattle.memory_changes.specs.Changes.{Row, none, enters as enters_call, lends_again, lends_none, raise_ends, empties}
use Rattle.memory_changes.specs.Reached.{RowsTo}
use Rattle.memory_changes.proofs.Rows.{row_then, one, away, Comes, Rows, of_still}
use Rattle.memory_changes.proofs.Stores.{paths_top, beside}
use Rattle.memory_changes.proofs.Values.{operated_still, operated_alone_still, set_object_still, fitted_still, plain_still, plain_if_any_still, condition_still, compared_still, typed_as_still, object_there_still, field_in_still, show_value_still, fits_still, fits_between_still, bound_at_still, read_path_rows, own_object_rows, selected_rows, keep_rows, set_at_rows, loop_on_rows, next_round_rows, loop_off_rows, lent_rows, printed_rows, gone_sub_rows, returned_sub_rows, err_off_rows, policy_on_rows, handler_off_rows, resumed_rows, stop_here_rows, library_rows, made_rows, made_for_rows, stored_made_rows}
use Rattle.memory_changes.proofs.Arrays.{dot_at_still, waits_row, part_of_rows, redimmed_rows, erased_rows, keep_path_rows, block_over_rows, each_off_rows, each_begun_rows, each_next_rows}
use Rattle.memory_changes.proofs.Hosts.{first_sheet_still, named_there_still, error_given_still, member_not_set_still, written_default_rows, item_rows, member_there_rows, member_called_rows, object_member_rows, place_at_rows, assigned_at_rows, item_assigned_rows, member_assigned_rows}
use Rattle.memory_changes.proofs.Uses.{element_by_still, counted_operand_rows, counted_if_any_rows, index_along_rows, item_along_rows, write_along_rows, enumerator_rows}
use Rattle.memory_changes.proofs.LateUses.{public_variable_still, late_there_rows, value_bound_rows, place_copied_rows, late_called_rows, let_element_rows, late_let_rows, element_set_rows, late_set_rows}

module _ (d : Declarations) where
  pub record To (m : Memory) (v : Move) : Type 0 where
    pub law : RowsTo d m v

  to_behind : {m m1 : Memory} (v : Move) → Row d m m1 → RowsTo d m1 v → RowsTo d m v
  to_behind (Goes c) r h = row_then d r h
  to_behind (Ends e s) r h = row_then d r h
  to_behind Sticks r h = tt
  to_behind (Tells es v) r h = to_behind v r h
  to_behind (Turns s v) r h = (row_then d r h.0, to_behind v r h.1)

  -- after a change of the memory
  pub from : {m m1 : Memory} {v : Move} → Row d m m1 → To m1 v → To m v
  from {v = v} r h = record { law = to_behind v r h.law }

  pub goes_in : (c : Config) → To c.state.memory (Goes c)
  goes_in c = record { law = none c.state.memory }

  pub ends_in : (e : Ending) (s : State) → To s.memory (Ends e s)
  ends_in e s = record { law = none s.memory }

  pub sticks : {m : Memory} → To m Sticks
  sticks = record { law = tt }

  pub turning : (s : State) {v : Move} → To s.memory v → To s.memory (Turns s v)
  turning s h = record { law = (none s.memory, h.law) }

  pub told : {m : Memory} (es : List Event) {v : Move} → To m v → To m (Tells es v)
  told es h = record { law = h.law }

  pub either : {m : Memory} {v w : Move} (b : Bool) → To m v → To m w → To m (if b then v else w)
  either true a c = a
  either false a c = c

  -- an error is raised
  pub raises : (e : Error) (bs : List Back) (s : State) → To s.memory (raised e bs s)
  raises e bs s = turning s (told (Raised e.number ∷ []) (goes_in (failing e bs (turned s))))

  -- what the statement held waits; what the frame holds does
  pub lets_to : (after : After) (bs : List Back) (s : State) → To s.memory (lets after bs s)
  lets_to after bs s =
      from (away d (record { objects = refl; next_set = refl; paths = paths_top s.memory.frames })) (goes_in (letting (length (top s.memory).held) after bs (with_memory s (let_held s.memory))))

  pub lets_all_to : (after : After) (bs : List Back) (s : State) → To s.memory (lets_all after bs s)
  lets_all_to after bs s =
      from (row_then d (one d empties) (waits_row d (held_by (top s.memory)) _)) (goes_in (letting (length (held_by (top s.memory))) after bs (with_memory s (let_frame s.memory))))

  pub finishes_to : (to : ℕ) (bs : List Back) (s : State) → To s.memory (finishes to bs s)
  finishes_to to bs s = from (one d lends_none) (lets_to (Goes-on to) bs (with_memory s (unlent s.memory)))

  -- ---- effects

  done_to : {A : Type 0} (go : A → State → Move) (e : Effect A) (bs : List Back) (s : State) → Comes d s.memory e → ((v : A) (s1 : State) → To s1.memory (go v s1)) → RowsTo d s.memory (done_then e bs s go)
  done_to go (Fine v m1) bs s a k = to_behind (go v (with_memory s m1)) a (k v (with_memory s m1)).law
  done_to go (Bad-at n m1) bs s a k = to_behind (raised (error_here n m1) bs (with_memory s m1)) a (raises (error_here n m1) bs (with_memory s m1)).law
  done_to go (Out w m1) bs s a k = a
  done_to go (Tell es e) bs s a k = done_to go e bs s a k

  pub does : {A : Type 0} {e : Effect A} {go : A → State → Move} (bs : List Back) (s : State) → Rows d s.memory e → ((v : A) (s1 : State) → To s1.memory (go v s1)) → To s.memory (done_then e bs s go)
  does {e = e} {go = go} bs s a k = record { law = done_to go e bs s a.law k }

  pub on : (pc : ℕ) (st : List Slot) (bs : List Back) (s : State) → To s.memory (Goes (at pc st bs s))
  on pc st bs s = goes_in (at pc st bs s)

  pushes : (pc : ℕ) (st : List Slot) (bs : List Back) (v : Val) (s : State) → To s.memory (then_push pc st bs v s)
  pushes pc st bs v s = on pc (value v ∷ st) bs s

  pushes_path : (pc : ℕ) (st : List Slot) (bs : List Back) (p : Path) (s : State) → To s.memory (then_push_path pc st bs p s)
  pushes_path pc st bs p s = on pc (path p ∷ st) bs s

  lets_go : (pc : ℕ) (st : List Slot) (bs : List Back) (k : ℕ) (s : State) → To s.memory (then_let_go pc st bs k s)
  lets_go pc st bs k s = goes_in (letting k (Back-to pc st) bs s)

  tests : (pc : ℕ) (st : List Slot) (bs : List Back) (b : Bool) (s : State) → To s.memory (then_test pc st bs b s)
  tests pc st bs b s = on pc (value (boolean b) ∷ st) bs s

  jumps : (to pc : ℕ) (st : List Slot) (bs : List Back) (b : Bool) (s : State) → To s.memory (then_jump to pc st bs b s)
  jumps to pc st bs b s = either b (finishes_to to bs s) (on pc st bs s)

  -- ---- operands

  on_value : {m : Memory} {go : Val → List Slot → Move} (st : List Slot) → ((v : Val) (st1 : List Slot) → To m (go v st1)) → To m (pops st go)
  on_value [] k = sticks
  on_value (value v ∷ st) k = k v st
  on_value (path p ∷ st) k = sticks

  on_path : {m : Memory} {go : Path → List Slot → Move} (st : List Slot) → ((q : Path) (st1 : List Slot) → To m (go q st1)) → To m (pops_path st go)
  on_path [] k = sticks
  on_path (value v ∷ st) k = sticks
  on_path (path p ∷ st) k = k p st

  on_args : {m : Memory} {go : List Slot → List Slot → Move} (n : ℕ) (st xs : List Slot) → ((ys st1 : List Slot) → To m (go ys st1)) → To m (take_args n st xs go)
  on_args zero st xs k = k xs st
  on_args (suc n) [] xs k = sticks
  on_args (suc n) (x ∷ st) xs k = on_args n st (x ∷ xs) k

module _ (code : Code) where
  abbrev pub d : Declarations
  d = code.declared

  -- ---- calls

  pub enters_to : (called : Bool) (p : ℕ) (me : Val) (xs : List Slot) (bs : List Back) (s : State) → To d s.memory (enters code called p me xs bs s)
  enters_to called p me xs bs s =
      let s1 : State = with_memory s (entered d called p me xs s.memory) in
      from d (one d (enters_call called p me xs)) (turning d s1 (goes_in d (at (slice_index code.starts p) [] bs (turned s1))))

  pub enter_by_to : (called : Bool) (p : ℕ) (me : Val) (xs : List Slot) (bs : List Back) (s : State) {full : Move} → To d s.memory full → To d s.memory (enter_by code called p me xs bs s full)
  enter_by_to called p me xs bs s h = either d (nat_lt (length s.memory.frames) 2000) (enters_to called p me xs bs s) h

  calls_to : (p : ℕ) (me : Val) (xs : List Slot) (pc : ℕ) (st : List Slot) (bs : List Back) (s : State) → To d s.memory (calls code p me xs pc st bs s)
  calls_to p me xs pc st bs s = enter_by_to true p me xs (Caller pc st ∷ bs) s (raises d (error_here 28 s.memory) bs s)

  -- ---- events

  handler_to : (o : Option ℕ) (e : ℕ) (xs : List Slot) (l : Linked) (ls : List Linked) (pc : ℕ) (st : List Slot) (bs : List Back) (s : State) {more : Move} → To d s.memory more → To d s.memory (calls_handler code e xs l ls o pc st bs s more)
  handler_to None e xs l ls pc st bs s k = k
  handler_to (Some p) e xs l ls pc st bs s k =
      let s1 : State = with_memory s (lent_again xs s.memory) in
      from d (one d (lends_again xs)) (enter_by_to true p (object (Heap l.sink)) xs (Delivering e xs ls pc st ∷ bs) s1 (raises d (error_here 28 s1.memory) bs s1))

  pub delivers_to : (e : ℕ) (xs : List Slot) (ls : List Linked) (pc : ℕ) (st : List Slot) (bs : List Back) (s : State) → To d s.memory (delivers code e xs ls pc st bs s)
  delivers_to e xs [] pc st bs s = from d (one d (raise_ends xs)) (on d pc st bs (with_memory s (raise_over xs s.memory)))
  delivers_to e xs (l ∷ ls) pc st bs s = handler_to (due d e l s.memory) e xs l ls pc st bs s (delivers_to e xs ls pc st bs s)

  change_to : (o : Option Area) (pc : ℕ) (st : List Slot) (bs : List Back) (s : State) → To d s.memory (tells_change code o pc st bs s)
  change_to None pc st bs s = on d pc st bs s
  change_to (Some a) pc st bs s = from d (away d (beside refl refl refl)) (delivers_to change (target_of a) (sinks (sheet_of a) s.memory) pc st bs (with_memory s (no_change s.memory)))

  -- cells may be written, and then the handlers of Change are called
  writes : {A : Type 0} {e : Effect A} (pc : ℕ) (st : List Slot) (bs : List Back) (s : State) → Rows d s.memory e → To d s.memory (done_then e bs s (then_changes code pc st bs))
  writes pc st bs s a = does d bs s a (λ v s1. change_to s1.memory.changed pc st bs s1)

  -- ---- uses of objects

  pub follows_to : (b : Bool) (k pc : ℕ) (st : List Slot) (bs : List Back) (n : Next) (s : State) → To d s.memory (follows code b k pc st bs n s)
  follows_to b k pc st bs (gives v) s = change_to s.memory.changed pc (left_as b v ∷ st) bs s
  follows_to b zero pc st bs (then_call p me xs ts) s = raises d (error_here 450 s.memory) bs s
  follows_to b (suc k) pc st bs (then_call p me xs ts) s = enter_by_to true p me xs (Within b k ts pc st ∷ bs) s (raises d (error_here 28 s.memory) bs s)

  pub use_to : {e : Effect Next} (b : Bool) (k pc : ℕ) (st : List Slot) (bs : List Back) (s : State) → Rows d s.memory e → To d s.memory (done_then e bs s (follows code b k pc st bs))
  use_to b k pc st bs s a = does d bs s a (λ n s1. follows_to b k pc st bs n s1)

  initializes_to : (o : Option ℕ) (v : Val) (pc : ℕ) (st : List Slot) (bs : List Back) (s : State) → To d s.memory (initializes code o v pc st bs s)
  initializes_to None v pc st bs s = on d pc (value empty ∷ value v ∷ st) bs s
  initializes_to (Some p) v pc st bs s = calls_to p v [] pc (value v ∷ st) bs s

  member_to : (name : List ℕ) (base begun : Val) (vs : List Val) (pc : ℕ) (st : List Slot) (bs : List Back) (s : State) → To d s.memory (uses_member code name base begun vs pc st bs s)
  member_to name base begun vs pc st bs s =
      either d (is_raise name base) (does d bs s (of_still d (error_given_still vs s.memory)) (λ e s1. raises d e bs s1))
      (either d (is_counted base) (does d bs s (object_member_rows d name vs base s.memory) (λ x s1. lets_go d pc (value x.0 ∷ st) bs x.1 s1))
      (does d bs s (member_called_rows d name vs base begun s.memory) (λ v s1. change_to s1.memory.changed pc (value v ∷ st) bs s1)))

  -- ---- instructions

  pub act_to : (by : Choices) (o : Option Instr) (pc : ℕ) (st : List Slot) (bs : List Back) (s : State) → To d s.memory (act by code o pc st bs s)
  act_to by None pc st bs s = sticks d
  act_to by (Some (Begin i)) pc st bs s =
      turning d s (from d (away d (record { objects = refl; next_set = refl; paths = paths_top s.memory.frames })) (on d (pc + 1) st bs (with_memory (turned s) (at_statement s.memory i))))
  act_to by (Some (Push v)) pc st bs s = on d (pc + 1) (value v ∷ st) bs s
  act_to by (Some (LoadErr member)) pc st bs s = on d (pc + 1) (value (err_of d member s.memory.err) ∷ st) bs s
  act_to by (Some (PathOf x)) pc st bs s = on d (pc + 1) (path (path_of s.memory x) ∷ st) bs s
  act_to by (Some ReadThrough) pc st bs s = on_path d st (λ q st1. does d bs s (read_path_rows d q s.memory) (pushes d (pc + 1) st1 bs))
  act_to by (Some (ElementOf k)) pc st bs s = on_path d st (λ q st1. on_args d k st1 [] (λ xs st2. does d bs s (place_at_rows d q (slot_values xs) s.memory) (pushes_path d (pc + 1) st2 bs)))
  act_to by (Some (ElementIn k)) pc st bs s = on_args d k st [] (λ xs st1. on_path d st1 (λ q st2. does d bs s (place_at_rows d q (slot_values xs) s.memory) (pushes_path d (pc + 1) st2 bs)))
  act_to by (Some (FieldOf i of bounded)) pc st bs s = on_path d st (λ q st1. on d (pc + 1) (path (field_path q i of bounded) ∷ st1) bs s)
  act_to by (Some (Dot i)) pc st bs s = does d bs s (of_still d (dot_at_still i s.memory)) (pushes_path d (pc + 1) st bs)
  act_to by (Some (Index k)) pc st bs s = on_args d k st [] (λ xs st1. on_value d st1 (λ v st2. does d bs s (item_rows d v (slot_values xs) s.memory) (pushes d (pc + 1) st2 bs)))
  act_to by (Some (PartOf i)) pc st bs s = on_value d st (λ v st1. does d bs s (part_of_rows d i v s.memory) (pushes d (pc + 1) st1 bs))
  act_to by (Some (Operate o compare l r)) pc st bs s = on_value d st (λ w st1. on_value d st1 (λ v st2. does d bs s (of_still d (operated_still o compare l r v w s.memory)) (pushes d (pc + 1) st2 bs)))
  act_to by (Some (OperateAlone o of)) pc st bs s = on_value d st (λ v st1. does d bs s (of_still d (operated_alone_still o of v s.memory)) (pushes d (pc + 1) st1 bs))
  act_to by (Some Plain) pc st bs s =
      on_value d st (λ v st1. either d (is_counted v) (use_to false most_calls (pc + 1) st1 bs s (counted_operand_rows d v s.memory)) (does d bs s (of_still d (plain_still v s.memory)) (pushes d (pc + 1) st1 bs)))
  act_to by (Some PlainIfAny) pc st bs s =
      on_value d st (λ v st1. either d (is_counted v) (use_to false most_calls (pc + 1) st1 bs s (counted_if_any_rows d v s.memory)) (does d bs s (of_still d (plain_if_any_still v s.memory)) (pushes d (pc + 1) st1 bs)))
  act_to by (Some Enumerate) pc st bs s = on_value d st (λ v st1. use_to false most_calls (pc + 1) st1 bs s (enumerator_rows d v s.memory))
  act_to by (Some (PushHost reference)) pc st bs s = on d (pc + 1) (value (object (Host reference)) ∷ st) bs s
  act_to by (Some FirstSheet) pc st bs s = does d bs s (of_still d (first_sheet_still s.memory)) (pushes d (pc + 1) st bs)
  act_to by (Some (MemberThere name k)) pc st bs s = on_value d st (λ v st1. does d bs s (member_there_rows d name k v s.memory) (pushes d (pc + 1) (value v ∷ st1) bs))
  act_to by (Some (MemberOf name k)) pc st bs s = on_args d k st [] (λ xs st1. on_value d st1 (λ w st2. on_value d st2 (λ v st3. member_to name v w (slot_values xs) (pc + 1) st3 bs s)))
  act_to by (Some (NamedThere name how k)) pc st bs s = on_value d st (λ v st1. does d bs s (of_still d (named_there_still name how k v s.memory)) (pushes d (pc + 1) (value v ∷ st1) bs))
  act_to by (Some (NamedOf name how k)) pc st bs s =
      on_args d k st [] (λ xs st1. on_value d st1 (λ w st2. on_value d st2 (λ v st3. member_to name v w (in_parameter_order v name how (slot_values xs)) (pc + 1) st3 bs s)))
  act_to by (Some (StoreMember name k)) pc st bs s =
      on_args d k st [] (λ xs st1. on_value d st1 (λ x st2. on_value d st2 (λ w st3. on_value d st3 (λ v st4. writes (pc + 1) st4 bs s (member_assigned_rows d name (slot_values xs) w x v s.memory)))))
  act_to by (Some (FindLate aim name how gs)) pc st bs s = on_value d st (λ v st1. use_to false most_calls (pc + 1) (value v ∷ st1) bs s (late_there_rows d aim name how gs v s.memory))
  act_to by (Some (BindValue aim name how gs i)) pc st bs s = on_value d st (λ v st1. use_to false most_calls (pc + 1) st1 bs s (value_bound_rows d aim name how gs i (base_below i st1) v s.memory))
  act_to by (Some (BindPlace aim name how gs i)) pc st bs s =
      on_path d st (λ q st1.
      either d (lends_place d aim name how gs i (base_below i st1) q s.memory) (does d bs s (lent_rows d q s.memory) (λ u s1. on d (pc + 1) (path q ∷ st1) bs s1))
      (use_to true most_calls (pc + 1) st1 bs s (place_copied_rows d aim name how gs i (base_below i st1) q s.memory)))
  act_to by (Some (CallLate name how gs)) pc st bs s =
      on_args d (length gs) st [] (λ xs st1. on_value d st1 (λ w st2. on_value d st2 (λ v st3.
      either d (is_instance v s.memory) (use_to false most_calls (pc + 1) st3 bs s (late_called_rows d name how gs v w (map received xs) s.memory))
      (member_to name v w (host_arguments v name how (map received xs)) (pc + 1) st3 bs s))))
  act_to by (Some (LetLate name how gs)) pc st bs s =
      on_args d (length gs) st [] (λ xs st1. on_value d st1 (λ x st2. on_value d st2 (λ w st3. on_value d st3 (λ v st4.
      use_to false most_calls (pc + 1) st4 bs s (late_let_rows d name how gs w x (map received xs) v s.memory)))))
  act_to by (Some (SetLate name how gs)) pc st bs s =
      on_args d (length gs) st [] (λ xs st1. on_value d st1 (λ x st2. on_value d st2 (λ w st3. on_value d st3 (λ v st4.
      use_to false most_calls (pc + 1) st4 bs s (late_set_rows d name how gs w x (map received xs) v s.memory)))))
  act_to by (Some (ItemAlong k)) pc st bs s = on_args d k st [] (λ xs st1. on_value d st1 (λ v st2. use_to false most_calls (pc + 1) st2 bs s (index_along_rows d most_passed (slot_values xs) v s.memory)))
  act_to by (Some WriteThrough) pc st bs s = on_value d st (λ w st1. on_value d st1 (λ v st2. use_to false most_calls (pc + 1) st2 bs s (write_along_rows d most_passed v w s.memory)))
  act_to by (Some (LetElement k)) pc st bs s =
      on_args d k st [] (λ xs st1. on_path d st1 (λ q st2. on_value d st2 (λ v st3. use_to false most_calls (pc + 1) st3 bs s (let_element_rows d q (slot_values xs) v s.memory))))
  act_to by (Some (SetElement k)) pc st bs s =
      on_args d k st [] (λ xs st1. on_path d st1 (λ q st2. on_value d st2 (λ v st3. use_to false most_calls (pc + 1) st3 bs s (element_set_rows d q (slot_values xs) v s.memory))))
  act_to by (Some (ElementAlong k)) pc st bs s =
      on_args d k st [] (λ xs st1. on_path d st1 (λ q st2.
      either d (has_array q s.memory) (does d bs s (of_still d (element_by_still q (slot_values xs) s.memory)) (pushes_path d (pc + 1) st2 bs))
      (use_to true most_calls (pc + 1) st2 bs s (item_along_rows d q (slot_values xs) s.memory))))
  act_to by (Some (LateField name)) pc st bs s = on_value d st (λ v st1. does d bs s (of_still d (public_variable_still d name v s.memory)) (pushes_path d (pc + 1) st1 bs))
  act_to by (Some PlaceOf) pc st bs s = on_value d st (λ v st1. on d (pc + 1) (path (path_to v) ∷ st1) bs s)
  act_to by (Some (Library f text_form compare base k)) pc st bs s = on_args d k st [] (λ xs st1. does d bs s (library_rows d f text_form compare base (slot_values xs) s.memory) (pushes d (pc + 1) st1 bs))
  act_to by (Some (BoundAt upper z)) pc st bs s = on_path d st (λ q st1. does d bs s (of_still d (bound_at_still upper z q s.memory)) (pushes d (pc + 1) st1 bs))
  act_to by (Some PushThis) pc st bs s = does d bs s (own_object_rows d s.memory) (pushes d (pc + 1) st bs)
  act_to by (Some (New c)) pc st bs s = does d bs s (made_rows d c s.memory) (λ v s1. initializes_to (class_at d c).initialize v (pc + 1) st bs s1)
  act_to by (Some ObjectThere) pc st bs s = on_value d st (λ v st1. does d bs s (of_still d (object_there_still v s.memory)) (pushes d (pc + 1) st1 bs))
  act_to by (Some (FieldIn i of bounded)) pc st bs s = on_value d st (λ v st1. does d bs s (of_still d (field_in_still i of bounded v s.memory)) (pushes_path d (pc + 1) st1 bs))
  act_to by (Some (AsNew c)) pc st bs s = on_path d st (λ q st1. on d (pc + 1) (path (made_at c q) ∷ st1) bs s)
  act_to by (Some MakeThere) pc st bs s = on_path d st (λ q st1. does d bs s (made_for_rows d q s.memory) (λ v s1. initializes_to (initialize_of d q v) v (pc + 1) (path q ∷ st1) bs s1))
  act_to by (Some StoreMade) pc st bs s = on_value d st (λ v st1. on_path d st1 (λ q st2. does d bs s (stored_made_rows d q v s.memory) (λ u s1. on d (pc + 1) (path q ∷ st2) bs s1)))
  act_to by (Some Same) pc st bs s = on_value d st (λ w st1. on_value d st1 (λ v st2. does d bs s (of_still d (compared_still v w s.memory)) (pushes d (pc + 1) st2 bs)))
  act_to by (Some (IsType of)) pc st bs s = on_value d st (λ v st1. does d bs s (of_still d (typed_as_still of v s.memory)) (pushes d (pc + 1) st1 bs))
  act_to by (Some (FitObject of)) pc st bs s = on_value d st (λ v st1. does d bs s (of_still d (set_object_still of v s.memory)) (pushes d (pc + 1) st1 bs))
  act_to by (Some (Fit of)) pc st bs s = on_value d st (λ v st1. does d bs s (of_still d (fitted_still of v s.memory)) (pushes d (pc + 1) st1 bs))
  act_to by (Some Drop) pc st bs s = on_value d st (λ v st1. on d (pc + 1) st1 bs s)
  act_to by (Some Lend) pc st bs s = on_path d st (λ q st1. does d bs s (lent_rows d q s.memory) (λ u s1. on d (pc + 1) (path q ∷ st1) bs s1))
  act_to by (Some (Pack k)) pc st bs s = on_args d k st [] (λ xs st1. on d (pc + 1) (value (packed xs) ∷ st1) bs s)
  act_to by (Some (Reorder order k)) pc st bs s = on_args d k st [] (λ xs st1. on d (pc + 1) (pushed (reordered order xs) st1) bs s)
  act_to by (Some (Lift k)) pc st bs s = on_args d k st [] (λ xs st1. on_value d st1 (λ v st2. on d (pc + 1) (value v ∷ pushed xs st2) bs s))
  act_to by (Some (Call p k)) pc st bs s = on_args d k st [] (λ xs st1. calls_to p empty xs (pc + 1) st1 bs s)
  act_to by (Some (CallOf p k)) pc st bs s = on_args d k st [] (λ xs st1. on_value d st1 (λ v st2. calls_to p v xs (pc + 1) st2 bs s))
  act_to by (Some Store) pc st bs s = on_path d st (λ q st1. on_value d st1 (λ v st2. writes (pc + 1) st2 bs s (assigned_at_rows d q v s.memory)))
  act_to by (Some SetAt) pc st bs s = on_path d st (λ q st1. on_value d st1 (λ v st2. does d bs s (set_at_rows d q v s.memory) (λ u s1. on d (pc + 1) st2 bs s1)))
  act_to by (Some StoreDefault) pc st bs s = on_value d st (λ w st1. on_value d st1 (λ v st2. writes (pc + 1) st2 bs s (written_default_rows d w v s.memory)))
  act_to by (Some (StoreItem k)) pc st bs s = on_args d k st [] (λ xs st1. on_value d st1 (λ w st2. on_value d st2 (λ v st3. writes (pc + 1) st3 bs s (item_assigned_rows d w (slot_values xs) v s.memory))))
  act_to by (Some SetMember) pc st bs s = on_value d st (λ w st1. on_value d st1 (λ v st2. does d bs s (of_still d (member_not_set_still w s.memory)) (λ u s1. on d (pc + 1) st2 bs s1)))
  act_to by (Some (RaiseEvent e k)) pc st bs s = on_args d k st [] (λ xs st1. delivers_to e xs (sinks (source_of (top s.memory).me) s.memory) (pc + 1) st1 bs s)
  act_to by (Some ShowText) pc st bs s = on_value d st (λ v st1. does d bs s (of_still d (show_value_still v s.memory)) (pushes d (pc + 1) st1 bs))
  act_to by (Some (Show ends k)) pc st bs s = on_args d k st [] (λ xs st1. does d bs s (printed_rows d ends xs s.memory) (λ u s1. on d (pc + 1) st1 bs s1))
  act_to by (Some (Throw k)) pc st bs s = on_args d k st [] (λ xs st1. raises d (raised_by xs s.memory) bs s)
  act_to by (Some (LoopOff i)) pc st bs s = does d bs s (loop_off_rows d i s.memory) (λ u s1. on d (pc + 1) st bs s1)
  act_to by (Some (LoopOn x i compare t u)) pc st bs s =
      on_value d st (λ step st1. on_value d st1 (λ end st2. on_value d st2 (λ start st3. does d bs s (loop_on_rows d x i compare t u start end step s.memory) (tests d (pc + 1) st3 bs))))
  act_to by (Some (NextRound x i)) pc st bs s = does d bs s (next_round_rows d x i s.memory) (tests d (pc + 1) st bs)
  act_to by (Some (EachOff i)) pc st bs s = does d bs s (each_off_rows d i s.memory) (λ u s1. on d (pc + 1) st bs s1)
  act_to by (Some (EachOn i)) pc st bs s = on_value d st (λ v st1. does d bs s (each_begun_rows d i v s.memory) (lets_go d (pc + 1) st1 bs))
  act_to by (Some (NextItem x i)) pc st bs s = does d bs s (each_next_rows d x i s.memory) (tests d (pc + 1) st bs)
  act_to by (Some (Keep i)) pc st bs s = on_value d st (λ v st1. does d bs s (keep_rows d i v s.memory) (λ u s1. on d (pc + 1) st1 bs s1))
  act_to by (Some (Selected i)) pc st bs s = does d bs s (selected_rows d i s.memory) (pushes d (pc + 1) st bs)
  act_to by (Some (IfFits o compare of t to)) pc st bs s = on_value d st (λ w st1. on_value d st1 (λ v st2. does d bs s (of_still d (fits_still o compare of t v w s.memory)) (jumps d to (pc + 1) st2 bs)))
  act_to by (Some (IfBetween compare of t u to)) pc st bs s =
      on_value d st (λ y st1. on_value d st1 (λ x st2. on_value d st2 (λ v st3. does d bs s (of_still d (fits_between_still compare of t u v x y s.memory)) (jumps d to (pc + 1) st3 bs))))
  act_to by (Some (Redim preserve of k)) pc st bs s = on_args d k st [] (λ xs st1. on_path d st1 (λ q st2. does d bs s (redimmed_rows d preserve of q (slot_values xs) s.memory) (lets_go d (pc + 1) st2 bs)))
  act_to by (Some EraseAt) pc st bs s = on_path d st (λ q st1. does d bs s (erased_rows d q s.memory) (lets_go d (pc + 1) st1 bs))
  act_to by (Some (KeepPath i)) pc st bs s = on_path d st (λ q st1. does d bs s (keep_path_rows d i q s.memory) (λ u s1. on d (pc + 1) st1 bs s1))
  act_to by (Some (DropKept i)) pc st bs s = does d bs s (block_over_rows d i s.memory) (λ u s1. on d (pc + 1) st bs s1)
  act_to by (Some (PutReturn i)) pc st bs s = does d bs s (gone_sub_rows d i s.memory) (λ u s1. on d (pc + 1) st bs s1)
  act_to by (Some (TakeReturn p)) pc st bs s = does d bs s (returned_sub_rows d s.memory) (λ i s1. finishes_to d (entry_of code p i) bs s1)
  act_to by (Some (SetPolicy b)) pc st bs s = does d bs s (policy_on_rows d b s.memory) (λ u s1. on d (pc + 1) st bs s1)
  act_to by (Some HandlerOff) pc st bs s = does d bs s (handler_off_rows d s.memory) (λ u s1. on d (pc + 1) st bs s1)
  act_to by (Some ErrOff) pc st bs s = does d bs s (err_off_rows d s.memory) (λ u s1. on d (pc + 1) st bs s1)
  act_to by (Some (Again p)) pc st bs s = does d bs s (resumed_rows d kind.Again 0 s.memory) (λ i s1. finishes_to d (entry_of code p i) bs s1)
  act_to by (Some (Behind p)) pc st bs s = does d bs s (resumed_rows d kind.Next (next_statement code p (failed_statement s.memory)) s.memory) (λ i s1. finishes_to d (entry_of code p i) bs s1)
  act_to by (Some (Resumes p to)) pc st bs s = does d bs s (resumed_rows d (kind.Label (record { 0 = to })) 0 s.memory) (λ i s1. finishes_to d (entry_of code p i) bs s1)
  act_to by (Some (Finish to)) pc st bs s = finishes_to d to bs s
  act_to by (Some (Branch sense to other)) pc st bs s = on_value d st (λ v st1. does d bs s (of_still d (condition_still sense v s.memory)) (λ b s1. finishes_to d (if b then to else other) bs s1))
  act_to by (Some Halt) pc st bs s = ends_in d Ended s
  act_to by (Some StopHere) pc st bs s = does d bs s (stop_here_rows d s.memory) (λ u s1. on d (pc + 1) st bs s1)
  act_to by (Some Leave) pc st bs s = lets_all_to d Return bs s
