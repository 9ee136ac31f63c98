-- The machine that counts: beside the machine's state it stores a reference count for each object, and asks the stored
-- count whether a reference was the last one, where the machine of the theorems looks over the whole memory. Each step
-- first lowers the counts of what it gives up, then asks, and then raises the counts of what it has stored or holds.
use Rattle.std.specs.Prelude.{ℕ, zero, suc, ◌==◌, nat_lt, List, [], ◌∷◌, ◌++◌, length, map, Option, Some, None, if◌then◌else◌, slice_get}
use Rattle.vba_values.specs.declared.object.ObjId.{ObjId}
use Rattle.vba_values.specs.declared.object.ObjRef.TheVariants.{Heap}
use Rattle.vba_values.specs.Val.{Val, empty, object}
use Rattle.vba_events.specs.declared.linked.Linked.{Linked}
use Rattle.sheet_host.specs.declared.area.Area.{Area}
use Rattle.sheet_host.specs.Books.{Sheets}
use Rattle.bound_project.specs.Project.{class_at, first_values}
use Rattle.vba_meaning.specs.Paths.{Path}
use Rattle.vba_meaning.specs.Memory.{Ending, Going, Slot, value, path, Frame, Memory, top, frame_left, result, received, object_at}
use Rattle.vba_meaning.specs.References.{objects_in, objects_in_values, objects_in_slots, objects_kept, kept_value, hold, next_waiting, taken_off}
use Rattle.vba_meaning.specs.Effects.{Event, Effect, slot_values, startup_slots, read_path, selected}
use Rattle.vba_meaning.specs.Events.{source_of, sinks, due, lent_again, change, sheet_of, target_of, no_change}
use Rattle.vba_meaning.specs.Arrays.{part_of, kept_of}
use Rattle.vba_meaning.specs.Objects.{made, own_object, made_for, initialize_of}
use Rattle.vba_meaning.specs.Host.{is_counted, is_raise, item_by, assigned_at, item_assigned, member_assigned, member_called, written_default}
use Rattle.vba_meaning.specs.Library.{library_called}
use Rattle.vba_meaning.specs.ByName.{in_parameter_order}
use Rattle.vba_meaning.specs.Defaults.{Next, gives, then_call, is_instance, counted_operand, counted_if_any, enumerator_of, index_along, has_array, item_along, write_along, tasks_next, most_passed, most_calls}
use Rattle.vba_meaning.specs.LateBound.{late_there, value_bound, lends_place, place_copied, late_called, host_arguments, let_element, element_set, late_let, late_set}
use Rattle.vba_meaning.specs.Meaning.{State}
use Rattle.pcode.specs.Instructions.{Instr, ReadThrough, ElementOf, ElementIn, Index, PartOf, Plain, PlainIfAny, Enumerate, FindLate, BindValue, BindPlace, CallLate, LetLate, SetLate, ItemAlong, WriteThrough, LetElement, SetElement, ElementAlong, MemberOf, NamedOf, PushThis, New, MakeThere, StoreMade, Library, Call, CallOf, Store, SetAt, StoreDefault, StoreMember, StoreItem, RaiseEvent, LoopOn, NextRound, EachOn, NextItem, Keep, KeepPath, Selected, Redim, EraseAt, Code}
use Rattle.pcode.specs.Machine.{Return, Pass, Close, Mode, At, Letting, Back, Caller, EndOf, Delivering, Within, Config, Move, Goes, Ends, Sticks, Tells, Turns, Choices, base_below, step_by, first_move}
use Rattle.object_counts.specs.Counts.{count_of, raise_all, lower_all}
use Rattle.object_counts.specs.Gains.{gains_behind, given_gains, assigned_at_gains, set_at_gains, counted_gains, next_round_gains, each_begun_gains, each_next_gains, redimmed_gains, erased_gains, object_member_gains, member_gains, member_assigned_gains, place_at_gains, made_gains, made_for_gains, stored_made_gains, entered_gains}
use Rattle.object_counts.specs.UseGains.{counted_operand_gains, counted_if_any_gains, enumerator_gains, index_along_gains, item_along_gains, write_along_gains, tasks_gains, late_there_gains, value_bound_gains, place_copied_gains, late_called_gains, let_element_gains, element_set_gains, late_let_gains, late_set_gains}

-- the test for the last reference: the stored count is 0
abbrev pub by_counts : List ℕ → Choices
by_counts counts = record { is_last = λ m o. count_of counts o == 0; new_number = λ m. length m.objects }

-- ---- what a step gives up

-- all that is left in a frame
abbrev pub all_in : Frame → List ℕ
all_in f = objects_in_slots f.slots ++ (objects_kept f.keeps ++ (objects_in f.me ++ f.held))

-- the next one of the references that wait
abbrev pub front : List ℕ → List ℕ
front [] = []
front (o ∷ os) = o ∷ []

-- a step lets go of one waiting reference, or leaves a frame with all that is left in it; else it gives up nothing
abbrev pub lost : Mode → Memory → List ℕ
lost (Letting (suc k) after) m = front m.waiting
lost (Letting zero Return) m = all_in (top m)
lost (Letting zero (Pass e)) m = all_in (top m)
lost mode m = []

-- ---- what an instruction raises

-- by the value on top of the stack; where there is none the machine sticks
abbrev pub for_value : List Slot → (Val → List Slot → List ℕ) → List ℕ
for_value [] f = []
for_value (value v ∷ st) f = f v st
for_value (path p ∷ st) f = []

-- by the path on top
abbrev pub for_path : List Slot → (Path → List Slot → List ℕ) → List ℕ
for_path [] f = []
for_path (value v ∷ st) f = []
for_path (path p ∷ st) f = f p st

-- by so many operands
abbrev pub for_args : ℕ → List Slot → List Slot → (List Slot → List Slot → List ℕ) → List ℕ
for_args zero st xs f = f xs st
for_args (suc n) [] xs f = []
for_args (suc n) (x ∷ st) xs f = for_args n st (x ∷ xs) f

-- a call, unless 2000 calls stand
abbrev pub call_gains : Code → (procedure : ℕ) → Val → List Slot → List Frame → List ℕ
call_gains code p me xs frames = if nat_lt (length frames) 2000 then entered_gains code.declared p me xs else []

-- the Class_Initialize of a new object
abbrev pub initialize_gains : Code → Option ℕ → Val → List Frame → List ℕ
initialize_gains code None v frames = []
initialize_gains code (Some p) v frames = call_gains code p v [] frames

-- the first handler that is due for a link is called with its object as Me
abbrev pub handler_gains : Code → List Slot → (sink : ObjId) → Option ℕ → Memory → (more : List ℕ) → List ℕ
handler_gains code xs sink None m more = more
handler_gains code xs sink (Some p) m more = call_gains code p (object (Heap sink)) xs (lent_again xs m).frames

abbrev pub delivery_gains : Code → (event : ℕ) → List Slot → List Linked → Memory → List ℕ
delivery_gains code e xs [] m = []
delivery_gains code e xs (l ∷ ls) m = handler_gains code xs l.sink (due code.declared e l m) m (delivery_gains code e xs ls m)

-- that of Change, where an area was written
abbrev pub change_gains : Code → Option Area → Memory → List ℕ
change_gains code None m = []
change_gains code (Some a) m = delivery_gains code change (target_of a) (sinks (sheet_of a) m) (no_change m)

abbrev pub changed_gains : Code → Memory → List ℕ
changed_gains code m = change_gains code m.changed m

-- a member is used; Err.Raise holds nothing
abbrev pub uses_member_gains : Code → (name : List ℕ) → (base begun : Val) → List Val → Memory → List ℕ
uses_member_gains code name base begun vs m =
    if is_raise name base then []
    else if is_counted base then object_member_gains name vs base m
    else member_gains name vs base begun m ++ gains_behind (member_called code.declared name vs base begun m) (λ v m1. changed_gains code m1)

-- what a use comes to: Change is told where it wrote an area, or a call, where it may still make one
abbrev pub next_gains : Code → (left : ℕ) → Next → Memory → List ℕ
next_gains code k (gives v) m = changed_gains code m
next_gains code zero (then_call p me xs ts) m = []
next_gains code (suc k) (then_call p me xs ts) m = call_gains code p me xs m.frames

-- a use of an object: what it raises itself, and what it comes to
abbrev pub use_gains : Code → (left : ℕ) → List ℕ → Effect Next → List ℕ
use_gains code k gs e = gs ++ gains_behind e (next_gains code k)

-- an instruction, by its operands; of those that don't stand here none raises a count
abbrev pub act_gains : Code → Option Instr → List Slot → Memory → List ℕ
act_gains code (Some ReadThrough) st m = for_path st (λ q st1. given_gains (read_path q m))
act_gains code (Some (ElementOf k)) st m = for_path st (λ q st1. for_args k st1 [] (λ xs st2. place_at_gains q (slot_values xs) m))
act_gains code (Some (ElementIn k)) st m = for_args k st [] (λ xs st1. for_path st1 (λ q st2. place_at_gains q (slot_values xs) m))
act_gains code (Some (Index k)) st m = for_args k st [] (λ xs st1. for_value st1 (λ v st2. given_gains (item_by v (slot_values xs) m)))
act_gains code (Some (PartOf i)) st m = for_value st (λ v st1. given_gains (part_of i v m))
act_gains code (Some (MemberOf name k)) st m =
    for_args k st [] (λ xs st1. for_value st1 (λ w st2. for_value st2 (λ v st3. uses_member_gains code name v w (slot_values xs) m)))
act_gains code (Some (NamedOf name by k)) st m =
    for_args k st [] (λ xs st1. for_value st1 (λ w st2. for_value st2 (λ v st3. uses_member_gains code name v w (in_parameter_order v name by (slot_values xs)) m)))
act_gains code (Some (StoreMember name k)) st m =
    for_args k st [] (λ xs st1. for_value st1 (λ x st2. for_value st2 (λ w st3. for_value st3 (λ v st4.
    member_assigned_gains name (slot_values xs) w x m ++ gains_behind (member_assigned code.declared name (slot_values xs) w x v m) (λ u m1. changed_gains code m1)))))
act_gains code (Some (StoreItem k)) st m =
    for_args k st [] (λ xs st1. for_value st1 (λ w st2. for_value st2 (λ v st3.
    given_gains (item_by w (slot_values xs) m) ++ gains_behind (item_assigned w (slot_values xs) v m) (λ u m1. changed_gains code m1))))
act_gains code (Some StoreDefault) st m = for_value st (λ w st1. for_value st1 (λ v st2. gains_behind (written_default w v m) (λ u m1. changed_gains code m1)))
act_gains code (Some (Library f text_form compare base k)) st m =
    for_args k st [] (λ xs st1. given_gains (library_called code.declared f text_form compare base (slot_values xs) m))
act_gains code (Some Plain) st m = for_value st (λ v st1. if is_counted v then use_gains code most_calls (counted_operand_gains code.declared v m) (counted_operand code.declared v m) else [])
act_gains code (Some PlainIfAny) st m = for_value st (λ v st1. if is_counted v then use_gains code most_calls (counted_if_any_gains code.declared v m) (counted_if_any code.declared v m) else [])
act_gains code (Some Enumerate) st m = for_value st (λ v st1. use_gains code most_calls (enumerator_gains code.declared v m) (enumerator_of code.declared v m))
act_gains code (Some (FindLate aim name by gs)) st m =
    for_value st (λ v st1. use_gains code most_calls (late_there_gains code.declared aim name by gs v m) (late_there code.declared aim name by gs v m))
act_gains code (Some (BindValue aim name by gs i)) st m =
    for_value st (λ v st1. use_gains code most_calls (value_bound_gains code.declared aim name by gs i (base_below i st1) v m) (value_bound code.declared aim name by gs i (base_below i st1) v m))
act_gains code (Some (BindPlace aim name by gs i)) st m =
    for_path st (λ q st1.
    if lends_place code.declared aim name by gs i (base_below i st1) q m then []
    else use_gains code most_calls (place_copied_gains code.declared aim name by gs i (base_below i st1) q m) (place_copied code.declared aim name by gs i (base_below i st1) q m))
act_gains code (Some (CallLate name by gs)) st m =
    for_args (length gs) st [] (λ xs st1. for_value st1 (λ w st2. for_value st2 (λ v st3.
    if is_instance v m then use_gains code most_calls (late_called_gains code.declared name by gs v w (map received xs) m) (late_called code.declared name by gs v w (map received xs) m)
    else uses_member_gains code name v w (host_arguments v name by (map received xs)) m)))
act_gains code (Some (LetLate name by gs)) st m =
    for_args (length gs) st [] (λ xs st1. for_value st1 (λ x st2. for_value st2 (λ w st3. for_value st3 (λ v st4.
    use_gains code most_calls (late_let_gains code.declared name by gs w x (map received xs) v m) (late_let code.declared name by gs w x (map received xs) v m)))))
act_gains code (Some (SetLate name by gs)) st m =
    for_args (length gs) st [] (λ xs st1. for_value st1 (λ x st2. for_value st2 (λ w st3. for_value st3 (λ v st4.
    use_gains code most_calls (late_set_gains code.declared name by gs w x (map received xs) v m) (late_set code.declared name by gs w x (map received xs) v m)))))
act_gains code (Some (ItemAlong k)) st m =
    for_args k st [] (λ xs st1. for_value st1 (λ v st2.
    use_gains code most_calls (index_along_gains code.declared most_passed (slot_values xs) v m) (index_along code.declared most_passed (slot_values xs) v m)))
act_gains code (Some WriteThrough) st m =
    for_value st (λ w st1. for_value st1 (λ v st2. use_gains code most_calls (write_along_gains code.declared most_passed v w m) (write_along code.declared most_passed v w m)))
act_gains code (Some (LetElement k)) st m =
    for_args k st [] (λ xs st1. for_path st1 (λ q st2. for_value st2 (λ v st3.
    use_gains code most_calls (let_element_gains code.declared q (slot_values xs) v m) (let_element code.declared q (slot_values xs) v m))))
act_gains code (Some (SetElement k)) st m =
    for_args k st [] (λ xs st1. for_path st1 (λ q st2. for_value st2 (λ v st3.
    use_gains code most_calls (element_set_gains code.declared q (slot_values xs) v m) (element_set code.declared q (slot_values xs) v m))))
act_gains code (Some (ElementAlong k)) st m =
    for_args k st [] (λ xs st1. for_path st1 (λ q st2.
    if has_array q m then [] else use_gains code most_calls (item_along_gains code.declared q (slot_values xs) m) (item_along code.declared q (slot_values xs) m)))
act_gains code (Some PushThis) st m = given_gains (own_object m)
act_gains code (Some (Selected i)) st m = given_gains (selected i m)
act_gains code (Some (Keep i)) st m = for_value st (λ v st1. objects_in v)
act_gains code (Some (KeepPath i)) st m = for_path st (λ q st1. objects_in (kept_value (kept_of q)))
act_gains code (Some (New c)) st m =
    made_gains code.declared c m ++ gains_behind (made code.declared c m) (λ v m1. initialize_gains code (class_at code.declared c).initialize v m1.frames)
act_gains code (Some MakeThere) st m =
    for_path st (λ q st1. made_for_gains code.declared q m ++ gains_behind (made_for code.declared q m) (λ v m1. initialize_gains code (initialize_of code.declared q v) v m1.frames))
act_gains code (Some StoreMade) st m = for_value st (λ v st1. for_path st1 (λ q st2. stored_made_gains q v m))
act_gains code (Some (Call p k)) st m = for_args k st [] (λ xs st1. call_gains code p empty xs m.frames)
act_gains code (Some (CallOf p k)) st m = for_args k st [] (λ xs st1. for_value st1 (λ v st2. call_gains code p v xs m.frames))
act_gains code (Some Store) st m =
    for_path st (λ q st1. for_value st1 (λ v st2. assigned_at_gains q v m ++ gains_behind (assigned_at q v m) (λ u m1. changed_gains code m1)))
act_gains code (Some (RaiseEvent e k)) st m = for_args k st [] (λ xs st1. delivery_gains code e xs (sinks (source_of (top m).me) m) m)
act_gains code (Some SetAt) st m = for_path st (λ q st1. for_value st1 (λ v st2. set_at_gains q v m))
act_gains code (Some (LoopOn x i compare t u)) st m = for_value st (λ step st1. for_value st1 (λ end st2. for_value st2 (λ start st3. counted_gains x start m)))
act_gains code (Some (NextRound x i)) st m = next_round_gains x i m
act_gains code (Some (EachOn i)) st m = for_value st (λ v st1. each_begun_gains v m)
act_gains code (Some (NextItem x i)) st m = each_next_gains x i m
act_gains code (Some (Redim preserve of k)) st m =
    for_args k st [] (λ xs st1. for_path st1 (λ q st2. redimmed_gains code.declared preserve of q (slot_values xs) m))
act_gains code (Some EraseAt) st m = for_path st (λ q st1. erased_gains code.declared q m)
act_gains code _ st m = []

-- ---- what a step raises

-- a Class_Terminate has its object as Me
abbrev pub terminate_gains : Code → Option ℕ → (number : ℕ) → List Frame → List ℕ
terminate_gains code None o frames = []
terminate_gains code (Some p) o frames = call_gains code p (object (Heap (record { 0 = o }))) [] frames

-- where a turn is left, the last reference to an object calls its Class_Terminate, once
abbrev pub let_one_gains : Choices → Code → (bound : ℕ) → (number : ℕ) → State → List ℕ
let_one_gains by code bound o s =
    if by.is_last s.memory o
    then (if nat_lt s.begun bound then (if (object_at s.memory o).told then [] else terminate_gains code (class_at code.declared (object_at s.memory o).class).terminate o s.memory.frames) else [])
    else []

-- a variable of a module takes its first value
abbrev pub closing_gains : List Val → ℕ → (shared : List Val) → List ℕ
closing_gains [] g shared = []
closing_gains (v ∷ vs) g shared = if nat_lt g (length shared) then objects_in v else []

-- the caller's statement holds the result; behind a handler the next one is called
abbrev pub return_gains : Code → List Back → Memory → List ℕ
return_gains code [] m = closing_gains (first_values code.declared code.declared.shared) 0 m.shared
return_gains code (Caller ret st ∷ bs) m = objects_in (result m)
return_gains code (EndOf o k after ∷ bs) m = []
return_gains code (Within b k ts pc st ∷ bs) m =
    let m1 : Memory = hold (result m) (frame_left m) in
    objects_in (result m) ++ use_gains code k (tasks_gains code.declared ts (result m) m1) (tasks_next code.declared ts (result m) m1)
return_gains code (Delivering e xs ls ret st ∷ bs) m = objects_in (result m) ++ delivery_gains code e xs ls (hold (result m) (frame_left m))

-- a whole step
abbrev pub gained : Choices → Code → (bound : ℕ) → Mode → List Slot → List Back → State → List ℕ
gained by code bound (At pc) st bs s = act_gains code (slice_get code.instrs pc) st s.memory
gained by code bound (Letting (suc k) after) st bs s = let_one_gains by code bound (next_waiting s.memory.waiting) (record s { memory = taken_off s.memory })
gained by code bound (Letting zero Return) st bs s = return_gains code bs s.memory
gained by code bound (Letting zero (Pass e)) st bs s = objects_in (result s.memory)
gained by code bound (Letting zero (Close vs g)) st bs s = closing_gains vs g s.memory.shared
gained by code bound mode st bs s = []

-- ---- steps and runs

-- the counts once a step has given up what it gives up
abbrev pub lowered : List ℕ → Config → List ℕ
lowered counts c = lower_all counts (lost c.mode c.state.memory)

-- and once it is made
abbrev pub counted_after : Code → (bound : ℕ) → List ℕ → Config → List ℕ
counted_after code bound counts c = raise_all (lowered counts c) (gained (by_counts (lowered counts c)) code bound c.mode c.stack c.backs c.state)

-- where a run is after so many steps, or how it ended, with the counts that are stored there
pub data Outcome : Type 0 where
  Running : (counts : List ℕ) → Config → Outcome
  Finished : (counts : List ℕ) → Ending → State → List Event → Outcome
  Jammed : Outcome

-- events are told before
abbrev pub telling : List Event → Outcome → Outcome
telling es (Running counts c) = Running counts c
telling es (Finished counts e s more) = Finished counts e s (es ++ more)
telling es Jammed = Jammed

-- what comes of a move after which these counts are stored, with a bound on turns
abbrev pub follow_counted : (bound : ℕ) → List ℕ → Move → (List ℕ → Config → Outcome) → Outcome
follow_counted bound counts (Goes c) more = more counts c
follow_counted bound counts (Ends e s) more = Finished counts e s []
follow_counted bound counts Sticks more = Jammed
follow_counted bound counts (Tells es m) more = telling es (follow_counted bound counts m more)
follow_counted bound counts (Turns s m) more = if nat_lt s.begun bound then follow_counted bound counts m more else Finished counts Going s []

-- at most so many steps of the machine that counts
abbrev pub counting_machine : Code → (bound steps : ℕ) → List ℕ → Config → Outcome
counting_machine code bound zero counts c = Running counts c
counting_machine code bound (suc k) counts c =
    follow_counted bound (counted_after code bound counts c) (step_by (by_counts (lowered counts c)) code c) (counting_machine code bound k)

-- before the first step: what module variables begin with, and the call of the macro
abbrev pub first_counts : Code → List ℕ
first_counts code =
    raise_all [] (objects_in_values (first_values code.declared code.declared.shared) ++ entered_gains code.declared code.startup empty (startup_slots code.declared code.startup))

-- a run of a code that counts, with a bound on turns, of at most so many steps
abbrev pub run_counted : Code → Sheets → (bound steps : ℕ) → Outcome
run_counted code book bound k = follow_counted bound (first_counts code) (first_move code book) (counting_machine code bound k)
