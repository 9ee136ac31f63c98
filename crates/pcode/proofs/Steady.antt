-- The run of a well-formed code ends, and never lacks an operand or an instruction. A run goes on by turns, which are
-- bounded; between two turns each step leads nearer to the end of a statement, to fewer waiting references, or to fewer
-- calls that stand.
use Rattle.std.proofs.Common.{◌≡◌, ℕ, zero, suc, ◌+◌, ◌<◌, ◌≤◌, Bool, true, false, List, [], ◌∷◌, length, map, drop, Option, Some, None, inl, inr, refl, sym, ap, ◌∙◌, subst, arith}
use Rattle.std.specs.Prelude.{slice_get, slice_index, slice_index_or, nat_lt, if◌then◌else◌}
use Rattle.std.proofs.lemmas.Bool.{cases_lt, ltb-true}
use Rattle.std.proofs.lemmas.List.{get_or_past}
use Rattle.std.proofs.lemmas.Option.{slice_get_past, slice_get_within}
use Rattle.vba_values.specs.declared.object.ObjRef.TheVariants.{Host}
use Rattle.vba_values.specs.Val.{Val, boolean, empty, missing, object}
use Rattle.error_frames.specs.declared.frame.Taken.{Taken}
use Rattle.error_frames.specs.declared.frame.Taken.TheVariants as taken
use Rattle.vba_events.specs.declared.linked.Linked.{Linked}
use Rattle.sheet_host.specs.declared.area.Area.{Area}
use Rattle.sheet_host.specs.Books.{Sheets}
use Rattle.bound_project.specs.Whole.{All}
use Rattle.bound_project.specs.Project.{class_at, first_values}
use Rattle.vba_meaning.specs.Paths.{Path, field_path}
use Rattle.vba_meaning.specs.Memory.{Error, Ending, Ended, Faulted, Going, Slot, value, path, Object, top, path_of, error_here, frame_left, result, received, object_at}
use Rattle.vba_meaning.specs.References.{objects_in, objects_in_values, hold, held_by, is_last, next_waiting, taken_off, let_frame, as_told, gone, closed}
use Rattle.vba_meaning.specs.Effects.{Event, Effect, Fine, Bad-at, Out, Tell, plain, lent, slot_values, packed, reordered, printed, loop_off, keep, selected, gone_sub, policy_on, handler_off, err_off, stop_here, taken_by, err_of}
use Rattle.vba_meaning.specs.Events.{source_of, sinks, due, lent_again, raise_over, change, sheet_of, target_of, no_change}
use Rattle.vba_meaning.specs.Arrays.{each_off, block_over, keep_path}
use Rattle.vba_meaning.specs.Host.{is_counted, object_member, is_raise, error_given, assigned_at, item_assigned, member_assigned, member_called, written_default, path_to}
use Rattle.vba_meaning.specs.ByName.{in_parameter_order}
use Rattle.vba_meaning.specs.Library.{plain_if_any}
use Rattle.vba_meaning.specs.Defaults.{Next, gives, then_call, is_instance, counted_operand, counted_if_any, enumerator_of, index_along, has_array, element_by, item_along, write_along, tasks_next, most_passed, most_calls}
use Rattle.vba_meaning.specs.LateBound.{late_there, value_bound, lends_place, place_copied, late_called, host_arguments, let_element, element_set, late_let, late_set}
use Rattle.vba_meaning.specs.Meaning.{State, with_memory, turned, left}
use Rattle.vba_meaning.specs.Objects.{made, own_object, made_for, initialize_of, stored_made, made_at}
use Rattle.pcode.specs.Instructions.{Instr, Begin, Push, PushHost, LoadErr, PathOf, ReadThrough, ElementOf, ElementIn, FieldOf, Dot, Index, PartOf, Operate, OperateAlone, Plain, PlainIfAny, Enumerate, FirstSheet, MemberThere, MemberOf, NamedThere, NamedOf, PushThis, New, ObjectThere, FieldIn, AsNew, MakeThere, StoreMade, FindLate, BindValue, BindPlace, CallLate, LetLate, SetLate, ItemAlong, WriteThrough, LetElement, SetElement, ElementAlong, LateField, PlaceOf, Same, IsType, Library, BoundAt, Fit, FitObject, Drop, Lend, Pack, Reorder, Lift, Call, CallOf, Store, SetAt, StoreDefault, StoreMember, StoreItem, SetMember, RaiseEvent, ShowText, Show, Throw, LoopOff, LoopOn, NextRound, EachOff, EachOn, NextItem, Keep, Selected, IfFits, IfBetween, Redim, EraseAt, KeepPath, DropKept, PutReturn, TakeReturn, SetPolicy, HandlerOff, ErrOff, Again, Behind, Resumes, Finish, Branch, Halt, StopHere, Leave, Code, list_or, entry_of}
use Rattle.pcode.specs.Machine.{After, Goes-on, Decide, Return, Back-to, Pass, Close, Back, Caller, EndOf, Delivering, Within, Config, Move, Goes, Ends, Tells, Turns, at, failing, letting, lets_all, finishes, raised, done_then, then_at, then_push, then_push_path, then_let_go, then_branch, pops, pops_path, take_args, pushed, left_as, follows, uses, base_below, uses_member, initializes, calls_handler, delivers, tells_change, then_changes, then_changes_push, looking, act, finished_by, terminates_by, ends_by, closing, returned_by, passed_on, next_by, takes, comes_by, step, Fin, Done, Unfinished, Stuck, tells, follow, machine, first_move, run_code}
use Rattle.pcode.specs.WellFormed.{Kind, a_value, a_path, Way, no_way, brings, value_off, path_off, taken_off as kinds_off, kinds_pushed, kinds_reordered, along, along_rest, along_all, Leads, Sound, statement_count, first_address, WellFormed}
use Rattle.pcode.specs.Steady.{HasEnded, Steady}
use Rattle.pcode.proofs.OneEnd.{Final, one_end}

-- ---- the ways to an address

-- what a way through instructions brings to one of them
abbrev before : List Instr → Way → ℕ → Option Way
before is w zero = Some w
before [] w (suc pc) = None
before (i ∷ is) w (suc pc) = along_rest (along i w) (λ v. before is v pc)

abbrev way_or : Option Way → Way
way_or None = no_way
way_or (Some w) = w

same_way : (v w : Way) → Some v ≡ Some w → v ≡ w
same_way v w e = ap way_or e

abbrev instr_or : Option Instr → Instr
instr_or None = Leave
instr_or (Some i) = i

same_instr : (i j : Instr) → Some i ≡ Some j → i ≡ j
same_instr i j e = ap instr_or e

-- a way to an instruction leads on behind it
abbrev OnFrom : List Instr → Way → ℕ → Instr → Way → Type 0
OnFrom is w pc i v = (u : Way) × ((along i v ≡ Some u) × (before is w (suc pc) ≡ Some u))

on_from_first : (i : Instr) (is : List Instr) (w end : Way) (o : Option Way) → along i w ≡ o → along_rest o (along_all is) ≡ Some end → OnFrom (i ∷ is) w zero i w
on_from_first i is w end None e all = absurd cc
on_from_first i is w end (Some u) e all = (u, (e, ap (λ x. along_rest x (λ v. before is v zero)) e))

on_from : (is : List Instr) (w v end : Way) (pc : ℕ) (i : Instr) → along_all is w ≡ Some end → before is w pc ≡ Some v → slice_get is pc ≡ Some i → OnFrom is w pc i v
on_from [] w v end pc i all b e = absurd cc
on_from (j ∷ is) w v end zero i all b e =
    let same-i : j ≡ i = same_instr j i e in
    let same-w : w ≡ v = same_way w v b in
    subst (λ x. OnFrom (j ∷ is) w zero x v) same-i (subst (λ x. OnFrom (j ∷ is) w zero j x) same-w (on_from_first j is w end (along j w) refl all))
on_from (j ∷ is) w v end (suc pc) i all b e = deeper (λ x h k. on_from is x v end pc i h k e) (along j w) refl all b where
  deeper : ((x : Way) → along_all is x ≡ Some end → before is x pc ≡ Some v → OnFrom is x pc i v) → (o : Option Way) → along j w ≡ o → along_rest o (along_all is) ≡ Some end
      → along_rest o (λ x. before is x pc) ≡ Some v → OnFrom (j ∷ is) w (suc pc) i v
  deeper further None eq all b = absurd cc
  deeper further (Some x) eq all b =
      let r = further x all b in
      (r.0, (r.1.0, ap (λ y. along_rest y (λ z. before is z (suc pc))) eq ∙ r.1.1))

-- to each instruction there is a way, and where a way brings operands there is an instruction
some_way : (is : List Instr) (w end : Way) (pc : ℕ) (i : Instr) → along_all is w ≡ Some end → slice_get is pc ≡ Some i → (v : Way) × (before is w pc ≡ Some v)
some_way [] w end pc i all e = absurd cc
some_way (j ∷ is) w end zero i all e = (w, refl)
some_way (j ∷ is) w end (suc pc) i all e = deeper (λ x h. some_way is x end pc i h e) (along j w) all where
  deeper : ((x : Way) → along_all is x ≡ Some end → (v : Way) × (before is x pc ≡ Some v)) → (o : Option Way) → along_rest o (along_all is) ≡ Some end → (v : Way) × (along_rest o (λ x. before is x pc) ≡ Some v)
  deeper further None all = absurd cc
  deeper further (Some x) all = further x all

some_instr : (is : List Instr) (w : Way) (pc : ℕ) (ks : List Kind) → along_all is w ≡ Some no_way → before is w pc ≡ Some (brings ks) → (i : Instr) × (slice_get is pc ≡ Some i)
some_instr [] w zero ks all b = absurd (let e : no_way ≡ brings ks = same_way no_way (brings ks) (sym all ∙ b) in cc)
some_instr [] w (suc pc) ks all b = absurd cc
some_instr (j ∷ is) w zero ks all b = (j, refl)
some_instr (j ∷ is) w (suc pc) ks all b = deeper (λ x h k. some_instr is x pc ks h k) (along j w) all b where
  deeper : ((x : Way) → along_all is x ≡ Some no_way → before is x pc ≡ Some (brings ks) → (i : Instr) × (slice_get is pc ≡ Some i)) → (o : Option Way) → along_rest o (along_all is) ≡ Some no_way
      → along_rest o (λ x. before is x pc) ≡ Some (brings ks) → (i : Instr) × (slice_get is pc ≡ Some i)
  deeper further None all b = absurd cc
  deeper further (Some x) all b = further x all b

-- behind a statement's beginning the stack is empty
begun : (i : ℕ) (v u : Way) → along (Begin i) v ≡ Some u → Some u ≡ Some (brings [])
begun i no_way u e = sym e
begun i (brings ks) u e = absurd cc

-- each address behind the first one is of a procedure
of_procedure : (t : List (List ℕ)) (end pc : ℕ) → first_address t end ≤ pc → pc < end
    → (p : ℕ) × (0 < length (list_or (slice_get t p))) × (slice_index (list_or (slice_get t p)) 0 ≤ pc) × (pc < first_address (drop (suc p) t) end)
of_procedure [] end pc low high = absurd (omega arith)
of_procedure ([] ∷ t) end pc low high = let r = of_procedure t end pc low high in (suc r.0, r.1, r.2, r.3)
of_procedure ((e ∷ es) ∷ t) end pc low high =
    elim (cases_lt pc (first_address t end)) [ inl h ↦ (zero, omega arith, low, h) | inr h ↦ (let r = of_procedure t end pc h high in (suc r.0, r.1, r.2, r.3)) ]

-- the numbers of each instruction but Leave are sound
sound_behind : (code : Code) → WellFormed code → (pc : ℕ) (i : Instr) (ks : List Kind) (u : Way) → slice_get code.instrs pc ≡ Some i → along i (brings ks) ≡ Some u → (q : ℕ) × Sound code q i
sound_behind code well zero i ks u e a = absurd (let x : along Leave (brings ks) ≡ Some u = subst (λ j. along j (brings ks) ≡ Some u) (sym (same_instr Leave i (sym well.leave ∙ e))) a in cc)
sound_behind code well (suc pc) i ks u e a =
    let r = of_procedure code.entries (length code.instrs) (suc pc) (omega (arith, well.first)) (slice_get_within code.instrs (suc pc) i e) in
    (r.0, well.sound r.0 (suc pc) i (r.1, r.2, r.3) e)

-- a statement begins at an address, or procedures end there
data Lands (code : Code) (pc : ℕ) : Type 0 where
  begins : (i : ℕ) → slice_get code.instrs pc ≡ Some (Begin i) → Lands code pc
  leaves : slice_get code.instrs pc ≡ Some Leave → Lands code pc

-- the address of each statement is one, and past the last one it is that of Leave
entry_lands : (code : Code) → WellFormed code → (p i : ℕ) → Lands code (entry_of code p i)
entry_lands code well p i =
    elim (cases_lt i (statement_count code p)) [
      | inl h ↦ begins i (well.entries p i h).0
      | inr h ↦ leaves (ap (slice_get code.instrs) (get_or_past (list_or (slice_get code.entries p)) i 0 h) ∙ well.leave)
    ]

-- ---- kinds of operands

abbrev kind_of : Slot → Kind
kind_of (value v) = a_value
kind_of (path q) = a_path

abbrev kinds_of : List Slot → List Kind
kinds_of [] = []
kinds_of (x ∷ st) = kind_of x ∷ kinds_of st

pushed_kinds : (xs st : List Slot) → kinds_of (pushed xs st) ≡ kinds_pushed (kinds_of xs) (kinds_of st)
pushed_kinds [] st = refl
pushed_kinds (x ∷ xs) st = pushed_kinds xs (x ∷ st)

indexed_kind : (xs : List Slot) (i : ℕ) → kind_of (slice_index_or xs i (value missing)) ≡ slice_index_or (kinds_of xs) i a_value
indexed_kind [] i = refl
indexed_kind (x ∷ xs) zero = refl
indexed_kind (x ∷ xs) (suc i) = indexed_kind xs i

reordered_kinds : (order : List ℕ) (xs : List Slot) → kinds_of (reordered order xs) ≡ kinds_reordered order (kinds_of xs)
reordered_kinds [] xs = refl
reordered_kinds (i ∷ order) xs = ap (λ k. k ∷ kinds_of (reordered order xs)) (indexed_kind xs i) ∙ ap (λ ks. slice_index_or (kinds_of xs) i a_value ∷ ks) (reordered_kinds order xs)

-- ---- moves that lead to an end

record Stops (code : Code) (bound : ℕ) (m : Move) : Type 0 where
  steps : ℕ
  ends : HasEnded (follow bound m (machine code bound steps))

told_ended : (es : List Event) (x : Fin) → HasEnded x → HasEnded (tells es x)
told_ended es (Done e s more) h = tt
told_ended es Unfinished h = h
told_ended es Stuck h = h

turn_ended : (x : ℕ → Fin) (z : Fin) (b : Bool) → (b ≡ true → (j : ℕ) × HasEnded (x j)) → HasEnded z → (j : ℕ) × HasEnded (if b then x j else z)
turn_ended x z true h g = h refl
turn_ended x z false h g = (0, g)

module _ {code : Code} {bound : ℕ} where
  stepped : (c : Config) → Stops code bound (step code c) → Stops code bound (Goes c)
  stepped c h = record { steps = suc h.steps; ends = h.ends }

  over : (e : Ending) (s : State) → Stops code bound (Ends e s)
  over e s = record { steps = 0; ends = tt }

  telling : (es : List Event) (m : Move) → Stops code bound m → Stops code bound (Tells es m)
  telling es m h = record { steps = h.steps; ends = told_ended es (follow bound m (machine code bound h.steps)) h.ends }

  turning : (s : State) (m : Move) → (s.begun < bound → Stops code bound m) → Stops code bound (Turns s m)
  turning s m h =
      let r = turn_ended (λ j. follow bound m (machine code bound j)) (Done Going s []) (nat_lt s.begun bound) (λ e. (let x = h (ltb-true s.begun bound e) in (x.steps, x.ends))) tt in
      record { steps = r.0; ends = r.1 }

  either : (b : Bool) {m m' : Move} → Stops code bound m → Stops code bound m' → Stops code bound (if b then m else m')
  either true h h' = h
  either false h h' = h'

abbrev Enough : (bound n : ℕ) → State → Type 0
Enough bound n s = bound ≤ s.begun + n

-- a way leads to an address with this stack
abbrev Here : Code → ℕ → List Slot → Type 0
Here code pc st = before code.instrs no_way pc ≡ Some (brings (kinds_of st))

-- the kind of what a use leaves
abbrev kind_left : Bool → Kind
kind_left true = a_path
kind_left false = a_value

left_kind : (b : Bool) (v : Val) → kind_of (left_as b v) ≡ kind_left b
left_kind true v = refl
left_kind false v = refl

abbrev GoodAfter : Code → After → Type 0
GoodAfter code (Goes-on pc) = Lands code pc
GoodAfter code (Decide e) = Unit {0}
GoodAfter code Return = Unit {0}
GoodAfter code (Back-to pc st) = Here code pc st
GoodAfter code (Pass e) = Unit {0}
GoodAfter code (Close vs g) = Unit {0}

abbrev GoodBack : Code → Back → Type 0
GoodBack code (Caller ret st) = before code.instrs no_way ret ≡ Some (brings (a_value ∷ kinds_of st))
GoodBack code (EndOf o k after) = GoodAfter code after
GoodBack code (Within b k ts pc st) = before code.instrs no_way pc ≡ Some (brings (kind_left b ∷ kinds_of st))
GoodBack code (Delivering e xs ls ret st) = Here code ret st

-- the machine comes to an end from wherever so many turns are left
record Known (code : Code) (bound n : ℕ) : Type 0 where
  inside : (pc : ℕ) (st : List Slot) (bs : List Back) (s : State) → Here code pc st → All (GoodBack code) bs → Enough bound n s → Stops code bound (Goes (at pc st bs s))
  start : (pc : ℕ) (bs : List Back) (s : State) → Lands code pc → All (GoodBack code) bs → Enough bound n s → Stops code bound (Goes (at pc [] bs s))
  fails : (e : Error) (bs : List Back) (s : State) → All (GoodBack code) bs → Enough bound n s → Stops code bound (Goes (failing e bs s))
  lets_go : (k : ℕ) (after : After) (bs : List Back) (s : State) → GoodAfter code after → All (GoodBack code) bs → Enough bound n s → Stops code bound (Goes (letting k after bs s))

-- what comes when the frame over these calls is left
record Left-well (code : Code) (bound n : ℕ) (bs : List Back) : Type 0 where
  good : All (GoodBack code) bs
  returns : (v : Val) (s : State) → Enough bound n s → Stops code bound (returned_by looking code bs v s)
  passes : (e : Error) (s : State) → Enough bound n s → Stops code bound (passed_on bs e s)

by_turn : (code : Code) (bound n : ℕ) → ((m : ℕ) → n ≡ suc m → Known code bound m) → (m : Move) (s : State) → Enough bound n s
    → ((d : ℕ) → Known code bound d → Enough bound d (turned s) → Stops code bound m) → Stops code bound (Turns s m)
by_turn code bound zero later m s good h = turning s m (λ lt. absurd (let k : bound ≤ s.begun + 0 = good in omega arith))
by_turn code bound (suc d) later m s good h = turning s m (λ lt. h d (later d refl) (let k : bound ≤ s.begun + suc d = good in omega arith))

module _ (code : Code) (well : WellFormed code) (bound : ℕ) where
  start_lands : (p : ℕ) → Lands code (slice_index code.starts p)
  start_lands p = subst (Lands code) (sym (well.starts p)) (entry_lands code well p 0)

  module _ (d : ℕ) (known : Known code bound d) where
    finished_stops : (o k : ℕ) (after : After) (bs : List Back) (s : State) → GoodAfter code after → All (GoodBack code) bs → Enough bound d s → Stops code bound (finished_by looking o k after bs s)
    finished_stops o k after bs s h g good =
        either (is_last s.memory o) (known.lets_go (length (objects_in_values (object_at s.memory o).fields) + k) after bs (with_memory s (gone o s.memory)) h g good) (known.lets_go k after bs s h g good)

    terminates_stops : (t : Option ℕ) (o k : ℕ) (after : After) (bs : List Back) (s : State) → GoodAfter code after → All (GoodBack code) bs → Enough bound d s → Stops code bound (terminates_by looking code t o k after bs s)
    terminates_stops None o k after bs s h g good = finished_stops o k after bs s h g good
    terminates_stops (Some p) o k after bs s h g good =
        either (nat_lt (length s.memory.frames) 2000)
        (turning _ _ (λ lt. known.start (slice_index code.starts p) (EndOf o k after ∷ bs) _ (start_lands p) (h, g) (let e : bound ≤ s.begun + d = good in omega arith)))
        (turning s _ (λ lt. telling _ _ (over (Faulted (error_here 28 s.memory)) (turned s))))

    ends_stops : (b : Object) (o k : ℕ) (after : After) (bs : List Back) (s : State) → GoodAfter code after → All (GoodBack code) bs → Enough bound d s → Stops code bound (ends_by looking code b o k after bs s)
    ends_stops b o k after bs s h g good =
        either b.told (finished_stops o k after bs s h g good)
        (telling _ _ (terminates_stops (class_at code.declared b.class).terminate o k after bs s h g good))

  module _ (n : ℕ) (later : (m : ℕ) → n ≡ suc m → Known code bound m) where
    raises : (e : Error) (bs : List Back) (s : State) → All (GoodBack code) bs → Enough bound n s → Stops code bound (raised e bs s)
    raises e bs s g good = by_turn code bound n later _ s good (λ d known h. telling _ _ (known.fails e bs (turned s) g h))

    does : {A : Type 0} (e : Effect A) (bs : List Back) (s : State) (go : A → State → Move) → All (GoodBack code) bs → Enough bound n s
        → ((v : A) (s1 : State) → Enough bound n s1 → Stops code bound (go v s1)) → Stops code bound (done_then e bs s go)
    does (Fine v m) bs s go g good h = h v (with_memory s m) good
    does (Bad-at k m) bs s go g good h = raises (error_here k m) bs (with_memory s m) g good
    does (Out w m) bs s go g good h = over _ (with_memory s m)
    does (Tell es e) bs s go g good h = telling es _ (does e bs s go g good h)

    -- references are let go, and what comes then
    letting_stops : (bs : List Back) (after : After) → All (GoodBack code) bs → GoodAfter code after → ((s : State) → Enough bound n s → Stops code bound (comes_by looking code after bs s))
        → (k : ℕ) (s : State) → Enough bound n s → Stops code bound (Goes (letting k after bs s))
    letting_stops bs after g h go zero s good = stepped (letting 0 after bs s) (go s good)
    letting_stops bs after g h go (suc k) s good =
        let t : State = with_memory s (taken_off s.memory) in
        let o : ℕ = next_waiting s.memory.waiting in
        stepped (letting (suc k) after bs s)
        (either (is_last t.memory o)
        (by_turn code bound n later _ t good (λ d known e. ends_stops d known (object_at t.memory o) o k after bs (with_memory (turned t) (as_told o t.memory)) h g e))
        (letting_stops bs after g h go k t good))

    closes : (vs : List Val) (g : ℕ) (s : State) → Enough bound n s → Stops code bound (closing vs g s)
    closes [] g s good = over Ended s
    closes (v ∷ vs) g s good =
        letting_stops [] (Close vs (g + 1)) tt tt (λ s1 g1. closes vs (g + 1) s1 g1) (length (objects_in (slice_index_or s.memory.shared g empty))) (with_memory s (closed g v s.memory)) good

    module _ (bs : List Back) (l : Left-well code bound n bs) where
      leaves_stops : (s : State) → Enough bound n s → Stops code bound (lets_all Return bs s)
      leaves_stops s good =
          letting_stops bs Return l.good tt (λ s1 g1. l.returns (result s1.memory) (with_memory s1 (frame_left s1.memory)) g1) (length (held_by (top s.memory))) (with_memory s (let_frame s.memory)) good

      pass_stops : (e : Error) (s : State) → Enough bound n s → Stops code bound (lets_all (Pass e) bs s)
      pass_stops e s good =
          letting_stops bs (Pass e) l.good tt (λ s1 g1. l.passes e (with_memory s1 (left s1.memory)) g1) (length (held_by (top s.memory))) (with_memory s (let_frame s.memory)) good

      instr_stops : (i : Instr) (pc : ℕ) (st : List Slot) (s : State) → slice_get code.instrs pc ≡ Some i → Stops code bound (act looking code (Some i) pc st bs s) → Stops code bound (Goes (at pc st bs s))
      instr_stops i pc st s e h = stepped (at pc st bs s) (subst (λ o. Stops code bound (act looking code o pc st bs s)) (sym e) h)

      behind_begin : (pc i : ℕ) → slice_get code.instrs pc ≡ Some (Begin i) → Here code (pc + 1) []
      behind_begin pc i e =
          let v = some_way code.instrs no_way no_way pc (Begin i) well.operands e in
          let r = on_from code.instrs no_way v.0 no_way pc (Begin i) well.operands v.1 e in
          let k : suc pc ≡ pc + 1 = omega arith in
          subst (λ m. before code.instrs no_way m ≡ Some (brings [])) k (r.1.1 ∙ begun i v.0 r.0 r.1.0)

      starts : (pc : ℕ) (s : State) → Lands code pc → Enough bound n s → Stops code bound (Goes (at pc [] bs s))
      starts pc s (begins i e) good =
          instr_stops (Begin i) pc [] s e (by_turn code bound n later _ s good (λ d known h. known.inside (pc + 1) [] bs _ (behind_begin pc i e) l.good h))
      starts pc s (leaves e) good = instr_stops Leave pc [] s e (leaves_stops s good)

      finishing : (to : ℕ) (s : State) → Lands code to → Enough bound n s → Stops code bound (finishes to bs s)
      finishing to s h good = letting_stops bs (Goes-on to) l.good h (λ s1 g1. starts to s1 h g1) _ _ good

      taking : (e : Error) (t : Taken) (s : State) → Enough bound n s → Stops code bound (takes code e t bs s)
      taking e (taken.Next to) s good = starts _ _ (entry_lands code well (top s.memory).procedure to.0) good
      taking e (taken.Handler to) s good = starts _ _ (entry_lands code well (top s.memory).procedure to.0) good
      taking e taken.PassOn s good = pass_stops e s good

      failing_stops : (e : Error) (s : State) → Enough bound n s → Stops code bound (Goes (failing e bs s))
      failing_stops e s good = stepped (failing e bs s) (letting_stops bs (Decide e) l.good tt (λ s1 g1. taking e (taken_by (next_by code s1.memory) s1.memory) s1 g1) _ _ good)

      -- ---- instructions inside of statements

      value_off_stops : (st : List Slot) (go : Val → List Slot → Move) (kinds : List Kind → Option Way) (u : Way) → value_off (kinds_of st) kinds ≡ Some u
          → ((v : Val) (st1 : List Slot) → kinds (kinds_of st1) ≡ Some u → Stops code bound (go v st1)) → Stops code bound (pops st go)
      value_off_stops [] go kinds u e h = absurd cc
      value_off_stops (value v ∷ st) go kinds u e h = h v st e
      value_off_stops (path q ∷ st) go kinds u e h = absurd cc

      path_off_stops : (st : List Slot) (go : Path → List Slot → Move) (kinds : List Kind → Option Way) (u : Way) → path_off (kinds_of st) kinds ≡ Some u
          → ((q : Path) (st1 : List Slot) → kinds (kinds_of st1) ≡ Some u → Stops code bound (go q st1)) → Stops code bound (pops_path st go)
      path_off_stops [] go kinds u e h = absurd cc
      path_off_stops (value v ∷ st) go kinds u e h = absurd cc
      path_off_stops (path q ∷ st) go kinds u e h = h q st e

      off_stops : (k : ℕ) (st ys : List Slot) (go : List Slot → List Slot → Move) (kinds : List Kind → List Kind → Option Way) (u : Way) → kinds_off k (kinds_of st) (kinds_of ys) kinds ≡ Some u
          → ((xs st1 : List Slot) → kinds (kinds_of xs) (kinds_of st1) ≡ Some u → Stops code bound (go xs st1)) → Stops code bound (take_args k st ys go)
      off_stops zero st ys go kinds u e h = h ys st e
      off_stops (suc k) [] ys go kinds u e h = absurd cc
      off_stops (suc k) (x ∷ st) ys go kinds u e h = off_stops k st (x ∷ ys) go kinds u e h

      branching : (b : Bool) (to other : ℕ) (s : State) → Lands code to → Lands code other → Enough bound n s → Stops code bound (then_branch to other bs b s)
      branching true to other s h h' good = finishing to s h good
      branching false to other s h h' good = finishing other s h' good

      leads_there : (p to : ℕ) → Leads code p to → Lands code to
      leads_there p to h = subst (Lands code) (sym h.2) (entry_lands code well p h.0)

      -- handlers are called, and what comes behind them
      handler_stops : (o : Option ℕ) (e : ℕ) (xs : List Slot) (x : Linked) (ls : List Linked) (pc : ℕ) (st : List Slot) (s : State) (more : Move) → Here code pc st → Enough bound n s
          → Stops code bound more → Stops code bound (calls_handler code e xs x ls o pc st bs s more)
      handler_stops None e xs x ls pc st s more way good h = h
      handler_stops (Some p) e xs x ls pc st s more way good h =
          let s1 : State = with_memory s (lent_again xs s.memory) in
          either (nat_lt (length s1.memory.frames) 2000)
          (by_turn code bound n later _ _ good (λ d known g. known.start (slice_index code.starts p) (Delivering e xs ls pc st ∷ bs) _ (start_lands p) (way, l.good) g))
          (raises (error_here 28 s1.memory) bs s1 l.good good)

      delivers_stops : (e : ℕ) (xs : List Slot) (ls : List Linked) (pc : ℕ) (st : List Slot) (s : State) → Here code pc st → Enough bound n s
          → ((s1 : State) → Enough bound n s1 → Stops code bound (Goes (at pc st bs s1))) → Stops code bound (delivers code e xs ls pc st bs s)
      delivers_stops e xs [] pc st s way good on = on (with_memory s (raise_over xs s.memory)) good
      delivers_stops e xs (x ∷ ls) pc st s way good on =
          handler_stops (due code.declared e x s.memory) e xs x ls pc st s (delivers code e xs ls pc st bs s) way good (delivers_stops e xs ls pc st s way good on)

      change_stops : (o : Option Area) (pc : ℕ) (st : List Slot) (s : State) → Here code pc st → Enough bound n s
          → ((s1 : State) → Enough bound n s1 → Stops code bound (Goes (at pc st bs s1))) → Stops code bound (tells_change code o pc st bs s)
      change_stops None pc st s way good on = on s good
      change_stops (Some a) pc st s way good on = delivers_stops change (target_of a) (sinks (sheet_of a) s.memory) pc st (with_memory s (no_change s.memory)) way good on

      -- cells may be written
      writes_stop : {A : Type 0} (effect : Effect A) (pc : ℕ) (st : List Slot) (s : State) → Here code pc st → Enough bound n s
          → ((s1 : State) → Enough bound n s1 → Stops code bound (Goes (at pc st bs s1))) → Stops code bound (done_then effect bs s (then_changes code pc st bs))
      writes_stop effect pc st s way good on = does effect bs s (then_changes code pc st bs) l.good good (λ x s1 g1. change_stops s1.memory.changed pc st s1 way g1 on)

      -- a use of an object goes on
      follows_stops : (b : Bool) (k pc : ℕ) (st : List Slot) (x : Next) (s : State) → before code.instrs no_way pc ≡ Some (brings (kind_left b ∷ kinds_of st)) → Enough bound n s
          → ((v : Val) (s1 : State) → Enough bound n s1 → Stops code bound (Goes (at pc (left_as b v ∷ st) bs s1))) → Stops code bound (follows code b k pc st bs x s)
      follows_stops b k pc st (gives v) s way good on =
          change_stops s.memory.changed pc (left_as b v ∷ st) s (way ∙ ap (λ k. Some (brings (k ∷ kinds_of st))) (sym (left_kind b v))) good (on v)
      follows_stops b zero pc st (then_call p me xs ts) s way good on = raises (error_here 450 s.memory) bs s l.good good
      follows_stops b (suc k) pc st (then_call p me xs ts) s way good on =
          either (nat_lt (length s.memory.frames) 2000)
          (by_turn code bound n later _ _ good (λ d known g. known.start (slice_index code.starts p) (Within b k ts pc st ∷ bs) _ (start_lands p) (way, l.good) g))
          (raises (error_here 28 s.memory) bs s l.good good)

      -- an instruction that uses one
      uses_stops : (b : Bool) (e : Effect Next) (pc : ℕ) (st : List Slot) (s : State) (u : Way) → Enough bound n s → before code.instrs no_way pc ≡ Some u → Some (brings (kind_left b ∷ kinds_of st)) ≡ Some u
          → ((st1 : List Slot) (s1 : State) → Enough bound n s1 → Some (brings (kinds_of st1)) ≡ Some u → Stops code bound (Goes (at pc st1 bs s1))) → Stops code bound (uses code b e pc st bs s)
      uses_stops b e pc st s u good after h on =
          does e bs s (follows code b most_calls pc st bs) l.good good (λ x s1 g1.
          follows_stops b most_calls pc st x s1 (after ∙ sym h) g1 (λ v s2 g2. on (left_as b v ∷ st) s2 g2 (ap (λ k. Some (brings (k ∷ kinds_of st))) (left_kind b v) ∙ h)))

      -- a member of the host or of a Collection
      member_stops : (name : List ℕ) (v w : Val) (vs : List Val) (pc : ℕ) (st : List Slot) (s : State) (u : Way) → Enough bound n s → before code.instrs no_way pc ≡ Some u → Some (brings (a_value ∷ kinds_of st)) ≡ Some u
          → ((st1 : List Slot) (s1 : State) → Enough bound n s1 → Some (brings (kinds_of st1)) ≡ Some u → Stops code bound (Goes (at pc st1 bs s1))) → Stops code bound (uses_member code name v w vs pc st bs s)
      member_stops name v w vs pc st s u good after h on =
          either (is_raise name v)
          (does (error_given vs s.memory) bs s (λ error s1. raised error bs s1) l.good good (λ error s1 g1. raises error bs s1 l.good g1))
          (either (is_counted v)
          (does (object_member name vs v s.memory) bs s (λ r s1. then_let_go pc (value r.0 ∷ st) bs r.1 s1) l.good good (λ r s1 g1.
          letting_stops bs (Back-to pc (value r.0 ∷ st)) l.good (after ∙ sym h) (λ s2 g2. on (value r.0 ∷ st) s2 g2 h) r.1 s1 g1))
          (does (member_called code.declared name vs v w s.memory) bs s (then_changes_push code pc st bs) l.good good (λ x s1 g1.
          change_stops s1.memory.changed pc (value x ∷ st) s1 (after ∙ sym h) g1 (λ s2 g2. on (value x ∷ st) s2 g2 h))))

      -- a new object is made, and its Class_Initialize called
      initial_stops : (o : Option ℕ) (v : Val) (pc : ℕ) (st : List Slot) (s : State) → before code.instrs no_way pc ≡ Some (brings (a_value ∷ a_value ∷ kinds_of st)) → Enough bound n s
          → Stops code bound (Goes (at pc (value empty ∷ value v ∷ st) bs s)) → Stops code bound (initializes code o v pc st bs s)
      initial_stops None v pc st s way good h = h
      initial_stops (Some p) v pc st s way good h =
          either (nat_lt (length s.memory.frames) 2000)
          (by_turn code bound n later _ _ good (λ d known g. known.start (slice_index code.starts p) (Caller pc (value v ∷ st) ∷ bs) _ (start_lands p) (way, l.good) g))
          (raises (error_here 28 s.memory) bs s l.good good)

      -- one instruction, with what is known of the next one
      acts : (i : Instr) (pc : ℕ) (st : List Slot) (s : State) (u : Way) → Enough bound n s → before code.instrs no_way (pc + 1) ≡ Some u
          → ((st1 : List Slot) (s1 : State) → Enough bound n s1 → Some (brings (kinds_of st1)) ≡ Some u → Stops code bound (Goes (at (pc + 1) st1 bs s1)))
          → along i (brings (kinds_of st)) ≡ Some u → (q : ℕ) → Sound code q i → Stops code bound (act looking code (Some i) pc st bs s)
      acts (Begin i) pc st s u good after on e q h = absurd cc
      acts (Push v) pc st s u good after on e q h = on (value v ∷ st) s good e
      acts (PushHost reference) pc st s u good after on e q h = on (value (object (Host reference)) ∷ st) s good e
      acts (LoadErr member) pc st s u good after on e q h = on (value (err_of code.declared member s.memory.err) ∷ st) s good e
      acts (PathOf x) pc st s u good after on e q h = on (path (path_of s.memory x) ∷ st) s good e
      acts ReadThrough pc st s u good after on e q h = path_off_stops st _ _ u e (λ q st1 e1. does _ bs s _ l.good good (λ v s1 g1. on (value v ∷ st1) s1 g1 e1))
      acts (ElementOf k) pc st s u good after on e q h =
          path_off_stops st _ _ u e (λ q st1 e1. off_stops k st1 [] _ _ u e1 (λ xs st2 e2. does _ bs s _ l.good good (λ p s1 g1. on (path p ∷ st2) s1 g1 e2)))
      acts (ElementIn k) pc st s u good after on e q h =
          off_stops k st [] _ _ u e (λ xs st1 e1. path_off_stops st1 _ _ u e1 (λ q st2 e2. does _ bs s _ l.good good (λ p s1 g1. on (path p ∷ st2) s1 g1 e2)))
      acts (FieldOf i of bounded) pc st s u good after on e q h = path_off_stops st _ _ u e (λ q st1 e1. on (path (field_path q i of bounded) ∷ st1) s good e1)
      acts (Dot i) pc st s u good after on e q h = does _ bs s _ l.good good (λ p s1 g1. on (path p ∷ st) s1 g1 e)
      acts (Index k) pc st s u good after on e q h =
          off_stops k st [] _ _ u e (λ xs st1 e1. value_off_stops st1 _ _ u e1 (λ v st2 e2. does _ bs s _ l.good good (λ w s1 g1. on (value w ∷ st2) s1 g1 e2)))
      acts (PartOf i) pc st s u good after on e q h = value_off_stops st _ _ u e (λ v st1 e1. does _ bs s _ l.good good (λ w s1 g1. on (value w ∷ st1) s1 g1 e1))
      acts (OperateAlone o of) pc st s u good after on e q h = value_off_stops st _ _ u e (λ v st1 e1. does _ bs s _ l.good good (λ w s1 g1. on (value w ∷ st1) s1 g1 e1))
      acts Plain pc st s u good after on e q h =
          value_off_stops st _ _ u e (λ v st1 e1.
          either (is_counted v) (uses_stops false (counted_operand code.declared v s.memory) (pc + 1) st1 s u good after e1 on)
          (does (plain v s.memory) bs s (then_push (pc + 1) st1 bs) l.good good (λ w s1 g1. on (value w ∷ st1) s1 g1 e1)))
      acts PlainIfAny pc st s u good after on e q h =
          value_off_stops st _ _ u e (λ v st1 e1.
          either (is_counted v) (uses_stops false (counted_if_any code.declared v s.memory) (pc + 1) st1 s u good after e1 on)
          (does (plain_if_any v s.memory) bs s (then_push (pc + 1) st1 bs) l.good good (λ w s1 g1. on (value w ∷ st1) s1 g1 e1)))
      acts (FindLate aim name how gs) pc st s u good after on e q h =
          value_off_stops st _ _ u e (λ v st1 e1. uses_stops false (late_there code.declared aim name how gs v s.memory) (pc + 1) (value v ∷ st1) s u good after e1 on)
      acts (BindValue aim name how gs i) pc st s u good after on e q h =
          value_off_stops st _ _ u e (λ v st1 e1. uses_stops false (value_bound code.declared aim name how gs i (base_below i st1) v s.memory) (pc + 1) st1 s u good after e1 on)
      acts (BindPlace aim name how gs i) pc st s u good after on e q h =
          path_off_stops st _ _ u e (λ p st1 e1.
          either (lends_place code.declared aim name how gs i (base_below i st1) p s.memory)
          (does (lent p s.memory) bs s (then_at (pc + 1) (path p ∷ st1) bs) l.good good (λ x s1 g1. on (path p ∷ st1) s1 g1 e1))
          (uses_stops true (place_copied code.declared aim name how gs i (base_below i st1) p s.memory) (pc + 1) st1 s u good after e1 on))
      acts (CallLate name how gs) pc st s u good after on e q h =
          off_stops (length gs) st [] _ _ u e (λ xs st1 e1. value_off_stops st1 _ _ u e1 (λ w st2 e2. value_off_stops st2 _ _ u e2 (λ v st3 e3.
          either (is_instance v s.memory) (uses_stops false (late_called code.declared name how gs v w (map received xs) s.memory) (pc + 1) st3 s u good after e3 on)
          (member_stops name v w (host_arguments v name how (map received xs)) (pc + 1) st3 s u good after e3 on))))
      acts (LetLate name how gs) pc st s u good after on e q h =
          off_stops (length gs) st [] _ _ u e (λ xs st1 e1. value_off_stops st1 _ _ u e1 (λ x st2 e2. value_off_stops st2 _ _ u e2 (λ w st3 e3. value_off_stops st3 _ _ u e3 (λ v st4 e4.
          uses_stops false (late_let code.declared name how gs w x (map received xs) v s.memory) (pc + 1) st4 s u good after e4 on))))
      acts (SetLate name how gs) pc st s u good after on e q h =
          off_stops (length gs) st [] _ _ u e (λ xs st1 e1. value_off_stops st1 _ _ u e1 (λ x st2 e2. value_off_stops st2 _ _ u e2 (λ w st3 e3. value_off_stops st3 _ _ u e3 (λ v st4 e4.
          uses_stops false (late_set code.declared name how gs w x (map received xs) v s.memory) (pc + 1) st4 s u good after e4 on))))
      acts (ItemAlong k) pc st s u good after on e q h =
          off_stops k st [] _ _ u e (λ xs st1 e1. value_off_stops st1 _ _ u e1 (λ v st2 e2.
          uses_stops false (index_along code.declared most_passed (slot_values xs) v s.memory) (pc + 1) st2 s u good after e2 on))
      acts WriteThrough pc st s u good after on e q h =
          value_off_stops st _ _ u e (λ w st1 e1. value_off_stops st1 _ _ u e1 (λ v st2 e2. uses_stops false (write_along code.declared most_passed v w s.memory) (pc + 1) st2 s u good after e2 on))
      acts (LetElement k) pc st s u good after on e q h =
          off_stops k st [] _ _ u e (λ xs st1 e1. path_off_stops st1 _ _ u e1 (λ p st2 e2. value_off_stops st2 _ _ u e2 (λ v st3 e3.
          uses_stops false (let_element code.declared p (slot_values xs) v s.memory) (pc + 1) st3 s u good after e3 on)))
      acts (SetElement k) pc st s u good after on e q h =
          off_stops k st [] _ _ u e (λ xs st1 e1. path_off_stops st1 _ _ u e1 (λ p st2 e2. value_off_stops st2 _ _ u e2 (λ v st3 e3.
          uses_stops false (element_set code.declared p (slot_values xs) v s.memory) (pc + 1) st3 s u good after e3 on)))
      acts (ElementAlong k) pc st s u good after on e q h =
          off_stops k st [] _ _ u e (λ xs st1 e1. path_off_stops st1 _ _ u e1 (λ p st2 e2.
          either (has_array p s.memory)
          (does (element_by p (slot_values xs) s.memory) bs s (then_push_path (pc + 1) st2 bs) l.good good (λ r s1 g1. on (path r ∷ st2) s1 g1 e2))
          (uses_stops true (item_along code.declared p (slot_values xs) s.memory) (pc + 1) st2 s u good after e2 on)))
      acts (LateField name) pc st s u good after on e q h = value_off_stops st _ _ u e (λ v st1 e1. does _ bs s _ l.good good (λ p s1 g1. on (path p ∷ st1) s1 g1 e1))
      acts Enumerate pc st s u good after on e q h = value_off_stops st _ _ u e (λ v st1 e1. uses_stops false (enumerator_of code.declared v s.memory) (pc + 1) st1 s u good after e1 on)
      acts PlaceOf pc st s u good after on e q h = value_off_stops st _ _ u e (λ v st1 e1. on (path (path_to v) ∷ st1) s good e1)
      acts PushThis pc st s u good after on e q h = does (own_object s.memory) bs s (then_push (pc + 1) st bs) l.good good (λ v s1 g1. on (value v ∷ st) s1 g1 e)
      acts (New c) pc st s u good after on e q h =
          does (made code.declared c s.memory) bs s (λ v s1. initializes code (class_at code.declared c).initialize v (pc + 1) st bs s1) l.good good (λ v s1 g1. initial_stops (class_at code.declared c).initialize v (pc + 1) st s1 (after ∙ sym e) g1 (on (value empty ∷ value v ∷ st) s1 g1 e))
      acts ObjectThere pc st s u good after on e q h = value_off_stops st _ _ u e (λ v st1 e1. does _ bs s _ l.good good (λ w s1 g1. on (value w ∷ st1) s1 g1 e1))
      acts (FieldIn i of bounded) pc st s u good after on e q h = value_off_stops st _ _ u e (λ v st1 e1. does _ bs s _ l.good good (λ p s1 g1. on (path p ∷ st1) s1 g1 e1))
      acts (AsNew c) pc st s u good after on e q h = path_off_stops st _ _ u e (λ q st1 e1. on (path (made_at c q) ∷ st1) s good e1)
      acts MakeThere pc st s u good after on e q h =
          path_off_stops st _ _ u e (λ q st1 e1. does (made_for code.declared q s.memory) bs s (λ v s1. initializes code (initialize_of code.declared q v) v (pc + 1) (path q ∷ st1) bs s1) l.good good (λ v s1 g1.
          initial_stops (initialize_of code.declared q v) v (pc + 1) (path q ∷ st1) s1 (after ∙ sym e1) g1 (on (value empty ∷ value v ∷ path q ∷ st1) s1 g1 e1)))
      acts StoreMade pc st s u good after on e q h =
          value_off_stops st _ _ u e (λ v st1 e1. path_off_stops st1 _ _ u e1 (λ q st2 e2. does (stored_made q v s.memory) bs s (then_at (pc + 1) (path q ∷ st2) bs) l.good good (λ x s1 g1. on (path q ∷ st2) s1 g1 e2)))
      acts (IsType of) pc st s u good after on e q h = value_off_stops st _ _ u e (λ v st1 e1. does _ bs s _ l.good good (λ w s1 g1. on (value w ∷ st1) s1 g1 e1))
      acts (Fit of) pc st s u good after on e q h = value_off_stops st _ _ u e (λ v st1 e1. does _ bs s _ l.good good (λ w s1 g1. on (value w ∷ st1) s1 g1 e1))
      acts (FitObject of) pc st s u good after on e q h = value_off_stops st _ _ u e (λ v st1 e1. does _ bs s _ l.good good (λ w s1 g1. on (value w ∷ st1) s1 g1 e1))
      acts ShowText pc st s u good after on e q h = value_off_stops st _ _ u e (λ v st1 e1. does _ bs s _ l.good good (λ w s1 g1. on (value w ∷ st1) s1 g1 e1))
      acts (Operate o compare a b) pc st s u good after on e q h =
          value_off_stops st _ _ u e (λ w st1 e1. value_off_stops st1 _ _ u e1 (λ v st2 e2. does _ bs s _ l.good good (λ x s1 g1. on (value x ∷ st2) s1 g1 e2)))
      acts Same pc st s u good after on e q h =
          value_off_stops st _ _ u e (λ w st1 e1. value_off_stops st1 _ _ u e1 (λ v st2 e2. does _ bs s _ l.good good (λ x s1 g1. on (value x ∷ st2) s1 g1 e2)))
      acts FirstSheet pc st s u good after on e q h = does _ bs s _ l.good good (λ v s1 g1. on (value v ∷ st) s1 g1 e)
      acts (MemberThere name k) pc st s u good after on e q h =
          value_off_stops st _ _ u e (λ v st1 e1. does _ bs s _ l.good good (λ w s1 g1. on (value w ∷ value v ∷ st1) s1 g1 e1))
      acts (MemberOf name k) pc st s u good after on e q h =
          off_stops k st [] _ _ u e (λ xs st1 e1. value_off_stops st1 _ _ u e1 (λ w st2 e2. value_off_stops st2 _ _ u e2 (λ v st3 e3.
          member_stops name v w (slot_values xs) (pc + 1) st3 s u good after e3 on)))
      acts (NamedThere name by k) pc st s u good after on e q h =
          value_off_stops st _ _ u e (λ v st1 e1. does _ bs s _ l.good good (λ w s1 g1. on (value w ∷ value v ∷ st1) s1 g1 e1))
      acts (NamedOf name by k) pc st s u good after on e q h =
          off_stops k st [] _ _ u e (λ xs st1 e1. value_off_stops st1 _ _ u e1 (λ w st2 e2. value_off_stops st2 _ _ u e2 (λ v st3 e3.
          member_stops name v w (in_parameter_order v name by (slot_values xs)) (pc + 1) st3 s u good after e3 on)))
      acts (StoreMember name k) pc st s u good after on e q h =
          off_stops k st [] _ _ u e (λ xs st1 e1.
          value_off_stops st1 _ _ u e1 (λ x st2 e2. value_off_stops st2 _ _ u e2 (λ w st3 e3. value_off_stops st3 _ _ u e3 (λ v st4 e4.
          writes_stop (member_assigned code.declared name (slot_values xs) w x v s.memory) (pc + 1) st4 s (after ∙ sym e4) good (λ s1 g1. on st4 s1 g1 e4)))))
      acts (Library f text_form compare base k) pc st s u good after on e q h = off_stops k st [] _ _ u e (λ xs st1 e1. does _ bs s _ l.good good (λ v s1 g1. on (value v ∷ st1) s1 g1 e1))
      acts (BoundAt upper z) pc st s u good after on e q h = path_off_stops st _ _ u e (λ q st1 e1. does _ bs s _ l.good good (λ v s1 g1. on (value v ∷ st1) s1 g1 e1))
      acts Drop pc st s u good after on e q h = value_off_stops st _ _ u e (λ v st1 e1. on st1 s good e1)
      acts Lend pc st s u good after on e q h = path_off_stops st _ _ u e (λ q st1 e1. does (lent q s.memory) bs s (then_at (pc + 1) (path q ∷ st1) bs) l.good good (λ v s1 g1. on (path q ∷ st1) s1 g1 e1))
      acts (Pack k) pc st s u good after on e q h = off_stops k st [] _ _ u e (λ xs st1 e1. on (value (packed xs) ∷ st1) s good e1)
      acts (Reorder order k) pc st s u good after on e q h =
          off_stops k st [] _ _ u e (λ xs st1 e1. on (pushed (reordered order xs) st1) s good (ap (λ ks. Some (brings ks)) (pushed_kinds (reordered order xs) st1 ∙ ap (λ ks. kinds_pushed ks (kinds_of st1)) (reordered_kinds order xs)) ∙ e1))
      acts (Lift k) pc st s u good after on e q h =
          off_stops k st [] _ _ u e (λ xs st1 e1. value_off_stops st1 _ _ u e1 (λ v st2 e2. on (value v ∷ pushed xs st2) s good (ap (λ ks. Some (brings (a_value ∷ ks))) (pushed_kinds xs st2) ∙ e2)))
      acts (Call p k) pc st s u good after on e q h =
          off_stops k st [] _ _ u e (λ xs st1 e1.
          either (nat_lt (length s.memory.frames) 2000)
          (by_turn code bound n later _ _ good (λ d known g. known.start (slice_index code.starts p) (Caller (pc + 1) st1 ∷ bs) _ (start_lands p) (after ∙ sym e1, l.good) g))
          (raises (error_here 28 s.memory) bs s l.good good))
      acts (CallOf p k) pc st s u good after on e q h =
          off_stops k st [] _ _ u e (λ xs st1 e1. value_off_stops st1 _ _ u e1 (λ v st2 e2.
          either (nat_lt (length s.memory.frames) 2000)
          (by_turn code bound n later _ _ good (λ d known g. known.start (slice_index code.starts p) (Caller (pc + 1) st2 ∷ bs) _ (start_lands p) (after ∙ sym e2, l.good) g))
          (raises (error_here 28 s.memory) bs s l.good good)))
      acts Store pc st s u good after on e q h =
          path_off_stops st _ _ u e (λ q st1 e1. value_off_stops st1 _ _ u e1 (λ v st2 e2. writes_stop (assigned_at q v s.memory) (pc + 1) st2 s (after ∙ sym e2) good (λ s1 g1. on st2 s1 g1 e2)))
      acts SetAt pc st s u good after on e q h = path_off_stops st _ _ u e (λ q st1 e1. value_off_stops st1 _ _ u e1 (λ v st2 e2. does _ bs s _ l.good good (λ x s1 g1. on st2 s1 g1 e2)))
      acts StoreDefault pc st s u good after on e q h =
          value_off_stops st _ _ u e (λ w st1 e1. value_off_stops st1 _ _ u e1 (λ v st2 e2. writes_stop (written_default w v s.memory) (pc + 1) st2 s (after ∙ sym e2) good (λ s1 g1. on st2 s1 g1 e2)))
      acts (StoreItem k) pc st s u good after on e q h =
          off_stops k st [] _ _ u e (λ xs st1 e1. value_off_stops st1 _ _ u e1 (λ w st2 e2. value_off_stops st2 _ _ u e2 (λ v st3 e3.
          writes_stop (item_assigned w (slot_values xs) v s.memory) (pc + 1) st3 s (after ∙ sym e3) good (λ s1 g1. on st3 s1 g1 e3))))
      acts SetMember pc st s u good after on e q h =
          value_off_stops st _ _ u e (λ w st1 e1. value_off_stops st1 _ _ u e1 (λ v st2 e2. does _ bs s _ l.good good (λ t s1 g1. on st2 s1 g1 e2)))
      acts (RaiseEvent event k) pc st s u good after on e q h =
          off_stops k st [] _ _ u e (λ xs st1 e1. delivers_stops event xs (sinks (source_of (top s.memory).me) s.memory) (pc + 1) st1 s (after ∙ sym e1) good (λ s1 g1. on st1 s1 g1 e1))
      acts (Show ends k) pc st s u good after on e q h = off_stops k st [] _ _ u e (λ xs st1 e1. does (printed ends xs s.memory) bs s (then_at (pc + 1) st1 bs) l.good good (λ x s1 g1. on st1 s1 g1 e1))
      acts (Throw k) pc st s u good after on e q h = off_stops k st [] _ _ u e (λ xs st1 e1. raises _ bs s l.good good)
      acts (LoopOff i) pc st s u good after on e q h = does (loop_off i s.memory) bs s (then_at (pc + 1) st bs) l.good good (λ x s1 g1. on st s1 g1 e)
      acts (EachOff i) pc st s u good after on e q h = does (each_off i s.memory) bs s (then_at (pc + 1) st bs) l.good good (λ x s1 g1. on st s1 g1 e)
      acts (DropKept i) pc st s u good after on e q h = does (block_over i s.memory) bs s (then_at (pc + 1) st bs) l.good good (λ x s1 g1. on st s1 g1 e)
      acts (PutReturn i) pc st s u good after on e q h = does (gone_sub i s.memory) bs s (then_at (pc + 1) st bs) l.good good (λ x s1 g1. on st s1 g1 e)
      acts (SetPolicy b) pc st s u good after on e q h = does (policy_on b s.memory) bs s (then_at (pc + 1) st bs) l.good good (λ x s1 g1. on st s1 g1 e)
      acts HandlerOff pc st s u good after on e q h = does (handler_off s.memory) bs s (then_at (pc + 1) st bs) l.good good (λ x s1 g1. on st s1 g1 e)
      acts ErrOff pc st s u good after on e q h = does (err_off s.memory) bs s (then_at (pc + 1) st bs) l.good good (λ x s1 g1. on st s1 g1 e)
      acts StopHere pc st s u good after on e q h = does (stop_here s.memory) bs s (then_at (pc + 1) st bs) l.good good (λ x s1 g1. on st s1 g1 e)
      acts (LoopOn x i compare a b) pc st s u good after on e q h =
          value_off_stops st _ _ u e (λ v st1 e1. value_off_stops st1 _ _ u e1 (λ w st2 e2. value_off_stops st2 _ _ u e2 (λ y st3 e3. does _ bs s _ l.good good (λ b s1 g1. on (value (boolean b) ∷ st3) s1 g1 e3))))
      acts (NextRound x i) pc st s u good after on e q h = does _ bs s _ l.good good (λ b s1 g1. on (value (boolean b) ∷ st) s1 g1 e)
      acts (NextItem x i) pc st s u good after on e q h = does _ bs s _ l.good good (λ b s1 g1. on (value (boolean b) ∷ st) s1 g1 e)
      acts (EachOn i) pc st s u good after on e q h =
          value_off_stops st _ _ u e (λ v st1 e1. does _ bs s _ l.good good (λ k s1 g1. letting_stops bs (Back-to (pc + 1) st1) l.good (after ∙ sym e1) (λ s2 g2. on st1 s2 g2 e1) k s1 g1))
      acts (Keep i) pc st s u good after on e q h = value_off_stops st _ _ u e (λ v st1 e1. does (keep i v s.memory) bs s (then_at (pc + 1) st1 bs) l.good good (λ x s1 g1. on st1 s1 g1 e1))
      acts (Selected i) pc st s u good after on e q h = does (selected i s.memory) bs s (then_push (pc + 1) st bs) l.good good (λ v s1 g1. on (value v ∷ st) s1 g1 e)
      acts (IfFits o compare of t to) pc st s u good after on e q h =
          value_off_stops st _ _ u e (λ w st1 e1. value_off_stops st1 _ _ u e1 (λ v st2 e2. does _ bs s _ l.good good (λ b s1 g1.
          either b (finishing to s1 (leads_there q to h) g1) (on st2 s1 g1 e2))))
      acts (IfBetween compare of t t1 to) pc st s u good after on e q h =
          value_off_stops st _ _ u e (λ y st1 e1. value_off_stops st1 _ _ u e1 (λ x st2 e2. value_off_stops st2 _ _ u e2 (λ v st3 e3. does _ bs s _ l.good good (λ b s1 g1.
          either b (finishing to s1 (leads_there q to h) g1) (on st3 s1 g1 e3)))))
      acts (Redim preserve of k) pc st s u good after on e q h =
          off_stops k st [] _ _ u e (λ xs st1 e1. path_off_stops st1 _ _ u e1 (λ p st2 e2. does _ bs s _ l.good good (λ j s1 g1.
          letting_stops bs (Back-to (pc + 1) st2) l.good (after ∙ sym e2) (λ s2 g2. on st2 s2 g2 e2) j s1 g1)))
      acts EraseAt pc st s u good after on e q h =
          path_off_stops st _ _ u e (λ p st1 e1. does _ bs s _ l.good good (λ j s1 g1. letting_stops bs (Back-to (pc + 1) st1) l.good (after ∙ sym e1) (λ s2 g2. on st1 s2 g2 e1) j s1 g1))
      acts (KeepPath i) pc st s u good after on e q h = path_off_stops st _ _ u e (λ p st1 e1. does (keep_path i p s.memory) bs s (then_at (pc + 1) st1 bs) l.good good (λ x s1 g1. on st1 s1 g1 e1))
      acts (TakeReturn p) pc st s u good after on e q h = does _ bs s _ l.good good (λ i s1 g1. finishing (entry_of code p i) s1 (entry_lands code well p i) g1)
      acts (Again p) pc st s u good after on e q h = does _ bs s _ l.good good (λ i s1 g1. finishing (entry_of code p i) s1 (entry_lands code well p i) g1)
      acts (Behind p) pc st s u good after on e q h = does _ bs s _ l.good good (λ i s1 g1. finishing (entry_of code p i) s1 (entry_lands code well p i) g1)
      acts (Resumes p to) pc st s u good after on e q h = does _ bs s _ l.good good (λ i s1 g1. finishing (entry_of code p i) s1 (entry_lands code well p i) g1)
      acts (Finish to) pc st s u good after on e q h = finishing to s (leads_there q to h) good
      acts (Branch sense to other) pc st s u good after on e q h =
          value_off_stops st _ _ u e (λ v st1 e1. does _ bs s _ l.good good (λ b s1 g1. branching b to other s1 (leads_there q to h.0) (leads_there q other h.1) g1))
      acts Halt pc st s u good after on e q h = over Ended s
      acts Leave pc st s u good after on e q h = absurd cc

      -- so many addresses are left at most
      inside_stops : (d pc : ℕ) (st : List Slot) (s : State) → length code.instrs ≤ pc + d → Here code pc st → Enough bound n s → Stops code bound (Goes (at pc st bs s))
      inside_stops zero pc st s far way good =
          let i = some_instr code.instrs no_way pc (kinds_of st) well.operands way in
          absurd (let e = sym (slice_get_past code.instrs pc (omega (arith, far))) ∙ i.1 in cc)
      inside_stops (suc d) pc st s far way good =
          let i = some_instr code.instrs no_way pc (kinds_of st) well.operands way in
          let r = on_from code.instrs no_way (brings (kinds_of st)) no_way pc i.0 well.operands way i.1 in
          let k : suc pc ≡ pc + 1 = omega arith in
          let after = subst (λ m. before code.instrs no_way m ≡ Some r.0) k r.1.1 in
          let sound = sound_behind code well pc i.0 (kinds_of st) r.0 i.1 r.1.0 in
          instr_stops i.0 pc st s i.1
          (acts i.0 pc st s r.0 good after (λ st1 s1 g1 e1. inside_stops d (pc + 1) st1 s1 (omega (arith, far)) (after ∙ sym e1) g1) r.1.0 sound.0 sound.1)

      inside_code : (pc : ℕ) (st : List Slot) (s : State) → Here code pc st → Enough bound n s → Stops code bound (Goes (at pc st bs s))
      inside_code pc st s way good = inside_stops (length code.instrs) pc st s (omega arith) way good

      coming : (after : After) (s : State) → GoodAfter code after → Enough bound n s → Stops code bound (comes_by looking code after bs s)
      coming (Goes-on pc) s h good = starts pc s h good
      coming (Decide e) s h good = taking e (taken_by (next_by code s.memory) s.memory) s good
      coming (Back-to pc st) s h good = inside_code pc st s h good
      coming Return s h good = l.returns (result s.memory) (with_memory s (frame_left s.memory)) good
      coming (Pass e) s h good = l.passes e (with_memory s (left s.memory)) good
      coming (Close vs g) s h good = closes vs g s good

      let_all : (k : ℕ) (after : After) (s : State) → GoodAfter code after → Enough bound n s → Stops code bound (Goes (letting k after bs s))
      let_all k after s h good = letting_stops bs after l.good h (λ s1 g1. coming after s1 h g1) k s good

    left_well : (bs : List Back) → All (GoodBack code) bs → Left-well code bound n bs
    left_well [] g = record { good = tt; returns = λ v s good. closes (first_values code.declared code.declared.shared) 0 s good; passes = λ e s good. over (Faulted e) s }
    left_well (Caller ret st ∷ bs) g =
        let l = left_well bs g.1 in
        record {
          good = g;
          returns = λ v s good. inside_code bs l ret (value v ∷ st) (with_memory s (hold v s.memory)) g.0 good;
          passes = λ e s good. failing_stops bs l e s good;
        }
    left_well (Delivering e xs ls ret st ∷ bs) g =
        let l = left_well bs g.1 in
        record {
          good = g;
          returns = λ v s good. delivers_stops bs l e xs ls ret st (with_memory s (hold v s.memory)) g.0 good (λ s1 g1. inside_code bs l ret st s1 g.0 g1);
          passes = λ error s good. failing_stops bs l error s good;
        }
    left_well (EndOf o k after ∷ bs) g =
        let l = left_well bs g.1 in
        record {
          good = g;
          returns = λ v s good. either (is_last s.memory o)
              (let_all bs l (length (objects_in_values (object_at s.memory o).fields) + k) after (with_memory s (gone o s.memory)) g.0 good) (let_all bs l k after s g.0 good);
          passes = λ e s good. over (Faulted e) s;
        }
    left_well (Within b k ts pc st ∷ bs) g =
        let l = left_well bs g.1 in
        record {
          good = g;
          returns = λ v s good. (
              let s1 : State = with_memory s (hold v s.memory) in
              does (tasks_next code.declared ts v s1.memory) bs s1 (follows code b k pc st bs) l.good good (λ x s2 g2.
              follows_stops bs l b k pc st x s2 g.0 g2 (λ w s3 g3. inside_code bs l pc (left_as b w ∷ st) s3 (g.0 ∙ ap (λ x. Some (brings (x ∷ kinds_of st))) (sym (left_kind b w))) g3)));
          passes = λ e s good. failing_stops bs l e s good;
        }

    known_now : Known code bound n
    known_now = record {
      inside = λ pc st bs s way g good. inside_code bs (left_well bs g) pc st s way good;
      start = λ pc bs s h g good. starts bs (left_well bs g) pc s h good;
      fails = λ e bs s g good. failing_stops bs (left_well bs g) e s good;
      lets_go = λ k after bs s h g good. let_all bs (left_well bs g) k after s h good;
    }

  known_all : (n : ℕ) → Known code bound n
  known_all zero = known_now 0 (λ m e. absurd cc)
  known_all (suc n) = known_now (suc n) (λ m e. (let k : n ≡ m = omega (arith, e) in subst (Known code bound) k (known_all n)))

  first_stops : (book : Sheets) → Stops code bound (first_move code book)
  first_stops book = turning _ _ (λ lt. (known_all bound).start (slice_index code.starts code.startup) [] _ (start_lands code.startup) tt (omega arith))

ended_final : (x : Fin) → HasEnded x → Final x
ended_final (Done e s es) h = tt
ended_final Unfinished h = h
ended_final Stuck h = tt

-- each run of a well-formed code ends, and none sticks
pub steady : (code : Code) → WellFormed code → Steady code
steady code well = record {
  ends = λ book bound. (let h = first_stops code well bound book in (h.steps, h.ends));
  never_stuck = λ book bound k e. (
      let h = first_stops code well bound book in
      let final = ended_final (run_code code book bound h.steps) h.ends in
      let same = one_end code book bound h.steps k final (subst Final (sym e) tt) ∙ e in
      subst HasEnded same h.ends);
}
