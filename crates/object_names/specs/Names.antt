-- What a state is under other names of its objects: wherever the number of an object stands its name stands.
use Rattle.std.specs.Prelude.{ℕ, List, map, Option}
use Rattle.vba_values.specs.declared.object.ObjRef.{ObjRef}
use Rattle.vba_values.specs.declared.object.ObjRef.TheVariants.{Nothing, Heap, Host}
use Rattle.vba_values.specs.Val.{Val, Vals, object, array, udt, no_vals, val}
use Rattle.vba_events.specs.declared.linked.Linked.{Linked}
use Rattle.vba_meaning.specs.Paths.{Root, in_frame, in_project, in_fields, in_block, in_object, in_item, Path}
use Rattle.vba_meaning.specs.Memory.{Slot, value, path, Typed, Loop, Kept, only, at_path, walk, Object, Frame, Memory}
use Rattle.vba_meaning.specs.Effects.{Event, Printed, Cell, Raised, Init, Term}
use Rattle.vba_meaning.specs.Defaults.{Spot, in_variable, by_let, in_range, in_member, Task, as_operand, no_object, give_way, walked, fit_to, index_by, write, let_item, set_item, put_in, read_made, Next, gives, then_call}
use Rattle.pcode.specs.Machine.{After, Goes-on, Decide, Return, Back-to, Pass, Close, Mode, At, Failing, Letting, Back, Caller, EndOf, Within, Delivering}

-- ---- values

abbrev pub reference_named : (ℕ → ℕ) → ObjRef → ObjRef
reference_named r Nothing = Nothing
reference_named r (Heap id) = Heap (record { 0 = r id.0 })
reference_named r (Host h) = Host h

abbrev mutual
  pub value_named : (ℕ → ℕ) → Val → Val
  value_named r (object reference) = object (reference_named r reference)
  value_named r (array bounds element items) = array bounds element (items_named r items)
  value_named r (udt number fields) = udt number (items_named r fields)
  value_named r v = v

  pub items_named : (ℕ → ℕ) → Vals → Vals
  items_named r no_vals = no_vals
  items_named r (val v vs) = val (value_named r v) (items_named r vs)

abbrev pub values_named : (ℕ → ℕ) → List Val → List Val
values_named r vs = map (λ v. value_named r v) vs

-- ---- places and frames

abbrev pub root_named : (ℕ → ℕ) → Root → Root
root_named r (in_frame k x) = in_frame k x
root_named r (in_project x) = in_project x
root_named r (in_fields o i) = in_fields (r o) i
root_named r (in_block k i) = in_block k i
root_named r (in_object o) = in_object (reference_named r o)
root_named r (in_item v) = in_item (value_named r v)

abbrev pub path_named : (ℕ → ℕ) → Path → Path
path_named r p = record p { root = root_named r p.root }

abbrev pub slot_named : (ℕ → ℕ) → Slot → Slot
slot_named r (value v) = value (value_named r v)
slot_named r (path p) = path (path_named r p)

abbrev pub slots_named : (ℕ → ℕ) → List Slot → List Slot
slots_named r xs = map (λ x. slot_named r x) xs

abbrev pub kept_named : (ℕ → ℕ) → Kept → Kept
kept_named r (only v) = only (value_named r v)
kept_named r (at_path p) = at_path (path_named r p)
kept_named r (walk begun v k) = walk begun (value_named r v) k

abbrev pub typed_named : (ℕ → ℕ) → Typed → Typed
typed_named r t = record t { value = value_named r t.value }

abbrev pub loop_named : (ℕ → ℕ) → Loop → Loop
loop_named r l = record l { last = typed_named r l.last; step = typed_named r l.step }

abbrev pub frame_named : (ℕ → ℕ) → Frame → Frame
frame_named r f = record f {
  slots = slots_named r f.slots;
  pending = map (λ p. path_named r p) f.pending;
  loops = map (λ e. (e.0, loop_named r e.1)) f.loops;
  keeps = map (λ e. (e.0, kept_named r e.1)) f.keeps;
  me = value_named r f.me;
  held = map r f.held;
}

abbrev pub object_named : (ℕ → ℕ) → Object → Object
object_named r b = record b { fields = values_named r b.fields }

-- ---- a memory, with the objects that it has under these names

abbrev pub under : (ℕ → ℕ) → Memory → List (Option Object) → Memory
under r m objects = record m { frames = map (λ f. frame_named r f) m.frames; shared = values_named r m.shared; objects = objects; waiting = map r m.waiting }

-- ---- what is still to be done

abbrev pub link_named : (ℕ → ℕ) → Linked → Linked
link_named r l = record { source = reference_named r l.source; sink = record { 0 = r l.sink.0 }; field = l.field; number = l.number }

abbrev pub spot_named : (ℕ → ℕ) → Spot → Spot
spot_named r (in_variable q) = in_variable (path_named r q)
spot_named r (by_let p self xs) = by_let p (value_named r self) (slots_named r xs)
spot_named r (in_range w) = in_range (value_named r w)
spot_named r (in_member name vs base begun) = in_member name (values_named r vs) (value_named r base) (value_named r begun)

abbrev pub task_named : (ℕ → ℕ) → Task → Task
task_named r as_operand = as_operand
task_named r no_object = no_object
task_named r give_way = give_way
task_named r walked = walked
task_named r (fit_to of) = fit_to of
task_named r (index_by k vs) = index_by k (values_named r vs)
task_named r (write k v) = write k (value_named r v)
task_named r (let_item k vs v) = let_item k (values_named r vs) (value_named r v)
task_named r (set_item k vs v) = set_item k (values_named r vs) (value_named r v)
task_named r (put_in spot) = put_in (spot_named r spot)
task_named r (read_made q v) = read_made (path_named r q) (value_named r v)

abbrev pub tasks_named : (ℕ → ℕ) → List Task → List Task
tasks_named r ts = map (λ t. task_named r t) ts

abbrev pub next_named : (ℕ → ℕ) → Next → Next
next_named r (gives v) = gives (value_named r v)
next_named r (then_call p self xs ts) = then_call p (value_named r self) (slots_named r xs) (tasks_named r ts)

abbrev pub after_named : (ℕ → ℕ) → After → After
after_named r (Goes-on pc) = Goes-on pc
after_named r (Decide e) = Decide e
after_named r Return = Return
after_named r (Back-to pc st) = Back-to pc (slots_named r st)
after_named r (Pass e) = Pass e
after_named r (Close vs g) = Close (values_named r vs) g

abbrev pub mode_named : (ℕ → ℕ) → Mode → Mode
mode_named r (At pc) = At pc
mode_named r (Failing e) = Failing e
mode_named r (Letting k after) = Letting k (after_named r after)

abbrev pub back_named : (ℕ → ℕ) → Back → Back
back_named r (Caller ret st) = Caller ret (slots_named r st)
back_named r (EndOf o k after) = EndOf (r o) k (after_named r after)
back_named r (Within place k ts pc st) = Within place k (tasks_named r ts) pc (slots_named r st)
back_named r (Delivering e xs ls pc st) = Delivering e (slots_named r xs) (map (λ l. link_named r l) ls) pc (slots_named r st)

abbrev pub backs_named : (ℕ → ℕ) → List Back → List Back
backs_named r bs = map (λ b. back_named r b) bs

abbrev pub event_named : (ℕ → ℕ) → Event → Event
event_named r (Printed units ends) = Printed units ends
event_named r (Cell s row column v) = Cell s row column v
event_named r (Raised n) = Raised n
event_named r (Init c o) = Init c (r o)
event_named r (Term c o) = Term c (r o)

abbrev pub events_named : (ℕ → ℕ) → List Event → List Event
events_named r es = map (λ e. event_named r e) es
