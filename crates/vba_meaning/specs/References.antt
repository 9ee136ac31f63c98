-- References to counted objects: where they stand, and how they are let go.
use Rattle.std.specs.Prelude.{ℕ, ◌+◌, ◌==◌, List, [], ◌∷◌, ◌++◌, Bool, true, if◌then◌else◌, Option, Some, None, slice_set, slice_index_or}
use Rattle.vba_values.specs.declared.object.ObjRef.{ObjRef}
use Rattle.vba_values.specs.declared.object.ObjRef.TheVariants.{Nothing, Heap, Host}
use Rattle.vba_values.specs.Val.{Val, Vals, empty, object, array, udt, no_vals, val}
use Rattle.vba_meaning.specs.Paths.{Path}
use Rattle.vba_meaning.specs.Memory.{Memory, Frame, Object, Slot, value, path, Kept, only, at_path, walk, top, with_top, rest, value_at, with_value, value_or_empty, object_at, with_object}

abbrev pub objects_of_reference : ObjRef → List ℕ
objects_of_reference Nothing = []
objects_of_reference (Heap id) = id.0 ∷ []
objects_of_reference (Host reference) = []

abbrev mutual
  -- the counted objects that a value refers to, in order of places
  pub objects_in : Val → List ℕ
  objects_in (object reference) = objects_of_reference reference
  objects_in (array bounds element items) = objects_in_vals items
  objects_in (udt number fields) = objects_in_vals fields
  objects_in v = []

  pub objects_in_vals : Vals → List ℕ
  objects_in_vals no_vals = []
  objects_in_vals (val v vs) = objects_in v ++ objects_in_vals vs

abbrev pub objects_in_values : List Val → List ℕ
objects_in_values [] = []
objects_in_values (v ∷ vs) = objects_in v ++ objects_in_values vs

-- a path refers to nothing
abbrev pub objects_in_slot : Slot → List ℕ
objects_in_slot (value v) = objects_in v
objects_in_slot (path p) = []

abbrev pub objects_in_slots : List Slot → List ℕ
objects_in_slots [] = []
objects_in_slots (x ∷ xs) = objects_in_slot x ++ objects_in_slots xs

abbrev pub kept_value : Kept → Val
kept_value (only v) = v
kept_value (at_path p) = empty
kept_value (walk begun v k) = v

abbrev pub objects_kept : List (ℕ × Kept) → List ℕ
objects_kept [] = []
objects_kept (e ∷ es) = objects_in (kept_value e.1) ++ objects_kept es

-- ---- how often an object is referred to

abbrev pub times : ℕ → List ℕ → ℕ
times o [] = 0
times o (p ∷ ps) = (if o == p then 1 else 0) + times o ps

abbrev pub times_in_frames : ℕ → List Frame → ℕ
times_in_frames o [] = 0
times_in_frames o (f ∷ fs) = times o (objects_in_slots f.slots) + times o (objects_kept f.keeps) + times o (objects_in f.me) + times o f.held + times_in_frames o fs

abbrev pub times_in_objects : ℕ → List (Option Object) → ℕ
times_in_objects o [] = 0
times_in_objects o (None ∷ bs) = times_in_objects o bs
times_in_objects o (Some b ∷ bs) = times o (objects_in_values b.fields) + times_in_objects o bs

-- how often an object stands in all live values
abbrev pub looks : Memory → ℕ → ℕ
looks m o = times o (objects_in_values m.shared) + times_in_frames o m.frames + times_in_objects o m.objects + times o m.waiting

-- no reference to the object is left
abbrev pub is_last : Memory → ℕ → Bool
is_last m o = looks m o == 0

-- ---- references that are held and let go

-- the running statement holds what a value refers to
abbrev pub hold : Val → Memory → Memory
hold v m = with_top m (record (top m) { held = (top m).held ++ objects_in v })

-- a value gives way to another; what it referred to is let go at the statement's end, before its temporaries
abbrev pub displaced : Val → Memory → Memory
displaced v m = with_top m (record (top m) { held = objects_in v ++ (top m).held })

abbrev pub replaced : Path → Val → Memory → Memory
replaced p v m = displaced (value_or_empty (value_at m p)) (with_value m p v)

abbrev pub waits : List ℕ → Memory → Memory
waits os m = record m { waiting = os ++ m.waiting }

abbrev pub next_waiting : List ℕ → ℕ
next_waiting [] = 0
next_waiting (o ∷ os) = o

-- the next waiting reference is live no longer
abbrev pub taken_off : Memory → Memory
taken_off m = record m { waiting = rest m.waiting }

-- what the statement held waits
abbrev pub let_held : Memory → Memory
let_held m = waits (top m).held (with_top m (record (top m) { held = [] }))

-- what a frame that is left lets go: its temporaries, what its blocks keep, its variables and parameters in order,
-- Me. A result is handed on, and the Me of a Class_Terminate goes with the frame
abbrev pub held_by : Frame → List ℕ
held_by f = f.held ++ (objects_kept f.keeps ++ (if f.called then objects_in_slots (rest f.slots) ++ objects_in f.me else objects_in_slots f.slots))

-- ByRef parameters lead where they led until the frame is gone
abbrev pub without_values : List Slot → List Slot
without_values [] = []
without_values (value v ∷ xs) = value empty ∷ without_values xs
without_values (path p ∷ xs) = path p ∷ without_values xs

abbrev pub but_result : List Slot → List Slot
but_result [] = []
but_result (x ∷ xs) = x ∷ without_values xs

abbrev pub emptied : Frame → Frame
emptied f = record f { slots = if f.called then but_result f.slots else without_values f.slots; me = if f.called then empty else f.me; keeps = []; held = [] }

abbrev pub let_frame : Memory → Memory
let_frame m = waits (held_by (top m)) (with_top m (emptied (top m)))

-- ---- objects

abbrev pub as_told : ℕ → Memory → Memory
as_told o m = with_object m o (Some (record (object_at m o) { told = true }))

-- the object leaves the map, and what its fields refer to waits
abbrev pub gone : ℕ → Memory → Memory
gone o m = waits (objects_in_values (object_at m o).fields) (with_object m o None)

-- a variable of a module takes its first value, and what it referred to waits
abbrev pub closed : ℕ → Val → Memory → Memory
closed g v m = waits (objects_in (slice_index_or m.shared g empty)) (record m { shared = slice_set m.shared g v })
