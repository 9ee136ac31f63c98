-- What a run remembers: frames, variables, objects and Err. Turns and events are counted and told outside of it.
use Rattle.std.specs.Prelude.{ℕ, ◌==◌, nat_lt, ℤ, pos, List, [], ◌∷◌, ◌++◌, length, map, Bool, true, if◌then◌else◌, Option, Some, None, slice_get, slice_index_or, slice_set}
use Rattle.vba_values.specs.declared.types.Compare.{Compare}
use Rattle.vba_values.specs.declared.fault.OutKind.{OutKind}
use Rattle.vba_values.specs.declared.object.ObjRef.TheVariants.{Heap}
use Rattle.vba_values.specs.Types.{Declared}
use Rattle.vba_values.specs.Val.{Val, empty, object}
use Rattle.arrays_udt.specs.declared.paths.PathStep.{PathStep}
use Rattle.arrays_udt.specs.Paths.{path_value, with_path}
use Rattle.error_frames.specs.declared.frame.FrameErrors.{FrameErrors}
use Rattle.sheet_host.specs.declared.area.Area.{Area}
use Rattle.sheet_host.specs.Books.{Sheets}
use Rattle.error_frames.specs.Decision as decision
use Rattle.bound_project.specs.Expressions.{Storage, local, shared, own, Variable}
use Rattle.vba_meaning.specs.Paths.{Root, in_frame, in_project, in_fields, in_block, in_object, in_item, Step, Path, plain_steps, any_below}
use Rattle.bound_project.specs.Project.{Declarations, Procedure, procedure_at, first_value, first_values}

-- an error on its way, and what Err keeps of the last one: its number, a source and a description where they were
-- given, and where it was raised ([MS-VBAL] 5.4.4, 6.1.3.2)
pub record Error : Type 0 where
  pub number : ℤ
  pub source : Option (List ℕ)
  pub description : Option (List ℕ)
  pub procedure : ℕ
  pub statement : Option ℕ

-- why a run stops: Stop, or a value or size that is outside of what there is
pub data Why : Type 0 where
  stop_said : Why
  outside : OutKind → Why

-- how a run ends; a fault has the error, a stop the statement that ran
pub data Ending : Type 0 where
  Ended : Ending
  Faulted : Error → Ending
  Stopped : Why → (procedure : ℕ) → Option ℕ → Ending
  Going : Ending

-- what a variable of a frame contains: its value, or where a ByRef parameter leads
pub data Slot : Type 0 where
  value : Val → Slot
  path : Path → Slot

-- a value with the declared type of the expression that gave it
pub record Typed : Type 0 where
  pub value : Val
  pub of : Declared

-- a For that was begun: its last value and its step
pub record Loop : Type 0 where
  pub last : Typed
  pub step : Typed
  pub compare : Compare

-- what a block keeps for its statements
pub data Kept : Type 0 where
  -- the value of a Select Case, or of a With over a value
  only : Val → Kept
  -- where the place of a With is
  at_path : Path → Kept
  -- what a For Each walks, whether the loop counts as begun, and the number of its next item
  walk : (begun : Bool) → Val → (next : ℕ) → Kept

-- a counted object. The fields of a Collection are its items, each of which may have a key. Each WithEvents variable
-- stands among the set numbers, by the number of its field, with that of its last Set while it has a source
pub record Object : Type 0 where
  pub class : ℕ
  pub told : Bool
  pub fields : List Val
  pub keys : List (Option (List ℕ))
  pub set_numbers : List (ℕ × Option ℕ)

-- a call that stands. One that code called hands its result on; a Class_Terminate that the end of an object called
-- has none to hand on to
pub record Frame : Type 0 where
  pub called : Bool
  pub procedure : ℕ
  -- the statement that was begun last
  pub statement : Option ℕ
  pub errors : FrameErrors
  -- the result, the procedure's own variables, its parameters
  pub slots : List Slot
  -- where ByRef parameters of calls lead whose arguments are still evaluated, the last one first
  pub pending : List Path
  -- the Fors that were begun, and what blocks keep in text order, each by the number of its header
  pub loops : List (ℕ × Loop)
  pub keeps : List (ℕ × Kept)
  -- where Return goes on, the last GoSub first
  pub returns : List ℕ
  pub me : Val
  -- the objects that the running statement holds: first what it displaced, then its temporaries
  pub held : List ℕ

pub record Memory : Type 0 where
  -- the running call first
  pub frames : List Frame
  -- module variables and statics
  pub shared : List Val
  -- the counted objects by number, and the references whose letting go was begun, the next one first
  pub objects : List (Option Object)
  pub waiting : List ℕ
  pub err : Error
  -- the units on the open line of Debug.Print
  pub column : ℕ
  -- the book, and what EnableEvents, ScreenUpdating and DisplayAlerts of Application are
  pub book : Sheets
  pub events_on : Bool
  pub updates_screen : Bool
  pub shows_alerts : Bool
  -- the number of the next Set of a WithEvents variable, and an area that was written of which no handler of Change was
  -- told yet
  pub next_set : ℕ
  pub changed : Option Area

-- ---- frames

abbrev pub no_frame : Frame
no_frame = record { called = true; procedure = 0; statement = None; errors = decision.entered; slots = []; pending = []; loops = []; keeps = []; returns = []; me = empty; held = [] }

abbrev pub first_or : List Frame → Frame
first_or [] = no_frame
first_or (f ∷ fs) = f

abbrev pub rest : {A : Type 0} → List A → List A
rest [] = []
rest (x ∷ xs) = xs

-- the frame that runs
abbrev pub top : Memory → Frame
top m = first_or m.frames

abbrev pub with_top : Memory → Frame → Memory
with_top m f = record m { frames = f ∷ rest m.frames }

abbrev pub frame_left : Memory → Memory
frame_left m = record m { frames = rest m.frames }

-- a statement begins
abbrev pub at_statement : Memory → ℕ → Memory
at_statement m i = with_top m (record (top m) { statement = Some i })

-- the number of the statement that runs
abbrev pub number_or : Option ℕ → ℕ
number_or None = 0
number_or (Some i) = i

-- ---- variables and paths ([MS-VBAL] 2.3)

abbrev pub frame_at : List Frame → ℕ → Frame
frame_at [] k = no_frame
frame_at (f ∷ fs) k = if length fs == k then f else frame_at fs k

abbrev pub with_slot : List Frame → (frame variable : ℕ) → Slot → List Frame
with_slot [] k x v = []
with_slot (f ∷ fs) k x v = if length fs == k then record f { slots = slice_set f.slots x v } ∷ fs else f ∷ with_slot fs k x v

abbrev pub value_in : Option Slot → Option Val
value_in None = None
value_in (Some (value v)) = Some v
value_in (Some (path p)) = None

-- what stands at a number
abbrev pub found : {A : Type 0} → List (ℕ × A) → ℕ → Option A
found [] i = None
found (e ∷ es) i = if e.0 == i then Some e.1 else found es i

abbrev pub without : {A : Type 0} → List (ℕ × A) → ℕ → List (ℕ × A)
without [] i = []
without (e ∷ es) i = if e.0 == i then without es i else e ∷ without es i

-- the numbers rise
abbrev pub put : {A : Type 0} → ℕ → A → List (ℕ × A) → List (ℕ × A)
put i v [] = (i, v) ∷ []
put i v (e ∷ es) = if e.0 == i then (i, v) ∷ es else if nat_lt i e.0 then (i, v) ∷ e ∷ es else e ∷ put i v es

abbrev pub with_kept : List Frame → (frame header : ℕ) → Kept → List Frame
with_kept [] k i v = []
with_kept (f ∷ fs) k i v = if length fs == k then record f { keeps = put i v f.keeps } ∷ fs else f ∷ with_kept fs k i v

abbrev pub value_kept : Option Kept → Option Val
value_kept None = None
value_kept (Some (only v)) = Some v
value_kept (Some (at_path p)) = None
value_kept (Some (walk begun v k)) = None

abbrev pub no_object : Object
no_object = record { class = 0; told = true; fields = []; keys = []; set_numbers = [] }

abbrev pub object_or : Option Object → Object
object_or None = no_object
object_or (Some b) = b

abbrev pub object_at : Memory → ℕ → Object
object_at m o = object_or (slice_index_or m.objects o None)

abbrev pub with_object : Memory → ℕ → Option Object → Memory
with_object m o b = record m { objects = slice_set m.objects o b }

abbrev pub with_field : Object → ℕ → Val → Object
with_field b i v = record b { fields = slice_set b.fields i v }

abbrev pub root_value : Memory → Root → Option Val
root_value m (in_frame k x) = value_in (slice_get (frame_at m.frames k).slots x)
root_value m (in_project x) = slice_get m.shared x
root_value m (in_fields o i) = slice_get (object_at m o).fields i
root_value m (in_block k i) = value_kept (found (frame_at m.frames k).keeps i)
root_value m (in_object o) = Some (object o)
root_value m (in_item v) = Some v

abbrev pub with_root : Memory → Root → Val → Memory
with_root m (in_frame k x) v = record m { frames = with_slot m.frames k x (value v) }
with_root m (in_project x) v = record m { shared = slice_set m.shared x v }
with_root m (in_fields o i) v = with_object m o (Some (with_field (object_at m o) i v))
with_root m (in_block k i) v = record m { frames = with_kept m.frames k i (only v) }
with_root m (in_object o) v = m
with_root m (in_item w) v = m

abbrev pub inner_or_none : Option Val → List PathStep → Option Val
inner_or_none None steps = None
inner_or_none (Some v) steps = path_value v steps

-- the value at a path, where there still is one
abbrev pub value_at : Memory → Path → Option Val
value_at m p = inner_or_none (root_value m p.root) (plain_steps p.steps)

abbrev pub written : Memory → Path → Option Val → Val → Memory
written m p None v = m
written m p (Some old) v = with_root m p.root (with_path old (plain_steps p.steps) v)

-- the memory with another value at a path
abbrev pub with_value : Memory → Path → Val → Memory
with_value m p v = written m p (root_value m p.root) v

abbrev pub path_or : Option Slot → Path → Path
path_or None p = p
path_or (Some (value v)) p = p
path_or (Some (path q)) p = q

-- the number of a counted object
abbrev pub number_of : Val → ℕ
number_of (object (Heap id)) = id.0
number_of v = 0

-- where a variable is; a ByRef parameter leads to where its argument is
abbrev pub path_of : Memory → Variable → Path
path_of m x = path_by x.storage where
  path_by : Storage → Path
  path_by (local i) = path_or (slice_get (top m).slots i) (record { root = in_frame (length (rest m.frames)) i; steps = []; of = x.of; bounded = x.bounded; makes = None })
  path_by (shared i) = record { root = in_project i; steps = []; of = x.of; bounded = x.bounded; makes = None }
  path_by (own i) = record { root = in_fields (number_of (top m).me) i; steps = []; of = x.of; bounded = x.bounded; makes = None }

-- ---- paths that frames hold

abbrev pub paths_in_slots : List Slot → List Path
paths_in_slots [] = []
paths_in_slots (value v ∷ xs) = paths_in_slots xs
paths_in_slots (path p ∷ xs) = p ∷ paths_in_slots xs

abbrev pub paths_kept : List (ℕ × Kept) → List Path
paths_kept [] = []
paths_kept (e ∷ es) = kept_path e.1 ++ paths_kept es where
  kept_path : Kept → List Path
  kept_path (only v) = []
  kept_path (at_path p) = p ∷ []
  kept_path (walk begun v k) = []

abbrev pub paths_held : List Frame → List Path
paths_held [] = []
paths_held (f ∷ fs) = f.pending ++ paths_in_slots f.slots ++ paths_kept f.keeps ++ paths_held fs

-- what is at a path can't be replaced: a frame holds a path through an array there
abbrev pub is_locked : Memory → Path → Bool
is_locked m p = any_below (paths_held m.frames) p

-- the value that a call gives
abbrev pub value_or_empty : Option Val → Val
value_or_empty None = empty
value_or_empty (Some v) = v

abbrev pub result : Memory → Val
result m = value_or_empty (value_in (slice_get (top m).slots 0))

-- ---- calls ([MS-VBAL] 5.3.1)

-- the paths of a call's ByRef parameters are no longer pending once its frame has them
abbrev pub without_paths : List Slot → List Path → List Path
without_paths [] ps = ps
without_paths (value v ∷ xs) ps = without_paths xs ps
without_paths (path p ∷ xs) ps = without_paths xs (rest ps)

abbrev pub calling : List Slot → List Frame → List Frame
calling xs [] = []
calling xs (f ∷ fs) = record f { pending = without_paths xs f.pending } ∷ fs

-- the value at steps inside an item of a Collection
abbrev pub value_in_item : Val → List Step → Val
value_in_item v steps = value_or_empty (path_value v (plain_steps steps))

-- what a parameter has: an object or an item that an index gave is no variable, so it is copied
abbrev pub received : Slot → Slot
received (value v) = value v
received (path p) = at p.root
  where
    at : Root → Slot
    at (in_object o) = value (object o)
    at (in_item v) = value (value_in_item v p.steps)
    at root = path p

abbrev pub own_slots : Declarations → Procedure → List Slot
own_slots d p = value (first_value d p.result) ∷ map value (first_values d p.locals)

-- a call of a procedure stands
abbrev pub entered : Declarations → Bool → ℕ → Val → List Slot → Memory → Memory
entered d called p me xs m = record m { frames = record no_frame { called = called; procedure = p; me = me; slots = own_slots d (procedure_at d p) ++ map received xs } ∷ calling xs m.frames }

-- ---- Err

abbrev pub no_error : Error
no_error = record { number = pos 0; source = None; description = None; procedure = 0; statement = None }

-- an error with this number at the running statement
abbrev pub error_here : ℕ → Memory → Error
error_here n m = record { number = pos n; source = None; description = None; procedure = (top m).procedure; statement = (top m).statement }

-- ---- the memory with which a run begins

abbrev pub opening : Declarations → Sheets → Memory
opening d book = record {
  frames = [];
  shared = first_values d d.shared;
  objects = None ∷ [];
  waiting = [];
  err = no_error;
  column = 0;
  book = book;
  events_on = true;
  updates_screen = true;
  shows_alerts = true;
  next_set = 1;
  changed = None;
}
