-- Serves the code: values that take the place of others. Where a place has no value nothing is exchanged.
use Rattle.std.specs.Prelude.{ℕ, ◌==◌, List, [], ◌∷◌, length, if◌then◌else◌, Option, Some, None, slice_index_or, slice_set}
use Rattle.vba_values.specs.Val.{Val}
use Rattle.arrays_udt.specs.declared.paths.PathStep.{PathStep}
use Rattle.arrays_udt.specs.Paths.{with_path}
use Rattle.vba_meaning.specs.Paths.{Root}
use Rattle.vba_meaning.specs.Memory.{Frame, Memory, Object, Slot, value, path, object_or, with_field, with_root}

abbrev pub slot_exchanged : Slot → Val → Slot
slot_exchanged (value v) w = value w
slot_exchanged (path p) w = path p

-- variables, by the value that one of them had
abbrev pub slots_exchanged : List Slot → ℕ → Option Val → Val → List Slot
slots_exchanged xs x None w = xs
slots_exchanged xs x (Some v) w = slice_set xs x (value w)

abbrev pub values_exchanged : List Val → ℕ → Option Val → Val → List Val
values_exchanged xs x None w = xs
values_exchanged xs x (Some v) w = slice_set xs x w

-- a counted object, and objects, by the value that a variable of one had
abbrev pub object_exchanged : Option Object → ℕ → Option Val → Val → Option Object
object_exchanged None i old w = None
object_exchanged (Some b) i old w = Some (record b { fields = values_exchanged b.fields i old w })

abbrev pub objects_exchanged : List (Option Object) → (number field : ℕ) → Option Val → Val → List (Option Object)
objects_exchanged bs o i None w = bs
objects_exchanged bs o i (Some v) w = slice_set bs o (Some (with_field (object_or (slice_index_or bs o None)) i w))

abbrev pub frame_exchanged : ℕ → Option Val → Val → Frame → Frame
frame_exchanged x old w f = record f { slots = slots_exchanged f.slots x old w }

-- the frame with so many below it changed
abbrev pub frames_with : (Frame → Frame) → List Frame → ℕ → List Frame
frames_with change [] k = []
frames_with change (f ∷ fs) k = if length fs == k then change f ∷ fs else f ∷ frames_with change fs k

-- a memory, by the value that a root had
abbrev pub root_exchanged : Memory → Root → Option Val → Val → Memory
root_exchanged m r None w = m
root_exchanged m r (Some v) w = with_root m r w

-- the same of a value inside
abbrev pub inside_exchanged : Memory → Root → Option Val → List PathStep → Val → Memory
inside_exchanged m r None steps w = m
inside_exchanged m r (Some v) steps w = with_root m r (with_path v steps w)
