-- Serves the code: what is looked up in lists.
use Rattle.std.specs.Prelude.{ℕ, List, [], ◌∷◌, ◌++◌, Option, Some, None}
use Rattle.vba_values.specs.Val.{Val, object}
use Rattle.vba_values.specs.declared.object.ObjRef.{ObjRef}
use Rattle.vba_meaning.specs.Paths.{Root, in_object}
use Rattle.vba_meaning.specs.Memory.{Frame, no_frame, Memory, root_value}
use Rattle.vba_meaning.specs.References.{objects_of_reference}

abbrev pub frame_or : Option Frame → Frame
frame_or None = no_frame
frame_or (Some f) = f

-- the counted objects among references
abbrev pub heap_ids : List ObjRef → List ℕ
heap_ids [] = []
heap_ids (r ∷ rs) = objects_of_reference r ++ heap_ids rs

-- the value of a root, where this one is that of an object that no variable has
abbrev pub root_or : Memory → Root → Val → Option Val
root_or m (in_object o) v = Some v
root_or m root v = root_value m root

-- the object at a place, where one is there
abbrev pub object_here : Option Val → Option ObjRef
object_here (Some (object o)) = Some o
object_here found = None
