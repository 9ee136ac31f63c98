-- What it is that each path leads to an object that is there.
use Rattle.std.specs.Prelude.{ℕ, ◌<◌, List, [], ◌∷◌, ◌++◌}
use Rattle.bound_project.specs.Whole.{All}
use Rattle.vba_meaning.specs.Paths.{Root, in_fields, in_object, in_item, Path}
use Rattle.vba_meaning.specs.Memory.{Slot, Memory, paths_in_slots, paths_held}
use Rattle.vba_meaning.specs.References.{objects_of_reference, objects_in, times}
use Rattle.vba_meaning.specs.Defaults.{Spot, in_variable, by_let, Task, put_in, read_made}
use Rattle.pcode.specs.Machine.{After, Back-to, Mode, At, Failing, Letting, Back, Caller, EndOf, Within, Delivering, Config}
use Rattle.object_counts.specs.Counting.{Outcome, Running, Finished, Jammed}
use Rattle.object_lives.specs.Lives.{IsThere}

-- the objects to which the root of a path leads: the one of whose variables it is one, or those to which an item of a
-- Collection refers that an index gave
abbrev pub objects_of_root : Root → List ℕ
objects_of_root (in_fields o i) = o ∷ []
objects_of_root (in_object reference) = objects_of_reference reference
objects_of_root (in_item v) = objects_in v
objects_of_root root = []

-- each of them is there; number 0 is that of no object, and is never given
abbrev pub LeadsThere : Memory → Path → Type 0
LeadsThere m q = (o : ℕ) → 0 < times o (objects_of_root q.root) → 0 < o → IsThere m o

-- ---- paths that are no variables: operands of the running procedure, and of those that wait

-- of where a value is to be put
abbrev pub paths_in_spot : Spot → List Path
paths_in_spot (in_variable q) = q ∷ []
paths_in_spot (by_let p self xs) = paths_in_slots xs
paths_in_spot spot = []

-- of what is still to be done with what a call gives
abbrev pub paths_in_task : Task → List Path
paths_in_task (put_in spot) = paths_in_spot spot
paths_in_task (read_made q v) = q ∷ []
paths_in_task task = []

-- of all that is
abbrev pub paths_in_tasks : List Task → List Path
paths_in_tasks [] = []
paths_in_tasks (t ∷ ts) = paths_in_task t ++ paths_in_tasks ts

-- of a statement that goes on when references are let go
abbrev pub paths_in_after : After → List Path
paths_in_after (Back-to pc st) = paths_in_slots st
paths_in_after after = []

-- of what a frame returns to
abbrev pub paths_in_back : Back → List Path
paths_in_back (Caller ret st) = paths_in_slots st
paths_in_back (EndOf o k after) = paths_in_after after
paths_in_back (Within b k ts pc st) = paths_in_tasks ts ++ paths_in_slots st
paths_in_back (Delivering e xs ls ret st) = paths_in_slots xs ++ paths_in_slots st

-- of all calls that stand
abbrev pub paths_in_backs : List Back → List Path
paths_in_backs [] = []
paths_in_backs (b ∷ bs) = paths_in_back b ++ paths_in_backs bs

-- of the running procedure; where an error is on its way there are no operands
abbrev pub paths_in_mode : Mode → List Slot → List Path
paths_in_mode (At pc) st = paths_in_slots st
paths_in_mode (Failing e) st = []
paths_in_mode (Letting k after) st = paths_in_after after

-- all paths of a configuration: those that frames have, for ByRef parameters, With blocks and arguments that are lent,
-- and the operands
abbrev pub paths_of : Config → List Path
paths_of c = paths_held c.state.memory.frames ++ paths_in_mode c.mode c.stack ++ paths_in_backs c.backs

-- each path of a frame leads to an object that is there
abbrev pub AllLead : Memory → Type 0
AllLead m = All (LeadsThere m) (paths_held m.frames)

-- at each step of a run that counts all of them do, and those of frames at every ending
abbrev pub LeadAt : Outcome → Type 0
LeadAt (Running counts c) = All (LeadsThere c.state.memory) (paths_of c)
LeadAt (Finished counts e s es) = AllLead s.memory
LeadAt Jammed = Unit {0}
