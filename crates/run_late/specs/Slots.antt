-- Serves the code: what one parameter has.
use Rattle.std.specs.Prelude.{ℕ, if◌then◌else◌, List, drop, take}
use Rattle.bound_project.specs.Expressions.{ByName}
use Rattle.bound_project.specs.Project.{Parameter}
use Rattle.vba_meaning.specs.Memory.{Slot, value}
use Rattle.vba_meaning.specs.Effects.{packed}
use Rattle.vba_meaning.specs.LateBound.{argument_of, slot_of}

-- its argument, or a ParamArray all further ones
abbrev pub slot_arranged : ByName → (number : ℕ) → Parameter → List Slot → Slot
slot_arranged by j q xs = if q.many then value (packed (drop j (take by.before xs))) else slot_of q xs (argument_of by j q)
