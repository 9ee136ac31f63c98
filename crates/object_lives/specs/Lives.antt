-- What it is that each reference leads to an object that is there.
use Rattle.std.specs.Prelude.{◌≡◌, ℕ, ◌<◌, List, Some, None, slice_index_or}
use Rattle.bound_project.specs.Project.{Declarations}
use Rattle.bound_project.specs.Whole.{All, IfThere, IsConstant}
use Rattle.vba_meaning.specs.Memory.{Memory, Object}
use Rattle.vba_meaning.specs.References.{looks}
use Rattle.object_counts.specs.Counts.{count_of}
use Rattle.object_counts.specs.Counting.{Outcome, Running, Finished, Jammed}

-- there is an object of this number: it was made, and has not ended
abbrev pub IsThere : Memory → (number : ℕ) → Type 0
IsThere m o = (b : Object) × (slice_index_or m.objects o None ≡ Some b)

-- whatever stands in the live values of a memory, in module variables, frames and what their statements hold, the fields of
-- objects, or among the references that wait, leads to an object that is there
pub record Alive (m : Memory) : Type 0 where
  pub leads : (o : ℕ) → 0 < looks m o → IsThere m o

-- so does what is counted
pub record AllAlive (counts : List ℕ) (m : Memory) : Type 0 where
  pub alive : Alive m
  pub counted : (o : ℕ) → 0 < count_of counts o → IsThere m o

-- at each step of a run that counts, and at every ending
abbrev pub AliveAt : Outcome → Type 0
AliveAt (Running counts c) = AllAlive counts c.state.memory
AliveAt (Finished counts e s es) = AllAlive counts s.memory
AliveAt Jammed = Unit {0}

-- what a parameter has to which nothing is given is a constant
abbrev pub HasPlainDefaults : Declarations → Type 0
HasPlainDefaults d = All (λ p. All (λ q. IfThere IsConstant q.default) p.parameters) d.procedures
