-- What it is that nothing in a state names an object that has ended: under names that agree on the objects that are
-- there it is the same.
use Rattle.std.specs.Prelude.{◌≡◌, ℕ, List, Option, Some, None, slice_index_or}
use Rattle.bound_project.specs.Whole.{All}
use Rattle.vba_meaning.specs.Memory.{Slot, Memory, Object}
use Rattle.pcode.specs.Machine.{Mode, At, Failing, Letting, Back, Delivering, Config}
use Rattle.object_counts.specs.Counting.{Outcome, Running, Finished, Jammed}
use Rattle.object_lives.specs.Lives.{IsThere}
use Rattle.object_names.specs.Names.{slots_named, object_named, after_named, back_named, under}

-- two ways to name objects agree on number 0, which is of none, and on the objects that are there
pub record Agree (r q : ℕ → ℕ) (m : Memory) : Type 0 where
  pub nothing : r 0 ≡ q 0
  pub there : (o : ℕ) → IsThere m o → r o ≡ q o

-- a memory is the same under both, whatever objects it then has; and so is each object
pub record MemoryAlike (r q : ℕ → ℕ) (m : Memory) : Type 0 where
  pub memory : (objects : List (Option Object)) → under r m objects ≡ under q m objects
  pub each : (o : ℕ) (b : Object) → slice_index_or m.objects o None ≡ Some b → object_named r b ≡ object_named q b

-- what a frame returns to is; but the links that a raise has still to ask may name an object that has ended
abbrev pub BackAlike : (r q : ℕ → ℕ) → Back → Type 0
BackAlike r q (Delivering e xs ls pc st) = (slots_named r xs ≡ slots_named q xs) × (slots_named r st ≡ slots_named q st)
BackAlike r q b = back_named r b ≡ back_named q b

-- operands are, and those of a statement that goes on when references are let go
abbrev pub ModeAlike : (r q : ℕ → ℕ) → Mode → List Slot → Type 0
ModeAlike r q (At pc) st = slots_named r st ≡ slots_named q st
ModeAlike r q (Failing e) st = Unit {0}
ModeAlike r q (Letting k after) st = after_named r after ≡ after_named q after

-- all of it
abbrev pub ConfigAlike : (r q : ℕ → ℕ) → Config → Type 0
ConfigAlike r q c = MemoryAlike r q c.state.memory × ModeAlike r q c.mode c.stack × All (BackAlike r q) c.backs

-- at each step of a run that counts, and at every ending
abbrev pub AlikeAt : Outcome → Type 0
AlikeAt (Running counts c) = (r q : ℕ → ℕ) → Agree r q c.state.memory → ConfigAlike r q c
AlikeAt (Finished counts e s es) = (r q : ℕ → ℕ) → Agree r q s.memory → MemoryAlike r q s.memory
AlikeAt Jammed = Unit {0}
