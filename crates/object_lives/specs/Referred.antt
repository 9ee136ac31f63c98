-- What it is that an object to which there is no reference has ended.
use Rattle.std.specs.Prelude.{◌≡◌, ℕ, List}
use Rattle.vba_meaning.specs.Memory.{Memory}
use Rattle.object_counts.specs.Counts.{count_of}
use Rattle.object_counts.specs.Counting.{Outcome, Running, Finished, Jammed}
use Rattle.object_lives.specs.Lives.{IsThere}

-- an object whose stored count is 0 isn't there
pub record AllReferred (counts : List ℕ) (m : Memory) : Type 0 where
  pub ended : (o : ℕ) → count_of counts o ≡ 0 → IsThere m o → ⊥

-- where a run is over one object may be so: that whose end was begun, or its Class_Terminate left by an error
pub record AllButOneReferred (counts : List ℕ) (m : Memory) : Type 0 where
  pub ending : ℕ
  pub ended : (o : ℕ) → count_of counts o ≡ 0 → IsThere m o → o ≡ ending

-- at each step of a run that counts, and at every ending
abbrev pub ReferredAt : Outcome → Type 0
ReferredAt (Running counts c) = AllReferred counts c.state.memory
ReferredAt (Finished counts e s es) = AllButOneReferred counts s.memory
ReferredAt Jammed = Unit {0}
