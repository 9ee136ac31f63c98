-- Serves the code: that a call does what an effect does.
use Rattle.std.specs.Prelude.{◌≡◌, Result, Ok, Err}
use Rattle.vba_base.specs.declared.fault.OrMemory.{OrMemory}
use Rattle.vba_base.specs.declared.fault.OrMemory.TheVariants.{Fault, NoMemory}
use Rattle.vba_values.specs.declared.fault.Bad.{Bad}
use Rattle.vba_meaning.specs.Memory.{Memory}
use Rattle.vba_meaning.specs.Effects.{Effect, Fine, answered}

-- the effect is that of the fault; want of memory says nothing of it
abbrev pub Refuses : {A : Type 0} → OrMemory Bad → Memory → Effect A → Type 0
Refuses NoMemory new effect = Unit {0}
Refuses (Fault bad) new effect = effect ≡ answered (Err bad) new

-- what was answered, and the memory that is left, are those of the effect, unless memory ran out
abbrev pub Acts : {X A : Type 0} → (X → A) → Result X (OrMemory Bad) → Memory → Effect A → Type 0
Acts view (Ok x) new effect = effect ≡ Fine (view x) new
Acts view (Err fault) new effect = Refuses fault new effect
