-- Serves the code: that a call tells and does what an effect does.
use Rattle.std.specs.Prelude.{◌≡◌, List, [], ◌++◌, Result, Ok, Err}
use Rattle.vba_base.specs.declared.fault.OrMemory.{OrMemory}
use Rattle.vba_base.specs.declared.fault.OrMemory.TheVariants.{Fault, NoMemory}
use Rattle.vba_values.specs.declared.fault.Bad.{Bad}
use Rattle.vba_meaning.specs.Memory.{Memory}
use Rattle.vba_meaning.specs.Effects.{Event, Effect, Fine, Bad-at, Out, Tell, answered}

-- all events of an effect
abbrev pub events_of : {A : Type 0} → Effect A → List Event
events_of (Fine v m) = []
events_of (Bad-at n m) = []
events_of (Out w m) = []
events_of (Tell es e) = es ++ events_of e

-- what it does once they are told
abbrev pub behind_events : {A : Type 0} → Effect A → Effect A
behind_events (Fine v m) = Fine v m
behind_events (Bad-at n m) = Bad-at n m
behind_events (Out w m) = Out w m
behind_events (Tell es e) = behind_events e

-- its events were told behind the old ones, and then it does the same as another one that tells none
pub record TellsThen {A : Type 0} (old new : List Event) (effect then : Effect A) : Type 0 where
  pub told : new ≡ old ++ events_of effect
  pub behind : behind_events effect ≡ then

-- the effect tells this and refuses for the fault; want of memory says nothing of it
abbrev pub RefusesTold : {A : Type 0} → OrMemory Bad → (old new : List Event) → Memory → Effect A → Type 0
RefusesTold NoMemory old new m effect = Unit {0}
RefusesTold (Fault bad) old new m effect = TellsThen old new effect (answered (Err bad) m)

-- what was told and answered, and the memory that is left, are those of the effect, unless memory ran out
abbrev pub Tells : {X A : Type 0} → (X → A) → Result X (OrMemory Bad) → (old new : List Event) → Memory → Effect A → Type 0
Tells view (Ok x) old new m effect = TellsThen old new effect (Fine (view x) m)
Tells view (Err fault) old new m effect = RefusesTold fault old new m effect
