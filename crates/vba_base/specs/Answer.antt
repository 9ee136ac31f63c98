-- What a call answers, where memory may run out.
use Rattle.std.specs.Prelude.{◌≡◌, Result, Ok, Err}
use Rattle.vba_base.specs.declared.fault.OrMemory.{OrMemory}
use Rattle.vba_base.specs.declared.fault.OrMemory.TheVariants.{Fault, NoMemory}

infixl 10 ◌>>=◌
-- goes on with the value, or ends with the fault
abbrev pub ◌>>=◌ : {A B E : Type 0} → Result A E → (A → Result B E) → Result B E
(Ok x) >>= f = f x
(Err e) >>= f = Err e

-- the fault is the one that is meant; want of memory says nothing of it
abbrev pub Fails : {Y E : Type 0} → OrMemory E → Result Y E → Type 0
Fails NoMemory meant = Unit {0}
Fails (Fault f) meant = meant ≡ Err f

-- the answer, seen by view, is exactly what is meant, unless memory ran out
abbrev pub Gives : {X Y E : Type 0} → (X → Y) → Result X (OrMemory E) → Result Y E → Type 0
Gives view (Ok x) meant = meant ≡ Ok (view x)
Gives view (Err e) meant = Fails e meant

-- the fault is the one that is meant, and this state is left
abbrev pub FailsIn : {Y E S : Type 0} → OrMemory E → S → Result Y E × S → Type 0
FailsIn NoMemory new meant = Unit {0}
FailsIn (Fault f) new meant = meant ≡ (Err f, new)

-- the answer and the state that is left are exactly what is meant, unless memory ran out
abbrev pub GivesIn : {X Y E S : Type 0} → (X → Y) → Result X (OrMemory E) → S → Result Y E × S → Type 0
GivesIn view (Ok x) new meant = meant ≡ (Ok (view x), new)
GivesIn view (Err e) new meant = FailsIn e new meant
