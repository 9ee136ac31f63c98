-- Serves the code: objects that are made.
use Rattle.std.specs.Prelude.{ℕ, zero, suc, List, [], ◌∷◌, Option, Some, None}
use Rattle.vba_values.specs.Val.{empty}
use Rattle.bound_project.specs.Project.{class_at}
use Rattle.vba_meaning.specs.Memory.{Slot, value}
use Rattle.vba_meaning.specs.Meaning.{State}
use Rattle.vba_meaning.specs.Effects.{Event, Init}
use Rattle.vba_meaning.specs.Objects.{made}
use Rattle.pcode.specs.Instructions.{Code}
use Rattle.pcode.specs.Machine.{Back, Move, Goes, at, done_then, initializes}

-- what is told of one: that of a class is told; a Collection isn't
abbrev pub made_events : (class number : ℕ) → List Event
made_events zero n = []
made_events (suc c) n = Init (suc c) n ∷ []

-- an object is made where a class is given, and else Empty stands in its place
abbrev pub makes_if : Code → (class : Option ℕ) → ℕ → List Slot → List Back → State → Move
makes_if code None pc st bs s = Goes (at pc (value empty ∷ value empty ∷ st) bs s)
makes_if code (Some c) pc st bs s = done_then (made code.declared c s.memory) bs s (λ v s1. initializes code (class_at code.declared c).initialize v pc st bs s1)
