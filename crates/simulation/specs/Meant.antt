-- What it is that the run of a code is what a project means.
use Rattle.std.specs.Prelude.{◌≡◌, ℕ, List, ◌++◌}
use Rattle.sheet_host.specs.Books.{Sheets}
use Rattle.bound_project.specs.Project.{Project}
use Rattle.vba_meaning.specs.Memory.{Ending}
use Rattle.vba_meaning.specs.Effects.{Event}
use Rattle.vba_meaning.specs.Meaning.{State, Run, meaning}
use Rattle.pcode.specs.Instructions.{Code}
use Rattle.pcode.specs.Machine.{Fin, Done, Stuck, run_code}

-- a run, as the machine ends it
abbrev pub fin_of : Run → Fin
fin_of r = Done r.ending r.state r.events

-- over a book and with a bound on turns the code's run ends, with the project's ending (and so its place), state and events; and
-- whenever it ends, it ends so, and never sticks
pub record Means (pr : Project) (book : Sheets) (bound : ℕ) (code : Code) : Type 0 where
  pub ends : (steps : ℕ) × (run_code code book bound steps ≡ fin_of (meaning pr book bound))
  pub only : (steps : ℕ) (e : Ending) (s : State) (es : List Event) → run_code code book bound steps ≡ Done e s es → Done e s es ≡ fin_of (meaning pr book bound)
  pub never_stuck : (steps : ℕ) → run_code code book bound steps ≡ Stuck → ⊥

-- some events, and then others
pub record Begins (events all : List Event) : Type 0 where
  pub rest : List Event
  pub whole : all ≡ events ++ rest
