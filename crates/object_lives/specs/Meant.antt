-- What it is that the machine which stores counts does what a project means.
use Rattle.std.specs.Prelude.{◌≡◌, ℕ, List}
use Rattle.sheet_host.specs.Books.{Sheets}
use Rattle.bound_project.specs.Project.{Project}
use Rattle.vba_meaning.specs.Memory.{Ending}
use Rattle.vba_meaning.specs.Effects.{Event}
use Rattle.vba_meaning.specs.Meaning.{State, Run, meaning}
use Rattle.pcode.specs.Layout.{code_of}
use Rattle.object_counts.specs.Balance.{Balanced}
use Rattle.object_counts.specs.Counting.{Outcome, Finished, Jammed, run_counted}

-- it has ended as a run does: with the ending, and so the place, the last state and the events; and there each stored count
-- is how often its object stands in all live values
pub record EndsAs (r : Outcome) (run : Run) : Type 0 where
  pub counts : List ℕ
  pub ended : r ≡ Finished counts run.ending run.state run.events
  pub right : Balanced counts run.state.memory

-- over a book and with a bound on turns the counting run of a project's code ends as the project means; and wherever it
-- has ended it has ended so, and it never sticks
pub record CountsMean (pr : Project) (book : Sheets) (bound : ℕ) : Type 0 where
  pub ends : (steps : ℕ) × EndsAs (run_counted (code_of pr) book bound steps) (meaning pr book bound)
  pub only : (steps : ℕ) (counts : List ℕ) (e : Ending) (s : State) (es : List Event) → run_counted (code_of pr) book bound steps ≡ Finished counts e s es
      → EndsAs (Finished counts e s es) (meaning pr book bound)
  pub never_stuck : (steps : ℕ) → run_counted (code_of pr) book bound steps ≡ Jammed → ⊥
