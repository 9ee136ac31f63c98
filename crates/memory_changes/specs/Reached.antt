-- Where the machine comes to, it comes by a row of changes.
use Rattle.std.specs.Prelude.{◌≡◌, ℕ, List}
use Rattle.sheet_host.specs.Books.{Sheets}
use Rattle.bound_project.specs.Project.{Declarations, Project}
use Rattle.vba_meaning.specs.Memory.{Ending, Memory, opening}
use Rattle.vba_meaning.specs.Effects.{Event}
use Rattle.vba_meaning.specs.Meaning.{State, meaning}
use Rattle.pcode.specs.Instructions.{Code}
use Rattle.pcode.specs.Machine.{Config, Done, Move, Goes, Ends, Sticks, Tells, Turns, Choices, step_by, run_code}
use Rattle.memory_changes.specs.Changes.{Row}

-- from a memory to each one to which a move leads, also where a turn is due
abbrev pub RowsTo : Declarations → Memory → Move → Type 0
RowsTo d m (Goes c) = Row d m c.state.memory
RowsTo d m (Ends e s) = Row d m s.memory
RowsTo d m Sticks = Unit {0}
RowsTo d m (Tells es v) = RowsTo d m v
RowsTo d m (Turns s v) = Row d m s.memory × RowsTo d m v

-- one step, whatever an implementation chooses
abbrev pub StepRows : Code → Choices → Config → Type 0
StepRows code by c = RowsTo code.declared c.state.memory (step_by by code c)

-- a run of a code over a book that has ended, or stands where one turn more would be due than it may have
abbrev pub RunRow : Code → Sheets → (turns steps : ℕ) → Type 0
RunRow code book turns steps = (e : Ending) (s : State) (es : List Event) → run_code code book turns steps ≡ Done e s es → Row code.declared (opening code.declared book) s.memory

-- what a project means, over a book and with a bound on turns
abbrev pub MeantRow : Project → Sheets → (turns : ℕ) → Type 0
MeantRow pr book turns = Row pr.declared (opening pr.declared book) (meaning pr book turns).state.memory
