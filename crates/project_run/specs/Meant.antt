-- What a run of a project shows: the text of what its meaning tells, and how that ends, with the place in the source.
use Rattle.std.specs.Prelude.{◌≡◌, ℕ, Bool, true, false, List, Option, Result, Ok, Err}
use Rattle.vba_base.specs.Causes.{Adds, AddsPrefix}
use Rattle.vba_base.specs.declared.place.Place.{Place}
use Rattle.sheet_host.specs.Books.{Sheets}
use Rattle.bound_project.specs.Project.{Project, place_of}
use Rattle.vba_meaning.specs.Memory as plain
use Rattle.vba_meaning.specs.Meaning.{Run, meaning}
use Rattle.pcode_vm.specs.declared.step.Why.{Why}
use Rattle.pcode_vm.specs.declared.step.Why.TheVariants as why
use Rattle.pcode_run.specs.Runs.{names_of, text_of}
use Rattle.pcode_run.specs.declared.texts.Shows.{Shows}
use Rattle.project_run.specs.declared.outcome.Outcome.{Outcome}
use Rattle.project_run.specs.declared.outcome.Outcome.TheVariants as outcome
use Rattle.project_run.specs.declared.outcome.RunFault.{RunFault}
use Rattle.project_run.specs.declared.outcome.RunFault.TheVariants as fault

abbrev pub why_of : plain.Why → Why
why_of plain.stop_said = why.StopStatement
why_of (plain.outside kind) = why.Outside kind

-- an ending, with the place of the statement that ran
abbrev pub outcome_of : Project → plain.Ending → Outcome
outcome_of pr plain.Ended = outcome.Ended
outcome_of pr (plain.Faulted e) = outcome.Faulted e.number (place_of pr e.procedure e.statement)
outcome_of pr (plain.Stopped w p i) = outcome.Stopped (why_of w) (place_of pr p i)
outcome_of pr plain.Going = outcome.Going

-- how the run of a project over a book ends, with a bound on its turns
abbrev pub meant_outcome : Project → Sheets → ℕ → Outcome
meant_outcome pr book turns = outcome_of pr (meaning pr book turns).ending

-- the book that it leaves
abbrev pub meant_book : Project → Sheets → ℕ → Sheets
meant_book pr book turns = (meaning pr book turns).state.memory.book

-- what it shows: what it prints, or the trace of all that it tells
abbrev pub meant_text : Project → Sheets → ℕ → Shows → List ℕ
meant_text pr book turns shows = text_of shows (names_of pr.declared book) (meaning pr book turns).events

-- a run ends and leaves its book as is meant and puts all that is meant to its sink; a run that is cut short puts a prefix
abbrev pub RunsAsMeant : Project → Sheets → ℕ → Shows → Result (Outcome × Sheets) RunFault → (old new : Option (List ℕ)) → Type 0
RunsAsMeant pr book turns shows (Ok (o, left)) old new =
    (o ≡ meant_outcome pr book turns) × ((left ≡ meant_book pr book turns) × Adds old new (meant_text pr book turns shows))
RunsAsMeant pr book turns shows (Err f) old new = AddsPrefix old new (meant_text pr book turns shows)

abbrev pub is_write_fault : Result (Outcome × Sheets) RunFault → Bool
is_write_fault (Ok x) = false
is_write_fault (Err fault.WriteFault) = true
is_write_fault (Err fault.NoMemory) = false
