-- What the machine of a project's code runs is what the project means.
use Rattle.std.proofs.Common.{◌≡◌, ℕ, List, [], refl, sym, ap, ◌∙◌, subst}
use Rattle.std.specs.Prelude.{Option}
use Rattle.vba_base.specs.Causes.{Adds, AddsPrefix}
use Rattle.sheet_host.specs.Books.{Sheets}
use Rattle.bound_project.specs.Project.{Project}
use Rattle.vba_meaning.specs.Memory as plain
use Rattle.vba_meaning.specs.Effects.{Event}
use Rattle.vba_meaning.specs.Meaning.{meaning}
use Rattle.pcode.specs.Instructions.{Code}
use Rattle.pcode.specs.Layout.{code_of}
use Rattle.pcode.specs.Machine.{Fin, Done, run_code}
use Rattle.simulation.specs.Meant.{Means, fin_of}
use Rattle.simulation.proofs.Whole.{means}
use Rattle.pcode_vm.specs.View.{ending_view}
use Rattle.pcode_vm.specs.declared.step.Ending.{Ending}
use Rattle.pcode_run.specs.Runs.{Ran, CutShort, names_of, text_of}
use Rattle.pcode_run.specs.declared.texts.Shows.{Shows}
use Rattle.pcode_run.specs.declared.runs.Cut.{Cut}
use Rattle.project_run.specs.Meant.{outcome_of, meant_outcome, meant_book, meant_text}
use Rattle.project_run.specs.declared.outcome.Outcome.{Outcome}

ending_in : Fin → plain.Ending
ending_in (Done e s es) = e
ending_in fin = plain.Going

book_in : Fin → Sheets
book_in (Done e s es) = s.memory.book
book_in fin = []

events_in : Fin → List Event
events_in (Done e s es) = es
events_in fin = []

pub meets : (pr : Project) (book : Sheets) (turns : ℕ) (shows : Shows) (code : Code) (ending : Ending) (left : Sheets) (o : Outcome) (old new : Option (List ℕ)) → code ≡ code_of pr
    → o ≡ outcome_of pr (ending_view ending) → Ran code book turns shows (names_of code.declared book) ending left old new
    → (o ≡ meant_outcome pr book turns) × ((left ≡ meant_book pr book turns) × Adds old new (meant_text pr book turns shows))
unfolding ending_in book_in events_in
meets pr book turns shows code ending left o old new e f r =
    let m = means pr book turns in
    let same = m.only r.steps (ending_view ending) r.last r.events (subst (λ c. run_code c book turns r.steps ≡ Done (ending_view ending) r.last r.events) e r.ends) in (
      f ∙ ap (λ fin. outcome_of pr (ending_in fin)) same,
      (r.leaves ∙ ap book_in same, subst (λ (k : Code). Adds old new (text_of shows (names_of k.declared book) (meaning pr book turns).events)) e (subst (λ es. Adds old new (text_of shows (names_of code.declared book) es)) (ap events_in same) r.bytes)),
    )

pub begins : (pr : Project) (book : Sheets) (turns : ℕ) (shows : Shows) (code : Code) (cut : Cut) (old new : Option (List ℕ)) → code ≡ code_of pr
    → CutShort code book turns shows (names_of code.declared book) cut old new → AddsPrefix old new (meant_text pr book turns shows)
begins pr book turns shows code cut old new e c =
    let m = means pr book turns in let r = meaning pr book turns in
    subst (λ (k : Code). AddsPrefix old new (text_of shows (names_of k.declared book) r.events)) e (c.bytes m.ends.0 r.ending r.state r.events (subst (λ k. run_code k book turns m.ends.0 ≡ fin_of r) (sym e) m.ends.1))
