-- What projects of worked rows are bound to, and what their runs tell.
use Rattle.std.specs.Prelude.{ℕ, Bool, true, List, [], ◌∷◌, codes, Some}
use Rattle.binder.proofs.Reading.{some_outside, sources_from, told, of_one, main}
use Rattle.bound_forms.specs.Bind.{Answer, refused, not_built_at, bound_as, bind_of}
use Rattle.sheet_host.specs.Books.{Sheets, NamedSheet}
use Rattle.sheet_host.specs.Sheets.{no_content}
use Rattle.vba_meaning.specs.Memory.{Ending, Ended}
use Rattle.vba_meaning.specs.Effects.{Event, Printed}
use Rattle.vba_meaning.specs.Meaning.{meaning}

-- what a project is bound to, begun by its Main
unfoldable pub bound_of : List (Bool × List ℕ) → Answer
bound_of texts = bind_of some_outside (sources_from 1 texts) main

-- how a run ends, and what it tells; or why there is none
pub data Told : Type 0 where
  run_of : Ending → List Event → Told
  broken_rule : List (ℕ × ℕ × ℕ × ℕ) → Told
  left_at : ℕ → ℕ → ℕ → Told

abbrev pub told_by : Sheets → Answer → Told
told_by book (refused r) = broken_rule (told (Some r))
told_by book (not_built_at p) = left_at p.«module» p.line p.column
told_by book (bound_as pr) = let r = meaning pr book 100 in run_of r.ending r.events

unfoldable pub ran_all : List (Bool × List ℕ) → Told
unfolding bound_of
ran_all texts = told_by [] (bound_of texts)

-- the same over a book of two sheets, S and T, with nothing in their cells
abbrev empty_sheet : List ℕ → NamedSheet
empty_sheet name = record { name = name; content = no_content }

unfoldable pub ran_over : List ℕ → Told
unfolding bound_of
ran_over source = told_by (empty_sheet (codes "S") ∷ empty_sheet (codes "T") ∷ []) (bound_of (of_one source))

unfoldable pub ran : List ℕ → Told
unfolding ran_all
ran source = ran_all (of_one source)

abbrev pub ends : List Event → Told
ends events = run_of Ended events

abbrev pub lines : List (List ℕ) → List Event
lines [] = []
lines (units ∷ more) = Printed units true ∷ lines more
