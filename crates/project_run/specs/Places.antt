-- Serves the code: the places of a project's procedures and statements by themselves.
use Rattle.std.specs.Prelude.{ℕ, List, [], map, Option, Some, None, unwrap_or, slice_get, slice_index_or, Vec}
use Rattle.std.specs.declared.alloc.Global.{Global}
use Rattle.vba_base.specs.declared.place.Place.{Place}
use Rattle.bound_project.specs.declared.project.Body.{Body}
use Rattle.bound_project.specs.Project.{Project, nowhere}

abbrev pub lists_of : List (Vec Place Global) → List (List Place)
lists_of vs = map (λ v. v.items) vs

-- the places of the headers of procedures
abbrev pub headers_of : Project → List Place
headers_of pr = map (λ p. p.place) pr.declared.procedures

-- the places of the statements of each procedure
abbrev pub places_of : Project → List (List Place)
places_of pr = map (λ b. map (λ s. s.place) b.statements) pr.bodies

-- those of a body in memory
abbrev pub statement_places : Body → List Place
statement_places b = map (λ s. s.place) b.statements.items

-- the place of a statement, or of the header where there is none
abbrev pub place_in : List Place → List (List Place) → (procedure : ℕ) → Option ℕ → Place
place_in headers places p None = slice_index_or headers p nowhere
place_in headers places p (Some i) = unwrap_or (slice_get (slice_index_or places p []) i) (slice_index_or headers p nowhere)
