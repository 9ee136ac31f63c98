-- The places of a project by themselves are those of its procedures and statements.
use Rattle.std.proofs.Common.{◌≡◌, ℕ, zero, suc, List, [], ◌∷◌, refl, ap, sym, ◌∙◌, subst}
use Rattle.std.specs.Prelude.{◌++◌, map, Vec, Option, Some, None, unwrap_or, slice_get, slice_index_or}
use Rattle.vba_base.specs.declared.place.Place.{Place}
use Rattle.bound_project.specs.Statements.{Statement}
use Rattle.bound_project.specs.Project.{Project, Procedure, Body, no_procedure, nowhere, statements_or, place_or, place_of}
use Rattle.std.specs.declared.alloc.Global.{Global}
use Rattle.bound_project.specs.View.{procedure_view}
use Rattle.bound_project.specs.declared.declarations.Procedure.{Procedure as StoredProcedure}
use Rattle.bound_project.specs.declared.project.Body.{Body as StoredBody}
use Rattle.bound_project.specs.declared.statement.StatementNode.{StatementNode}
use Rattle.bound_project.specs.declared.node.Node.{Node}
use Rattle.bound_project.specs.Pieces.{Tables}
use Rattle.bound_project.specs.Bodies.{statement_view, body_view}
use Rattle.project_run.specs.Places.{headers_of, places_of, place_in, lists_of, statement_places}

headers : (xs : List Procedure) (p : ℕ) → slice_index_or (map (λ x. x.place) xs) p nowhere ≡ (slice_index_or xs p no_procedure).place
headers [] p = refl
headers (x ∷ xs) zero = refl
headers (x ∷ xs) (suc p) = headers xs p

bodies : (bs : List Body) (p : ℕ) → slice_index_or (map (λ b. map (λ s. s.place) b.statements) bs) p [] ≡ map (λ s. s.place) (statements_or (slice_get bs p))
bodies [] p = refl
bodies (b ∷ bs) zero = refl
bodies (b ∷ bs) (suc p) = bodies bs p

got : (ss : List Statement) (i : ℕ) (d : Place) → unwrap_or (slice_get (map (λ s. s.place) ss) i) d ≡ place_or (slice_get ss i) d
got [] i d = refl
got (s ∷ ss) zero d = refl
got (s ∷ ss) (suc i) d = got ss i d

here : (pr : Project) (p : ℕ) (i : Option ℕ) → place_in (headers_of pr) (places_of pr) p i ≡ place_of pr p i
here pr p None = headers pr.declared.procedures p
here pr p (Some i) =
    ap (λ ss. unwrap_or (slice_get ss i) (slice_index_or (headers_of pr) p nowhere)) (bodies pr.bodies p)
    ∙ got (statements_or (slice_get pr.bodies p)) i (slice_index_or (headers_of pr) p nowhere)
    ∙ ap (λ d. place_or (slice_get (statements_or (slice_get pr.bodies p)) i) d) (headers pr.declared.procedures p)

pub placed : (pr : Project) (hs : List Place) (ss : List (List Place)) (p : ℕ) (i : Option ℕ) → hs ≡ headers_of pr → ss ≡ places_of pr
    → place_in hs ss p i ≡ place_of pr p i
placed pr hs ss p i e f = ap (λ a. place_in a ss p i) e ∙ ap (λ b. place_in (headers_of pr) b p i) f ∙ here pr p i

pub lists_append : (vs ws : List (Vec Place Global)) → lists_of (vs ++ ws) ≡ lists_of vs ++ lists_of ws
lists_append [] ws = refl
lists_append (v ∷ vs) ws = ap (λ xs. v.items ∷ xs) (lists_append vs ws)

pub headers_seen : (ps : List StoredProcedure) → map (λ p. p.place) ps ≡ map (λ p. p.place) (map procedure_view ps)
headers_seen [] = refl
headers_seen (p ∷ ps) = ap (λ xs. p.place ∷ xs) (headers_seen ps)

statements_seen : (t : Tables) (ns : List Node) (ss : List StatementNode) → map (λ s. s.place) ss ≡ map (λ s. s.place) (map (statement_view t ns) ss)
statements_seen t ns [] = refl
statements_seen t ns (s ∷ ss) = ap (λ xs. s.place ∷ xs) (statements_seen t ns ss)

pub bodies_seen : (t : Tables) (bs : List StoredBody) → map statement_places bs ≡ map (λ b. map (λ s. s.place) b.statements) (map (body_view t) bs)
bodies_seen t [] = refl
bodies_seen t (b ∷ bs) =
    ap (λ x. x ∷ map statement_places bs) (statements_seen t b.nodes.items b.statements.items)
    ∙ ap (λ xs. map (λ s. s.place) (map (statement_view t b.nodes.items) b.statements.items) ∷ xs) (bodies_seen t bs)
