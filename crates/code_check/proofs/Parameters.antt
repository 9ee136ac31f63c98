-- Events of classes by their numbers, and what handles them.
use Rattle.std.proofs.Common.{◌≡◌, ◌↔◌, ℕ, zero, suc, ◌<◌, Bool, true, false, List, [], ◌∷◌, length, Some, None, sym, subst, arith}
use Rattle.std.specs.Prelude.{slice_index_or}
use Rattle.std.proofs.lemmas.Bool.{false≢true}
use Rattle.vba_values.specs.Types as type
use Rattle.bound_project.specs.Project.{Declarations, DeclaredEvent, Handler, class_at, no_event}
use Rattle.bound_project.specs.Whole.{HandlesEvent, HasProcedure}
use Rattle.code_check.specs.Questions.{parameters_of_event}

-- an event that is there
event_there : (es : List DeclaredEvent) (e n : ℕ) → parameters_of_event es e ≡ Some n → (e < length es) × (n ≡ length (slice_index_or es e no_event).parameters)
event_there [] e n h = let none : None ≡ Some n = h in absurd cc
event_there (x ∷ es) zero n h =
    let some : Some (length x.parameters) ≡ Some n = h in
    let same : n ≡ length x.parameters = cc in
    (omega arith, same)
event_there (x ∷ es) (suc e) n h = let r = event_there es e n h in (omega (arith, r.0), r.1)

event_past : (es : List DeclaredEvent) (e : ℕ) → parameters_of_event es e ≡ None → e < length es → ⊥
event_past [] e h l = absurd (omega arith)
event_past (x ∷ es) zero h l = let some : Some (length x.parameters) ≡ None = h in absurd cc
event_past (x ∷ es) (suc e) h l = event_past es e h (omega arith)

pub handles_by : (d : Declarations) (c : ℕ) (h : Handler) (n : ℕ) (b : Bool) → parameters_of_event (class_at d c).events h.event ≡ Some n
    → ((b ≡ true) ↔ HasProcedure d h.procedure n) → ((b ≡ true) ↔ HandlesEvent d (type.class c) h)
handles_by d c h n b there f =
    let r = event_there (class_at d c).events h.event n there in
    (λ t. (r.0, subst (λ m. HasProcedure d h.procedure m) r.1 (f.0 t)), λ g. f.1 (subst (λ m. HasProcedure d h.procedure m) (sym r.1) g.1))

pub handles_none : (d : Declarations) (c : ℕ) (h : Handler) → parameters_of_event (class_at d c).events h.event ≡ None → ((false ≡ true) ↔ HandlesEvent d (type.class c) h)
handles_none d c h none = (λ t. absurd (false≢true t), λ g. absurd (event_past (class_at d c).events h.event none g.0))
