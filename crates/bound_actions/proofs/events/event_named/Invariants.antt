use Rattle.std.proofs.Common.{◌≡◌, map, drop}
use Rattle.std.specs.Prelude.{bytes_eq}
use Rattle.bound_project.specs.Project.{DeclaredEvent}
use Rattle.bound_project.specs.View.{event_view}
use Rattle.bound_terms.specs.bound_accesses.specs.bound_names.specs.bound_members.specs.bound_calls.specs.bound_declarations.specs.constant_values.specs.declared_names.specs.binder.specs.Scopes.{first_at}
use Rattle.bound_actions.proofs.events.event_named.Given as goal

abbrev pub invariant-loop-event : goal.invariant-loop-event
invariant-loop-event l =
    first_at (λ (e : DeclaredEvent). bytes_eq e.name.fold l.name.name) l.number (map event_view (drop l.event-index l.events))
    ≡ first_at (λ (e : DeclaredEvent). bytes_eq e.name.fold l.name.name) 0 (map event_view l.events)
