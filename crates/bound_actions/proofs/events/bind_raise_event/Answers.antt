use Rattle.std.proofs.Common.{◌≡◌, ℕ, List, Option, Some, option_map, sym, ap, ◌∙◌}
use Rattle.std.specs.Prelude.{bytes_eq}
use Rattle.vba_tree.specs.View.{event_arguments_view}
use Rattle.bound_project.specs.DraftView.{draft_view}
use Rattle.bound_project.specs.Project.{DeclaredEvent}
use Rattle.bound_project.specs.View.{event_view}
use Rattle.declared_names.specs.binder.specs.Constants.{home}
use Rattle.declared_names.specs.binder.specs.EventTables.{declared_events}
use Rattle.declared_names.specs.binder.specs.Scopes.{first_at}
use Rattle.bound_terms.specs.bound_accesses.specs.bound_names.specs.bound_members.specs.bound_calls.specs.bound_forms.specs.StatementsBound.{event_arguments}
use Rattle.bound_terms.specs.bound_accesses.specs.bound_names.specs.View.{env_view}
use Rattle.bound_actions.proofs.Raised.{event_stands}
use Rattle.bound_actions.proofs.events.bind_raise_event.Goals as goal

pub returns : goal.returns
returns c =
    let env = env_view c.args.env in
    let x = c.args.name.now in
    let f = c.in-Some in
    let event = event_view f.event.now in
    let first : List DeclaredEvent → Option (ℕ × DeclaredEvent) = λ l. first_at (λ (e : DeclaredEvent). bytes_eq e.name.fold x.name) 0 l in
    let found : first (declared_events (home env.scope env.scope.here) env.scope.here.entries) ≡ Some (f.number, event) =
    ap first (sym c.in_ok-events.ensures) ∙ sym c.in_ok-number.ensures ∙ ap (λ o. option_map (λ g. (g.0, event_view g.1.now)) o) f.is in
    event_stands env x (event_arguments env (option_map event_arguments_view c.args.arguments.now)) f.number event (draft_view c.args.draft.now) (draft_view c.raise_event.new.draft) c.in_ok-kind.kind c.requires.empty found c.in_ok-kind.ensures
