use Rattle.std.proofs.Common.{◌≡◌, ℕ, List, ◌++◌, map, sym, ap, ◌∙◌}
use Rattle.bound_declarations.specs.constant_values.specs.declared_names.specs.binder.specs.EventTables.{events_of_space, handlers_of}
use Rattle.bound_declarations.specs.constant_values.specs.declared_names.specs.declared.entry.Entry.{Entry}
use Rattle.bound_declarations.specs.constant_values.specs.declared_names.specs.View.{entry_view, scope_view, space_view}
use Rattle.bound_project.specs.View.{handler_view}
use Rattle.project_tables.specs.EventParts.{names_in}
use Rattle.project_tables.proofs.Events.{names_of_space}
use Rattle.project_tables.proofs.event_tables.push_space_handlers.Goals as goal

pub returns : goal.returns
returns c =
    let s = scope_view c.args.scope in
    let space = space_view c.args.space.now in
    let names : names_in (map entry_view c.as_slice.result.now) ≡ events_of_space s space =
    ap (λ (es : List Entry). names_in (map entry_view es)) c.as_slice.ensures.value ∙ sym (names_of_space s space) in
    c.in_ok-push_entry_handlers.ensures
    ∙ ap (λ (ns : List (List ℕ)). map handler_view c.args.handlers.now.items ++ handlers_of s c.args.field c.args.variable.now 0 ns) names
