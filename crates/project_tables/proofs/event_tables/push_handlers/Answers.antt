use Rattle.std.proofs.Common.{◌≡◌, [], ◌∷◌, ◌++◌, map, sym, ap, subst, ◌∙◌}
use Rattle.bound_declarations.specs.constant_values.specs.declared_names.specs.binder.specs.EventTables.{handlers_from}
use Rattle.bound_declarations.specs.constant_values.specs.declared_names.specs.declared.entry.What.{What}
use Rattle.bound_declarations.specs.constant_values.specs.declared_names.specs.View.{scope_view, what_view}
use Rattle.vba_tree.specs.View.{variable_view}
use Rattle.bound_project.specs.View.{handler_view}
use Rattle.project_tables.proofs.Events.{variable_handled}
use Rattle.project_tables.proofs.event_tables.push_handlers.Goals as goal

pub returns-in_ok-push_variable_handlers-in-Variable : goal.returns-in_ok-push_variable_handlers-in-Variable
returns-in_ok-push_variable_handlers-in-Variable c =
    let s = scope_view c.args.constants.scope in
    let e = c.args.entry.now in
    let before = map handler_view c.args.handlers.now.items in
    let P : What → Type 0 = λ (w : What). map handler_view c.push_variable_handlers.new.handlers.items ≡ before ++ handlers_from s c.args.number (record { name = e.name.now; is_public = e.is_public; what = what_view w } ∷ []) in
    subst P (sym c.in-Variable.is)
    (c.in_ok-push_variable_handlers-in-Variable.ensures ∙ ap (λ hs. before ++ hs) (sym (variable_handled s c.args.number e.name.now e.is_public (variable_view c.in-Variable.variable.now))))
