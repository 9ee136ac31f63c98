use Rattle.std.proofs.Common.{◌≡◌, ◌++◌, map, drop}
use Rattle.constant_values.specs.declared_names.specs.binder.specs.Storage.{module_declarations}
use Rattle.bound_project.specs.View.{declaration_view}
use Rattle.constant_values.specs.declared_names.specs.View.{entry_view, scope_view}
use Rattle.bound_declarations.proofs.lists.module_variables.Given as goal

abbrev pub invariant-loop-entry : goal.invariant-loop-entry
invariant-loop-entry l =
    map declaration_view l.declarations.items ++ module_declarations (scope_view l.constants.scope) (map entry_view (drop l.entry-index l.entries))
    ≡ map declaration_view l.fn.declarations.items ++ module_declarations (scope_view l.constants.scope) (map entry_view l.entries)
