use Rattle.std.proofs.Common.{◌≡◌, ◌++◌, map, drop}
use Rattle.constant_values.specs.declared_names.specs.binder.specs.Storage.{declarations_if}
use Rattle.bound_declarations.specs.Kept.{is_kept}
use Rattle.bound_project.specs.View.{declaration_view}
use Rattle.constant_values.specs.declared_names.specs.View.{local_view, scope_view}
use Rattle.bound_declarations.proofs.lists.kept_declarations.Given as goal

abbrev pub invariant-loop-local : goal.invariant-loop-local
invariant-loop-local l =
    map declaration_view l.declarations.items ++ declarations_if (is_kept l.which) (scope_view l.constants.scope) (map local_view (drop l.local-index l.locals))
    ≡ map declaration_view l.fn.declarations.items ++ declarations_if (is_kept l.which) (scope_view l.constants.scope) (map local_view l.locals)
