use Rattle.std.proofs.Common.{◌≡◌, ◌++◌, map, drop}
use Rattle.bound_declarations.specs.constant_values.specs.declared_names.specs.binder.specs.ClassTables.{public_members}
use Rattle.bound_project.specs.View.{named_view}
use Rattle.bound_declarations.specs.constant_values.specs.declared_names.specs.View.{entry_view, scope_view}
use Rattle.project_tables.proofs.class_tables.public_members.Given as goal

abbrev pub invariant-loop-number : goal.invariant-loop-number
invariant-loop-number l =
    map named_view l.members.items ++ public_members (scope_view l.constants.scope) l.number (map entry_view (drop l.number l.constants.scope.here.now.entries.items))
    ≡ public_members (scope_view l.constants.scope) 0 (map entry_view l.constants.scope.here.now.entries.items)
