use Rattle.std.proofs.Common.{◌≡◌, ◌&&◌, map, drop}
use Rattle.bound_declarations.specs.constant_values.specs.declared_names.specs.binder.specs.Classes.{is_of_object}
use Rattle.bound_declarations.specs.constant_values.specs.declared_names.specs.binder.specs.Declarations.{Entry}
use Rattle.bound_declarations.specs.constant_values.specs.declared_names.specs.binder.specs.Scopes.{first_at, is_named}
use Rattle.bound_declarations.specs.constant_values.specs.declared_names.specs.View.{entry_view}
use Rattle.project_tables.proofs.class_tables.object_named.Given as goal

abbrev pub invariant-loop-number : goal.invariant-loop-number
invariant-loop-number l =
    first_at (λ (e : Entry). is_named l.name.name e.name && is_of_object e.what) l.number (map entry_view (drop l.number l.scope.here.now.entries.items))
    ≡ first_at (λ (e : Entry). is_named l.name.name e.name && is_of_object e.what) 0 (map entry_view l.scope.here.now.entries.items)
