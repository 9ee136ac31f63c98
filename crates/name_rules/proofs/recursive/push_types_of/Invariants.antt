use Rattle.std.proofs.Common.{◌≡◌, ◌+◌, [], ◌++◌, length, drop, take, map}
use Rattle.constant_values.specs.declared_names.specs.binder.specs.Violations as violations
use Rattle.constant_values.specs.declared_names.specs.View.{entry_view, scope_view}
use Rattle.name_rules.proofs.recursive.push_types_of.Given as goal

abbrev pub invariant-loop-entry : goal.invariant-loop-entry
invariant-loop-entry l =
    map (λ v. v.items) l.types.items ++ violations.types_of_entries (scope_view l.scope) (map entry_view (drop l.entry-index l.entries))
    ≡ map (λ v. v.items) l.fn.types.items ++ violations.types_of_entries (scope_view l.scope) (map entry_view l.entries)
