use Rattle.std.proofs.Common.{◌≡◌, ◌+◌, [], ◌++◌, length, drop, take, map}
use Rattle.constant_values.specs.declared_names.specs.binder.specs.Violations as violations
use Rattle.constant_values.specs.declared_names.specs.View.{entry_view}
use Rattle.use_rules.specs.Found.{noted}
use Rattle.name_rules.proofs.recursive.note_recursive.Given as goal

abbrev pub invariant-loop-entry : goal.invariant-loop-entry
invariant-loop-entry l =
    noted 21 l.least (violations.recursive_in (map (λ v. v.items) l.types) l.number (map entry_view (drop l.entry-index l.entries)))
    ≡ noted 21 l.fn.least (violations.recursive_in (map (λ v. v.items) l.types) l.first (map entry_view l.entries))
