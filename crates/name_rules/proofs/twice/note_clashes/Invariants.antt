use Rattle.std.proofs.Common.{◌≡◌, [], drop, take, map, reverse}
use Rattle.constant_values.specs.declared_names.specs.binder.specs.Violations.{later, clashes, place_of_name}
use Rattle.constant_values.specs.declared_names.specs.binder.specs.Declarations.{Entry}
use Rattle.constant_values.specs.declared_names.specs.View.{entry_view}
use Rattle.use_rules.specs.Found.{noted}
use Rattle.name_rules.proofs.twice.note_clashes.Given as goal

abbrev pub invariant-loop-number : goal.invariant-loop-number
invariant-loop-number l =
    noted 15 l.least (later clashes (λ (e : Entry). place_of_name e.name) (reverse (map entry_view (take l.number l.entries))) (map entry_view (drop l.number l.entries)))
    ≡ noted 15 l.fn.least (later clashes (λ (e : Entry). place_of_name e.name) [] (map entry_view l.entries))
