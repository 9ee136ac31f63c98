use Rattle.std.proofs.Common.{◌≡◌, [], drop, take, map, reverse}
use Rattle.bound_declarations.specs.constant_values.specs.declared_names.specs.binder.specs.Violations.{later, place_of_name}
use Rattle.bound_declarations.specs.constant_values.specs.declared_names.specs.binder.specs.Declarations.{Entry}
use Rattle.bound_declarations.specs.constant_values.specs.declared_names.specs.View.{entry_view, scope_view}
use Rattle.signature_rules.specs.Signatures.{differ}
use Rattle.use_rules.specs.Found.{noted}
use Rattle.signature_rules.proofs.properties.note_properties.Given as goal

abbrev pub invariant-loop-number : goal.invariant-loop-number
invariant-loop-number l =
    noted 31 l.least (later (differ (scope_view l.scope)) (λ (e : Entry). place_of_name e.name) (reverse (map entry_view (take l.number l.entries))) (map entry_view (drop l.number l.entries)))
    ≡ noted 31 l.fn.least (later (differ (scope_view l.scope)) (λ (e : Entry). place_of_name e.name) [] (map entry_view l.entries))
