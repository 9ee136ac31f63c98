use Rattle.std.proofs.Common.{◌≡◌, drop, map}
use Rattle.std.specs.List.{list_any}
use Rattle.bound_declarations.specs.constant_values.specs.declared_names.specs.View.{entry_view, scope_view}
use Rattle.signature_rules.specs.Signatures.{entry_differs}
use Rattle.signature_rules.specs.View.{signature_view}
use Rattle.signature_rules.proofs.handlers.variables_differ.Given as goal

abbrev pub invariant-loop-entry : goal.invariant-loop-entry
invariant-loop-entry l =
    list_any (entry_differs (scope_view l.scope) l.handler.name.now (signature_view l.handler.given.now)) (map entry_view (drop l.entry-index l.entries))
    ≡ list_any (entry_differs (scope_view l.scope) l.handler.name.now (signature_view l.handler.given.now)) (map entry_view l.entries)
