use Rattle.std.proofs.Common.{◌≡◌, drop, map}
use Rattle.std.specs.List.{list_any}
use Rattle.bound_declarations.specs.constant_values.specs.declared_names.specs.View.{entry_view, scope_view}
use Rattle.signature_rules.specs.Signatures.{differ}
use Rattle.signature_rules.proofs.properties.differs_among.Given as goal

abbrev pub invariant-loop-other : goal.invariant-loop-other
invariant-loop-other l =
    list_any (differ (scope_view l.scope) (entry_view l.entry)) (map entry_view (drop l.other-index l.others))
    ≡ list_any (differ (scope_view l.scope) (entry_view l.entry)) (map entry_view l.others)
