use Rattle.std.proofs.Common.{◌≡◌, drop, map}
use Rattle.bound_declarations.specs.constant_values.specs.declared_names.specs.View.{scope_view, space_view}
use Rattle.signature_rules.specs.Signatures.{class_differs}
use Rattle.signature_rules.specs.View.{signature_view}
use Rattle.signature_rules.proofs.handlers.class_differs.Given as goal

abbrev pub invariant-loop-space : goal.invariant-loop-space
invariant-loop-space l =
    class_differs (scope_view l.scope) (map space_view (drop l.space-index l.scope.spaces.now)) l.number l.handler.name.now l.source (signature_view l.handler.given.now)
    ≡ class_differs (scope_view l.scope) (map space_view l.scope.spaces.now) l.number l.handler.name.now l.source (signature_view l.handler.given.now)
