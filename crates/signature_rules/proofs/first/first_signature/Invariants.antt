use Rattle.std.proofs.Common.{◌≡◌, drop, map}
use Rattle.bound_declarations.specs.constant_values.specs.declared_names.specs.binder.specs.Names.{scope_of}
use Rattle.bound_declarations.specs.constant_values.specs.declared_names.specs.binder.specs.Scopes as plain
use Rattle.bound_declarations.specs.constant_values.specs.declared_names.specs.binder.specs.Violations.{first_broken}
use Rattle.bound_declarations.specs.constant_values.specs.declared_names.specs.Outside.{the_outside}
use Rattle.bound_declarations.specs.constant_values.specs.declared_names.specs.View.{space_view}
use Rattle.signature_rules.specs.Signatures.{signature_faults}
use Rattle.signature_rules.proofs.first.first_signature.Given as goal

abbrev pub invariant-loop-space : goal.invariant-loop-space
invariant-loop-space l =
    first_broken (map (λ (space : plain.Space). signature_faults (scope_of the_outside (map space_view l.spaces) space)) (map space_view (drop l.space-index l.spaces)))
    ≡ first_broken (map (λ (space : plain.Space). signature_faults (scope_of the_outside (map space_view l.spaces) space)) (map space_view l.spaces))
