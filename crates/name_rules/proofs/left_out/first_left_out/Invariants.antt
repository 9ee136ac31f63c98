use Rattle.std.proofs.Common.{◌≡◌, drop, map}
use Rattle.vba_module.specs.Verdict.{broken}
use Rattle.constant_values.specs.declared_names.specs.binder.specs.LeftOut.{left_out_in}
use Rattle.constant_values.specs.declared_names.specs.binder.specs.Names.{scope_of}
use Rattle.constant_values.specs.declared_names.specs.binder.specs.Scopes as plain
use Rattle.constant_values.specs.declared_names.specs.binder.specs.Violations.{first_broken}
use Rattle.constant_values.specs.declared_names.specs.Outside.{the_outside}
use Rattle.constant_values.specs.declared_names.specs.View.{space_view}
use Rattle.name_rules.proofs.left_out.first_left_out.Given as goal

abbrev pub invariant-loop-space : goal.invariant-loop-space
invariant-loop-space l =
    first_broken (map (λ (space : plain.Space). broken 23 (left_out_in (scope_of the_outside (map space_view l.spaces) space))) (map space_view (drop l.space-index l.spaces)))
    ≡ first_broken (map (λ (space : plain.Space). broken 23 (left_out_in (scope_of the_outside (map space_view l.spaces) space))) (map space_view l.spaces))
