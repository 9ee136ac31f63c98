use Rattle.std.proofs.Common.{◌≡◌, ◌++◌, length}
use Rattle.bound_declarations.specs.Parameters.{next_items}
use Rattle.bound_declarations.specs.constant_values.specs.declared_names.specs.View.{scope_view}
use Rattle.signature_rules.specs.Signatures.{all_passed}
use Rattle.signature_rules.specs.View.{signature_view}
use Rattle.vba_module.specs.Headers.{all_of}
use Rattle.vba_tree.specs.View.{listed_view, parameter_view}
use Rattle.signature_rules.proofs.signature.push_listed.Given as goal

abbrev pub invariant-parameters : goal.invariant-parameters
invariant-parameters l =
    signature_view l.all.items ++ all_passed (scope_view l.constants.scope) l.takes_value (next_items l.left)
    ≡ signature_view l.fn.all.items ++ all_passed (scope_view l.constants.scope) l.takes_value (all_of (listed_view parameter_view l.list))

abbrev pub decreases-parameters : goal.decreases-parameters
decreases-parameters l = length l.left
