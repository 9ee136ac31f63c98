use Rattle.std.proofs.Common.{◌≡◌, ◌++◌, length, map}
use Rattle.constant_values.specs.declared_names.specs.binder.specs.Storage.{bound_parameters}
use Rattle.bound_declarations.specs.Parameters.{next_items}
use Rattle.bound_project.specs.View as bound
use Rattle.constant_values.specs.declared_names.specs.View.{scope_view}
use Rattle.vba_module.specs.Headers.{all_of}
use Rattle.vba_tree.specs.View.{listed_view, parameter_view}
use Rattle.bound_declarations.proofs.parameters.push_parameters.Given as goal

abbrev pub invariant-parameters : goal.invariant-parameters
invariant-parameters l =
    map bound.parameter_view l.parameters.items
    ++ bound_parameters (scope_view l.constants.scope) l.takes_value (next_items l.left)
    ≡ map bound.parameter_view l.fn.parameters.items ++ bound_parameters (scope_view l.constants.scope) l.takes_value (all_of (listed_view parameter_view l.list))

abbrev pub decreases-parameters : goal.decreases-parameters
decreases-parameters l = length l.left
