use Rattle.std.proofs.Common.{◌≡◌, false, length}
use Rattle.module_rules.specs.Found.{noted}
use Rattle.module_rules.specs.Seen.{parameters_behind}
use Rattle.vba_module.specs.Headers.{all_of, is_named, parameter_faults}
use Rattle.vba_tree.specs.View.{listed_view, parameter_view}
use Rattle.module_rules.proofs.parameters.note_listed.Given as goal

abbrev pub invariant-parameters : goal.invariant-parameters
invariant-parameters l =
    noted 14 l.least (parameter_faults (is_named l.types.module_name l.types.names.items) l.takes_value l.is_behind_optional (parameters_behind l.left))
    ≡ noted 14 l.fn.least (parameter_faults (is_named l.types.module_name l.types.names.items) l.takes_value false (all_of (listed_view parameter_view l.list)))

abbrev pub decreases-parameters : goal.decreases-parameters
decreases-parameters l = length l.left
