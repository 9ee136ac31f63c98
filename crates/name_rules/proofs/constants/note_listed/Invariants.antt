use Rattle.std.proofs.Common.{◌≡◌, drop}
use Rattle.std.specs.Prelude.{flat_map}
use Rattle.constant_values.specs.declared_names.specs.binder.specs.Violations.{parameter_faults}
use Rattle.constant_values.specs.declared_names.specs.View.{scope_view}
use Rattle.said_parts.specs.View.{behind}
use Rattle.vba_module.specs.Headers.{all_of}
use Rattle.vba_tree.specs.View.{listed_view, parameter_view}
use Rattle.use_rules.specs.Found.{noted}
use Rattle.name_rules.proofs.constants.note_listed.Given as goal

abbrev pub invariant-loop-next : goal.invariant-loop-next
invariant-loop-next l =
    noted 20 l.least (flat_map (parameter_faults (scope_view l.constants.scope)) (behind parameter_view (drop l.next-index l.next-items)))
    ≡ noted 20 l.fn.least (flat_map (parameter_faults (scope_view l.constants.scope)) (all_of (listed_view parameter_view l.list)))
