use Rattle.std.proofs.Common.{◌≡◌, drop}
use Rattle.module_rules.specs.Found.{noted}
use Rattle.module_rules.specs.Seen.{variables_behind}
use Rattle.vba_module.specs.Headers.{all_of, variables_faults}
use Rattle.vba_tree.specs.View.{listed_view, variable_view}
use Rattle.module_rules.proofs.bounds.note_bounds_of_variables.Given as goal

abbrev pub invariant-loop-next : goal.invariant-loop-next
invariant-loop-next l =
    noted 14 l.least (variables_faults (variables_behind (drop l.next-index l.next-items)))
    ≡ noted 14 l.fn.least (variables_faults (all_of (listed_view variable_view l.variables)))
