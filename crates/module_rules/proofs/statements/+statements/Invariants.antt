use Rattle.std.proofs.Common.{◌≡◌, take, map}
use Rattle.vba_tree.specs.View.{next_view}
use Rattle.module_rules.specs.Found.{noted}
use Rattle.module_rules.specs.Statements.{rule_of, all_next_faults}
use Rattle.module_rules.proofs.statements.+statements.Given as goal

abbrev pub invariant-note_others-loop-next : goal.invariant-note_others-loop-next
invariant-note_others-loop-next l =
    l.least ≡ noted (rule_of l.check) l.fn.least (all_next_faults l.check (map next_view (take l.next-index l.next-items)))
